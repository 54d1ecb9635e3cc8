pub mod Follows
pub mod Places
pub mod Lists
pub mod Heaps
pub mod Reading
pub mod Recovering
pub mod Fronts
pub mod Mounted
pub mod Creating
pub mod Lives
mod Again
pub mod Standing
mod Found
mod Currents
mod Ready
mod First
pub mod Sealing
pub mod Patches
pub mod Holding
pub mod PatchLaws
pub mod Patched
pub mod PatchNext
pub mod AheadLaws
mod Rises
mod Meanwhile
pub mod SealMeanwhile
pub mod BaseStands
pub mod NextBase
pub mod Lasts
pub mod Turned
pub mod Longest
pub mod Sizing
pub mod ApartPages
pub mod ApartLaws
mod ApartRecovers
mod TurnMeanwhile
mod SealRecovers
mod Undone
pub mod Worked
