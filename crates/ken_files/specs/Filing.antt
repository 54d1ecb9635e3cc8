-- Files under paths: what contracts see of them, and what opening one and putting it back does.
use Rattle.std.specs.Prelude.{◌≡◌, ◌≢◌, ℕ, ◌≤◌, List, ◌++◌, ◌∷◌, Bool, true, false, decimal, Option, Some, option_map, Result, Ok, Err, IfOk, OnErr}
use Rattle.ken_disk.specs.Causes.{Rose}
use Rattle.ken_disk.specs.Story.{Story, IsAtRest, Tells}
use Rattle.ken_files.specs.declared.faults.OpenFault.{OpenFault}
use Rattle.ken_files.specs.declared.faults.OpenFault.TheVariants.{Failed, Memory}

-- the path of a node's disk: the prefix, the node, a dot and the disk's number
abbrev pub path_of : List ℕ → ℕ → ℕ → List ℕ
path_of prefix node disk = prefix ++ (decimal node ++ 46 ∷ decimal disk)

-- files under paths
pub record Filing (F : Type 0) : Type 0 where
  -- the file that was put back last under each
  pub put : List ℕ → Option F
  -- the bytes that stand there
  pub bytes : List ℕ → Option (List ℕ)
  -- how many openings failed
  pub failures : ℕ
  -- whether there is room to put a file back
  pub room : List ℕ → Bool

-- what contracts see of one file, and whether it and its path are told
pub record FileViews (F : Type 0) : Type 0 where
  pub tells : Bool
  pub told : F → Option Story
  pub size : F → ℕ
  pub faults : F → ℕ

-- the bytes that a file tells
abbrev pub bytes_of : {F : Type 0} → FileViews F → F → Option (List ℕ)
bytes_of views file = option_map (λ h. h.now.seen) (views.told file)

-- something is told
abbrev pub IsSome : {X : Type 0} → Option X → Type 0
IsSome {X} told = (x : X) × (told ≡ Some x)

-- the count never falls, and rises only in an opening that answers that it failed
abbrev pub HasOpenCause : {T : Type 0} → ℕ → ℕ → Result T OpenFault → Type 0
HasOpenCause before now (Ok _) = now ≡ before
HasOpenCause before now (Err Memory) = now ≡ before
HasOpenCause before now (Err Failed) = (before ≤ now) × Rose before now

-- the files under all other paths are as they were
abbrev pub OthersStay : {F : Type 0} → List ℕ → Filing F → Filing F → Type 0
OthersStay path old new = (p : List ℕ) → p ≢ path → (new.put p ≡ old.put p) × (new.bytes p ≡ old.bytes p)

-- no room is lost
abbrev pub KeepsRoom : {F : Type 0} → Filing F → Filing F → Type 0
KeepsRoom old new = (p : List ℕ) → old.room p ≡ true → new.room p ≡ true

module _ {F : Type 0} (views : FileViews F) where
  -- a file that was opened: nothing is pending in it, and no call of it failed
  pub record IsOpened (file : F) : Type 0 where
    pub rests : Tells (views.told file) (λ h. IsAtRest h.now)
    pub none : views.faults file ≡ 0
    pub speaks : views.tells ≡ true → IsSome (views.told file)

  -- a file was opened under a path, a fresh one or the one that stands there, or it wasn't. One that isn't fresh is there
  -- with its bytes; after an error what stands there stays
  pub record Finds (path : List ℕ) (fresh : Bool) (old new : Filing F) (result : Result F OpenFault) : Type 0 where
    pub opened : IfOk result IsOpened
    pub empty : fresh ≡ true → IfOk result (λ file. views.size file ≡ 0)
    pub reads : views.tells ≡ true → fresh ≡ false → IfOk result (λ file. old.bytes path ≡ bytes_of views file)
    pub room : IfOk result (λ file. new.room path ≡ true)
    pub rooms : KeepsRoom old new
    pub others : OthersStay path old new
    pub stays : fresh ≡ false → OnErr result (new.put path ≡ old.put path) × OnErr result (new.bytes path ≡ old.bytes path)
    pub cause : HasOpenCause old.failures new.failures result

  -- a file was put back under a path
  pub record PutsBack (path : List ℕ) (file : F) (old new : Filing F) : Type 0 where
    pub put : views.tells ≡ true → new.put path ≡ Some file
    pub bytes : views.tells ≡ true → new.bytes path ≡ bytes_of views file
    pub rooms : KeepsRoom old new
    pub others : OthersStay path old new
    pub failures : new.failures ≡ old.failures
