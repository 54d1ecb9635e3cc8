pub mod Balances
pub mod Keys
pub mod Walks
pub mod MoneySums
pub mod MoneyRead
pub mod MoneyBlocks
pub mod MoneyTurns
pub mod MoneyMoves
pub mod MoneySound
pub mod MoneyKept
pub mod MoneyForms
mod MoneyRows
