pub mod ObjectValues
pub mod Codes
pub mod Endings
pub mod Answers
pub mod Ledger
