pub mod CommandLaws
pub mod CommandCauses
mod LedgerLines
pub mod CodeDigits
pub mod WantedWords
