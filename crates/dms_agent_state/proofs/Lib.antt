pub mod ObjectWordLaws
pub mod ValueLaws
mod Ends
mod Listed
mod LinesRead
mod Filled
pub mod WordForms
mod CutTexts
pub mod ValueLines
pub mod SavedLines
pub mod TakenOver
mod Kept
mod ReadLimits
