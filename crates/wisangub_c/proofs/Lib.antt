pub mod CentreFaults
mod Entries
pub mod Given
mod RowLaws
pub mod SavedSizes
