pub mod DigitPairs
pub mod ValueTable
pub mod Splits
mod Newlines
pub mod LineLaws
pub mod DigitsRead
pub mod NumberLaws
pub mod WordLaws
pub mod LineFilter
