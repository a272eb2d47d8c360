-- what a reader must believe: which sign a text makes of another, and what is printed where it makes none
pub mod Restored
pub mod RestoredTexts
pub mod Alike
pub mod Runs
pub mod Showing
