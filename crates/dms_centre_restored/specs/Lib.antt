-- what a reader must believe: which state a text makes, what is wrong with one that makes none, and what is printed
pub mod Restored
pub mod Faults
pub mod RestoredTexts
pub mod Saves
-- what is read, step by step, and what lacks
pub mod Lacks
pub mod WordReading
pub mod LineReading
pub mod JobReading
pub mod StateReading
pub mod FirstFault
