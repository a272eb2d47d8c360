-- what holds of each state that a central system comes to
pub mod Heard
pub mod Ledgers
pub mod Reaching
-- texts that tell their values apart
pub mod Tells
pub mod Groupings
pub mod Words
pub mod Jobs
pub mod Endings
pub mod CentreTexts
-- what is put into a buffer
pub mod Lines
pub mod Putting
