-- what a reader must believe: the text of a state, and what holds of each that a central system comes to
pub mod CentreText
pub mod Reached
