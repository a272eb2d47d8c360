-- what a reader must believe: the words of which each value has one spelling, and what stands at a text's front
pub mod ExactWords
pub mod Fronts
