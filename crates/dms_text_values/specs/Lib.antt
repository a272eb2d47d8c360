-- what a reader must believe: the names and the values that words spell, and how a value is printed
pub mod NameReading
pub mod ValueReading
pub mod ValueText
-- what the code's values say; only proofs go through these
pub mod View
