-- what a reader must believe: what each word of a line is to be, the first that is not, and how that is said; what
-- single words spell, and what lines that are printed have in common
pub mod Vocabulary
pub mod Form
pub mod Texts
pub mod Fields
pub mod LineText
-- reading from the beginning, which only proofs go through: proofs/FieldLaws.antt joins it to the above
pub mod FieldsReading
pub mod FieldsView
pub mod LineReading
