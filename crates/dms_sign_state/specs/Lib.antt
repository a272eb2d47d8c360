-- what a reader must believe: the text of a state, its fields, and what is wrong with another text
pub mod NumberSettings
pub mod Fields
pub mod FieldsText
pub mod StateText
pub mod FieldFaults
pub mod FieldTexts
-- what is read, step by step
pub mod WordReading
pub mod FieldReading
