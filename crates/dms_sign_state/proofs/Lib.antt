-- a text that is put into as many octets as it has
mod Filled
-- words put into a buffer, each behind a space
mod Putting
-- the rows of a type of memory, one by one
pub mod RowsWritten
-- the same text in other brackets
pub mod Groupings
-- what reads a text's front
pub mod Forms
-- octets as pairs of small hexadecimal digits
pub mod HexWords
-- the words of lines
pub mod WordForms
-- the lines of fields
pub mod LineForms
-- fields one after the other
pub mod FieldForms
-- the settings that are numbers
pub mod NumberForms
-- what was set, what is shown and what is reported
pub mod SettingForms
-- the rows of a type of memory
pub mod RowForms
-- the whole text
pub mod StateForms
-- how many lines the settings have
mod LineCounts
