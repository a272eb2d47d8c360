pub mod WordReading
pub mod FieldLaws
pub mod WordTests
pub mod LineLaws
pub mod AddressLaws
