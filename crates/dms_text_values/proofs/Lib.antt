pub mod Appended
pub mod SubIdentifiers
pub mod NameLaws
