pub mod SubIdentifiers
pub mod NameLaws
pub mod Table
