pub mod Appended
pub mod Named
pub mod Separators
