pub mod Values
pub mod Bindings
pub mod Messages
pub mod UsualMessages
pub mod Promises
pub mod ShorterSpellings
mod ShortestSpellings
pub mod CanonicalLaws
pub mod LimitsLaws
pub mod MessageOfLaws
pub mod Sizes
pub mod Prefixes
pub mod ShortPrefixes
pub mod LongPrefixes
pub mod Writes
pub mod FewBindings
pub mod Rows
