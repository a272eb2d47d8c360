pub mod Order
pub mod FirstOctets
pub mod EightOctets
pub mod Found
pub mod Writes
pub mod Faultless
pub mod Judging
pub mod Naming
pub mod Telling
pub mod Only
mod PutBack
