pub mod Found
pub mod Settable
pub mod TakenSlots
pub mod WrittenObjects
