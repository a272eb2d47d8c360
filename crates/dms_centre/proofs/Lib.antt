pub mod Unheard
pub mod Entries
pub mod Rising
pub mod Fine
pub mod Restored
pub mod ShortNames
