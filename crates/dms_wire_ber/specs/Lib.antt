-- What a reader must believe: the content and the length of each element, in any accepted form and in the shortest, and
-- their limits.
pub mod Limits
pub mod Tags
pub mod Length
pub mod Element
pub mod Integer
pub mod ObjectIdentifier
pub mod NameOrder
pub mod NameText
pub mod FaultText
-- Reading from the beginning, which finds the first fault: what the calls say of themselves.
pub mod NameReading
pub mod NameWalk
pub mod Reading
