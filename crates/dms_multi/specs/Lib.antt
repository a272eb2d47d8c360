-- what a reader must believe: the items of MULTI, their ranges, which octets spell them, and their canonical text
pub mod Item
pub mod Range
pub mod Grammar
pub mod Canonical
pub mod Fault
pub mod FaultTexts
-- reading from the beginning, which the calls say of themselves; the laws of `laws` join it to the grammar
pub mod Outcomes
pub mod Reading
pub mod TagReading
-- what only proofs go through
pub mod Appending
