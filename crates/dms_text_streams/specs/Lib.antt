-- what a reader must believe: how failed calls are counted, what a call that failed half-way wrote, for how many octets
-- there is room, the lines of an input, the answers to them in turn, the description before them, and what is printed
-- of a fault (this profile)
pub mod Calls
pub mod Prefixes
pub mod Room
pub mod Lines
pub mod Conversation
pub mod DescriptionText
pub mod FaultTexts
pub mod Models
-- what the calls say of themselves
pub mod FaultsOfUsers
