-- What a reader must believe: what a message says, which octets spell it, and the shortest ones.
pub mod Message
pub mod ErrorStatus
pub mod Tags
pub mod Spelling
pub mod Limits
pub mod Canonical
pub mod Response
pub mod Written
-- The message that octets spell, as a function: the laws say that it is the one that they spell.
pub mod MessageOf
-- Reading from the beginning, which finds the first fault: what the calls say of themselves. Laws join it to Spelling.
pub mod Reading
-- What only proofs go through, and what the code's types say.
pub mod Walk
pub mod Prefix
pub mod View
pub mod PduView
pub mod UnreadView
