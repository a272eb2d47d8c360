-- what a reader must believe: what a sign is made with, its state, what its objects read and take, requests and
-- replies, events, and what is promised of them
pub mod Communities
pub mod Configuration
pub mod State
pub mod Construction
pub mod Values
pub mod OwnCodes
pub mod SetRequest
pub mod Requests
pub mod Reply
pub mod Events
pub mod Promises
pub mod InRange
pub mod Transitions
pub mod Kept
pub mod Restoring
-- what the code's fields and receipts are in these words
pub mod KnownTexts
pub mod SignView
pub mod ReplyView
-- what only proofs go through
pub mod SetView
pub mod Typed
