-- what a reader must believe: what the refusal of an input says, what is printed of it, the state of a sign or of its
-- central system that stands before a conversation, and what a call prints (this profile)
pub mod Unseen
pub mod Refused
pub mod RefusalText
pub mod RestoredBefore
pub mod RestoredCentre
pub mod CallAnswers
