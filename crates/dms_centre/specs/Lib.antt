-- What a reader must believe: the machine of the central system, and what the code's types say in its words.
pub mod State
pub mod Sending
pub mod Replies
pub mod Commands
pub mod Resending
pub mod Inputs
pub mod Room
pub mod CodeView
pub mod Texts
pub mod Restoring
pub mod RestoringTexts
-- What its laws are stated in.
pub mod History
-- What holds between its calls.
pub mod Invariant
-- What only proofs go through.
pub mod ByPhase
