-- what a reader must believe: what a Get and a GetNext are answered, and what a walk is
pub mod Replies
pub mod Walk
-- what the code's types say
pub mod Next
