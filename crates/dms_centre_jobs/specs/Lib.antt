-- What a reader must believe: commands, jobs and the request of each step, and what the code's types say in their
-- words.
pub mod Job
pub mod Steps
pub mod Commands
pub mod PublicationView
pub mod JobView
pub mod CodeView
-- What its laws are stated in.
pub mod Requests
