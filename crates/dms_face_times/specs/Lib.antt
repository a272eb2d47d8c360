-- what a reader must believe: the times of pages, which page is up, and when what it shows changes
pub mod Times
pub mod Turns
pub mod Due
-- what only proofs go through
pub mod Walk
pub mod LetteringView
