-- what a reader must believe: an object and why there is none, the order of objects and their walk, what publishing and
-- withdrawing leave, what a manager may set and what a Set leaves, and which names were set
pub mod Object
pub mod Objects
pub mod Publishing
pub mod Setting
pub mod Taken
-- what the code's values say; only proofs go through these
pub mod View
