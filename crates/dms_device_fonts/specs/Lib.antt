-- what a reader must believe: objects as a tree of numbers, and the tree of the fonts
pub mod Tree
pub mod Fonts
-- what the code's values say; only proofs go through these
pub mod View
