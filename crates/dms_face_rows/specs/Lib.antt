-- what a reader must believe: which row of a text's pages is put in a buffer
pub mod Rows
-- what only proofs go through
pub mod NoGlyph
pub mod Held
pub mod Drawing
