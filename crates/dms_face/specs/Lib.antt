-- what a reader must believe: a face, where the characters of a text stand on it, which texts are good, and what each
-- cell shows
pub mod Face
pub mod Fault
pub mod FaultCode
pub mod FaultTexts
pub mod Justification
pub mod Layout
pub mod Room
pub mod Fit
pub mod Cells
pub mod Rules
-- what only proofs go through: one walk over a text, and running sums
pub mod OnePass
pub mod Totals
pub mod Runs
pub mod Walked
