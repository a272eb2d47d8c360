-- what a reader must believe: signs as text, and what the calls answer
pub mod Fields
pub mod Description
pub mod BenchSign
pub mod Setups
pub mod FaultTexts
pub mod Causes
pub mod RefusedLine
pub mod Before
pub mod ShownLine
-- reading from the beginning, which only proofs go through: `read_is_spelled` and `spelled_is_read` in proofs/ join it
-- to the above
pub mod DescriptionReading
pub mod Views
pub mod PartsView
pub mod ReadingFaults
