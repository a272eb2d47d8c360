-- what a reader must believe: a drawn page (its cells are `cell_of` of dms_face), what the calls answer, which cells
-- show the same, and pages as text and as octets
pub mod Drawn
pub mod DrawnView
pub mod FaultTexts
pub mod SameCells
pub mod PageText
pub mod PageOctets
-- what only proofs go through
pub mod StylingView
pub mod Laid
pub mod Drawing
pub mod Masks
pub mod Styled
pub mod Styles
