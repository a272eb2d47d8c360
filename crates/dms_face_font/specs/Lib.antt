-- what a reader must believe: a font, its pictures, and the text that spells it (this profile)
pub mod Glyph
pub mod Font
pub mod Widths
pub mod Held
pub mod FontText
pub mod Fault
pub mod FaultTexts
-- reading from the beginning, which names the first fault; `font_found` and `font_only` in proofs/ join it to the above
pub mod FontReading
pub mod FontView
