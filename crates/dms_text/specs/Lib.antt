-- what a reader must believe: how lines, words, numbers and octets are spelled (this profile)
pub mod Lines
pub mod Words
pub mod Numbers
pub mod Octets
-- reading from the beginning, which the calls say of themselves; `number_found`, `word_found` and their kin in proofs/
-- join it to the above
pub mod Reading
pub mod Views
