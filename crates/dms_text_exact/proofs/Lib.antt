-- what a test lets through
mod Tests
-- what stands at the front of a text, and between octets that end it
pub mod FrontLaws
-- each word that is written is read, and what is read is written so
pub mod DigitLaws
-- pairs of small digits, and the table of their values
mod PairLaws
pub mod NumberLaws
pub mod AddressLaws
