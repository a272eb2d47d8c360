-- octets that have a place in a buffer, and those that have none
pub mod Laid
-- octets put into a buffer one after the other
pub mod Parts
-- texts of many things, one after the other
pub mod Many
-- a text into as many octets as it has
pub mod Whole
-- digits of octets, some after others
pub mod Digits
-- the table of the digits of octets
pub mod Pairs
