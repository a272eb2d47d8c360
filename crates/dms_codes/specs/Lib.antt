-- what a reader must believe: the checksum of a message, the codes and their octets, the types of memory, the statuses
-- of a row, what puts a message up, what is wrong with one
pub mod Checksum
pub mod Codes
pub mod Memory
pub mod Limits
pub mod Status
pub mod Mode
pub mod ValidationError
-- what only proofs go through: a register in place of the bits that a division has still to add
pub mod Register
