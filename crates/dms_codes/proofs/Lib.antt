pub mod Options
pub mod Activations
pub mod Loops
pub mod Bits
pub mod Division
pub mod Places
pub mod Remainders
pub mod Eights
