-- what a reader must believe: what the names of an agent read, what comes of a datagram, and what is promised of both
pub mod Values
pub mod Received
pub mod Promises
