-- which instances a sign has, and how they are walked
pub mod Objects
-- only proofs go through these
pub mod Places
pub mod NameReading
