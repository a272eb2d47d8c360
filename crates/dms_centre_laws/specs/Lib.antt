-- What a reader of the laws must believe: what they are stated in.
pub mod RequestNumbers
pub mod Ledger
-- What only proofs go through.
pub mod Numbered
