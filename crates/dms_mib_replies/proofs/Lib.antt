pub mod Walks
pub mod Fitting
