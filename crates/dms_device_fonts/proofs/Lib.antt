pub mod Orders
pub mod TreeWalks
pub mod Spans
pub mod Lowest
pub mod Nodes
pub mod ValueLaws
pub mod Choices
