-- what a reader must believe of what a face lacks
pub mod LackText
