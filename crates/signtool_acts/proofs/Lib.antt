pub mod Parts
pub mod Carried
pub mod Calls
pub mod Ends
-- conversations that begin with a state
pub mod GoingOn
