pub mod Alone
pub mod Objects
pub mod Sizes
pub mod Unions
pub mod SignWalk
pub mod DeviceWalk
