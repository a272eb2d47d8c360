pub mod Bench
pub mod Extents
pub mod PartLaws
mod PlaceLaws
pub mod MatchLaws
pub mod Bools
pub mod Lists
pub mod RoomLaws
pub mod GrowthLaws
mod RoomTests
pub mod WalkLaws
pub mod GoodLaws
pub mod ReadingLaws
pub mod RuleLaws
pub mod ApartLaws
pub mod RunLaws
pub mod WidthRuns
