-- what a reader must believe: events, the world after them, and what holds of it (this profile)
pub mod Event
pub mod World
pub mod Datagrams
pub mod Construction
pub mod Growing
pub mod Backed
pub mod GoodRows
pub mod Honest
pub mod InFlight
pub mod Headline
pub mod Always
pub mod CodeView
