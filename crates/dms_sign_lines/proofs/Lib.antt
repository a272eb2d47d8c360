pub mod GoodTexts
pub mod CallLaws
pub mod Causes
pub mod Seconds
pub mod Gets
