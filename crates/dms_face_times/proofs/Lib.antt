pub mod TimeLaws
pub mod FlashLaws
