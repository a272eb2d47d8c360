pub mod CallLaws
pub mod Causes
pub mod Faultless
pub mod Named
pub mod SetBack
pub mod SetLines
pub mod Signs
