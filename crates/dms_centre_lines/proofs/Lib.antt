pub mod CallLaws
pub mod CallMemory
pub mod Causes
