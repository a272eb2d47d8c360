pub mod JobLaws
pub mod Checksums
pub mod Lengths
pub mod Requests
pub mod Written
pub mod ShortRequests
pub mod ShortFields
