mod Written
mod Digits
pub mod CallReading
mod Parts
mod Taken
mod LineCuts
mod Turns
mod Journals
mod Descriptions
