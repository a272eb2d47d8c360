-- what a reader must believe of what is printed
pub mod CodeLine
pub mod CodeAnswers
pub mod ExitNumbers
pub mod ObjectNames
pub mod Printed
pub mod TextAnswers
pub mod ItemLines
pub mod ItemWords
pub mod InstanceNames
pub mod SpacedDigits
pub mod DatagramLines
