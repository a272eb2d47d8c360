-- what a reader must believe: which numbers say why a description, a text or a command is refused
pub mod Causes
pub mod WordCauses
pub mod SignCauses
pub mod LineCauses
pub mod TextCauses
pub mod CommandCauses
pub mod Telling
