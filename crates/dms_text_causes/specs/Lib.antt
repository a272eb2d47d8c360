-- what a reader must believe: why a line is none of its kind, and how that is answered
pub mod LineCauses
