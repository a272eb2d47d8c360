-- what a reader must believe: what a picture is, and which calls count one more
pub mod Watched
