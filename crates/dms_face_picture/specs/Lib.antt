-- what a reader must believe: when something of a picture is lit, which lamps a path draws, and the whole document
pub mod Motion
pub mod Lamps
pub mod Picture
