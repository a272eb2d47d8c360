-- what a reader must believe: the objects of a sign in one table, and their names, as numbers and as octets
pub mod Objects
pub mod Names
pub mod TableLaws
pub mod NameOctets
