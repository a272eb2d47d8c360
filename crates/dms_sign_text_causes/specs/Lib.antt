-- what a reader must believe: what the words of a description are to be, why a sign can not be made, and how that is
-- said
pub mod Forms
pub mod RowCauses
pub mod SignCauses
pub mod Texts
