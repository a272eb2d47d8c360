-- what a reader must believe: rows and what changes them, validation, what a table is made of, what a code activates
pub mod Rows
pub mod Validation
pub mod Stock
pub mod Activation
pub mod SavedRows
pub mod SavedShown
pub mod FaultTexts
-- what the code's fields and views are in these words
pub mod RowsView
pub mod ShownView
-- what only proofs go through
pub mod ValidatorView
pub mod PlaceView
pub mod TableView
pub mod WritableView
pub mod CountsView
