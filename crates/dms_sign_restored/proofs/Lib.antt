-- rows that are put one after the other
pub mod RowsPut
-- the text of a sign that was restored
pub mod RestoredText
-- a text puts a sign in one state at most
pub mod OneSign
-- the fields of a sign in range, and that signs that are made alike have the same text alone where they are the same
pub mod FieldsInRange
pub mod SameSign
pub mod SavedAgain
-- rows and parts that are put back
pub mod PutBack
-- what is put up, reported and shown by a sign that events lead to
pub mod ToldFaults
pub mod PutUps
pub mod Shapes
pub mod Going
pub mod Standing
-- each such sign is restored of its text
pub mod TakenUp
pub mod Reached
-- what a restored sign shows
pub mod ShownGood
