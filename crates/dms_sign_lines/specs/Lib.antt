-- what a reader must believe: the lines to a live sign, and their answers
pub mod SignCall
pub mod SignLine
pub mod SignForm
pub mod Answer
pub mod GoodTexts
-- what the calls say of themselves
pub mod SignReading
pub mod CallView
