-- what a reader must believe: the lines to a central system, what each makes of it and what it answers
pub mod Calls
pub mod SpelledCalls
pub mod CallForm
pub mod BadValue
pub mod Answers
-- what the calls say of themselves
pub mod CallReading
pub mod CodeView
