-- what a reader must believe: what can be set, what a value writes there, what writes give to an object and which
-- settings they leave, which names a SET has given, what a sign reports of its verdicts and decisions, what a
-- column of dmsMessageTable reads, and how it is said why a saved state is not taken up
pub mod Access
pub mod Settable
pub mod Assignment
pub mod Settings
pub mod MetNames
pub mod Ranges
pub mod Reports
pub mod Cells
pub mod RestoringTexts
-- what the changes of the code are in these words
pub mod ChangeView
-- what only proofs go through
pub mod Slots
