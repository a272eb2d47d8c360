-- what a reader must believe: an operator's commands as text, and the ledger of what became of them
pub mod CommandFields
pub mod CommandLine
pub mod CommandForm
pub mod LedgerLine
-- what the calls say of themselves
pub mod CommandReading
pub mod CommandView
