-- what a reader must believe: scripts of events, and reports of runs, as text
pub mod EventLine
pub mod EventForm
pub mod Script
pub mod RefusedScript
pub mod Report
pub mod Replayed
-- what the calls say of themselves
pub mod EventReading
pub mod EventView
pub mod ScriptRun
pub mod Reasons
