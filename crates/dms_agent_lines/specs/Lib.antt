-- what a reader must believe: the lines of a live sign beside which objects are published, and their answers
pub mod AgentCall
pub mod AgentLine
pub mod AgentForm
pub mod AgentAnswer
pub mod Alone
-- reading from the beginning, which the calls say of themselves; `answers_are_those_of_calls` joins it to the lines
pub mod AgentReading
-- what the code's values say; only proofs go through these
pub mod CallView
