-- what a reader must believe: what the words of an object spell, the text of an agent's state, its parts, what its
-- lines of objects say, the objects to which their values are put back, and when those of two agents are alike
pub mod ObjectFields
pub mod SpelledValue
pub mod AgentText
pub mod Parts
pub mod ValueLines
pub mod PutBack
pub mod FaultTexts
pub mod Alike
