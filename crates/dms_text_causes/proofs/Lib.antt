pub mod CauseLaws
pub mod KeywordLines
pub mod WordsFollow
