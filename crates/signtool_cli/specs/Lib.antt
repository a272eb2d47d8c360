-- what a reader must believe: which words are numbers, and what is said of words that are no call (this profile)
pub mod Numbers
pub mod UsageText
