mod BenchFresh
pub mod EventLaws
mod EventsRead
pub mod EventsRun
mod EventFits
mod ScriptRead
mod ScriptCauses
mod ScriptRanges
mod SpelledOctets
pub mod EventMemory
mod OftenLines
mod ShortNumbers
