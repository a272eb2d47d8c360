-- what is taken up leaves a state that a central system comes to
pub mod TakenUp
-- octets that are compared are the same
pub mod SameTexts
-- the code of the last entry of a ledger
pub mod LastCode
-- readings that go on, or come to an end
pub mod Readings
-- what is spelled so is read as that: words, lines, jobs, ledgers, the whole
pub mod WordsRead
pub mod LinesRead
pub mod JobsRead
pub mod PhasesRead
-- what is read is spelled so: words, and lines, each whatever stands behind it
pub mod WordsFound
pub mod LinesFound
pub mod SingleLines
-- where a reading comes to an end
pub mod Stops
pub mod PhasesStop
pub mod EntriesStop
pub mod LedgersStop
pub mod StatesStop
-- a text goes wrong at one line
pub mod OneLine
pub mod LedgersRead
pub mod StatesRead
-- how many octets of two texts are the same
pub mod SameFront
-- a run in which a central system is saved is that without
pub mod SameRun
