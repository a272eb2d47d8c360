mod BenchWorld
mod ScriptText
mod Silence
mod Altered
mod TableRows
mod WorkedHeadline
mod Worked
