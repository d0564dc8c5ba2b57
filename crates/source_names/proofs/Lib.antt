pub mod PlainLists
pub mod LexedWords
pub mod SignalNames
