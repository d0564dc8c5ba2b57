pub mod Binds
pub mod OneProgram
pub mod SignalPlaces
pub mod DriveHeads
pub mod DriveStatements
pub mod DriveItems
pub mod OutputNames
pub mod SignalsApart
