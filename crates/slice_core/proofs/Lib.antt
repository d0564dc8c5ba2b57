pub mod Entries
pub mod SameSlice
pub mod Walked
pub mod Noted
pub mod Asked
