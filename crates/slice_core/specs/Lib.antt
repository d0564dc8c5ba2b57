pub mod Tree
pub mod Starts
pub mod Slices
pub mod Walks
