pub mod Words
pub mod Progress
pub mod Views
pub mod Ranges
