pub mod Refusals
pub mod DriveLines
pub mod Answers
pub mod Readings
pub mod Running
pub mod Top
