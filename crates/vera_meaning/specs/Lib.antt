pub mod Rests
pub mod Operators
pub mod Formats
pub mod Expressions
pub mod Statements
pub mod Slices
pub mod Driving
