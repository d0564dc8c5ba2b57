pub mod Lines
pub mod Expressions
pub mod Statements
pub mod Interfaces
pub mod NotBuilt
pub mod Passing
