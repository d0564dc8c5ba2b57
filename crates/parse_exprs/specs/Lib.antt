pub mod Sets
pub mod Operators
pub mod Expressions
pub mod ExpressionReading
