pub mod Tokens
pub mod TokenReading
pub mod Nesting
pub mod Lists
pub mod ListReading
