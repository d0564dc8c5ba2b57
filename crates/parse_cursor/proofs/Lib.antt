pub mod OneOf
pub mod ListTurns
pub mod Samples
pub mod TokenLaws
pub mod ListLaws
