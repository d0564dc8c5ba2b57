pub mod Sources
pub mod Answer
