pub mod Files
pub mod Walks
