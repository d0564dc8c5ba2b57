pub mod Indexed
pub mod Marked
pub mod Allowed
pub mod Orders
pub mod Labelled
pub mod Unlinked
