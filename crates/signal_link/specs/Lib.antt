pub mod Linked
pub mod Empty
pub mod Numbering
pub mod Marks
pub mod Roles
pub mod Linking
