pub mod Texts
pub mod Ringed
pub mod Designed
pub mod Dues
pub mod Causes
