pub mod Lists
pub mod NameLists
pub mod NameSets
pub mod Named
pub mod NumberLists
pub mod Tables
