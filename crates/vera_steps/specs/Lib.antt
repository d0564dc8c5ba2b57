pub mod SideLists
pub mod SimpleForms
pub mod TargetLists
