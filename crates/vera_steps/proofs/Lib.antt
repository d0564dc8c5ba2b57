pub mod Carried
pub mod SideSteps
pub mod TargetSteps
