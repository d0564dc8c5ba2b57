pub mod CallForms
pub mod FormatSteps
pub mod Splitting
pub mod Wanting
