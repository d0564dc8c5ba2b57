mod CallSteps
mod FormatParts
mod GivenSteps
mod Splits
pub mod Wants
