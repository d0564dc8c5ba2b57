pub mod Answering
pub mod DataTypeSteps
mod Descents
pub mod Items
pub mod NameSets
mod NameViews
mod NumberViews
mod Ones
mod ScopeMaps
mod SignalMaps
pub mod StepsOpened
mod Widths
