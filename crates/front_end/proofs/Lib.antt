pub mod Steps
pub mod OneAnswer
pub mod TypedSources
