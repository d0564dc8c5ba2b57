pub mod Chains
pub mod Arguments
pub mod Steps
pub mod WorkLists
pub mod Turns
pub mod Turned
pub mod CycleMoves
pub mod Meeting
pub mod DueFits
pub mod OneCycle
pub mod Putting
pub mod Sampling
pub mod Applying
pub mod Beginning
pub mod Runs
pub mod ApplyingAll
pub mod Ran
mod Places
