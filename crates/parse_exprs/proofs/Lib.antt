pub mod ExpressionLaws
pub mod ExpressionLevels
pub mod Depths
pub mod Chains
pub mod PostNames
pub mod PostLevels
