pub mod DeclarationLaws
pub mod PartLaws
pub mod Regrouped
pub mod SimpleLaws
pub mod StatementLaws
pub mod StatementLevels
pub mod StatementDepths
