pub mod InterfaceLaws
pub mod CoverageLaws
pub mod Virtual
pub mod ItemLaws
pub mod FileLaw
pub mod Top
pub mod Unique
pub mod Answered
