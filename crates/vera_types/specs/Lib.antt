pub mod StmtForms
pub mod OutlineForms
