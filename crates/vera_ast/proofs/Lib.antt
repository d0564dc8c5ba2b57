mod ReservedWords
pub mod ExprViews
pub mod StmtViews
pub mod Lines
pub mod TypedExprViews
pub mod TypedPlaceViews
pub mod TypedStmtViews
pub mod TypesOf
