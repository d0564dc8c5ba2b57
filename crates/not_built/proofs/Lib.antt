pub mod Firsts
pub mod ExprFirsts
pub mod StmtFirsts
pub mod InterfaceFirsts
