mod BlockSteps
mod BodySteps
mod StmtWalks
mod OutlineSteps
