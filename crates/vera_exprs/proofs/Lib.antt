mod WalkSteps
mod WalkViews
