mod CutSteps
mod PostSteps
mod ProductionSteps
mod ValueSteps
