-- A run before its first slice.
use Rattle.std.specs.Prelude.{◌≡◌, [], ◌∷◌}
use Rattle.store_api.specs.Places.{nothing_written}
use Rattle.vera_ast.specs.declared.typed.file.TypedProgram.{TypedProgram}
use Rattle.vera_ast.specs.declared.typed.stmt.TypedStmt.TheViews.{Block}
use Rattle.vera_meaning.specs.Rests.{Do}
use Rattle.plain_run.specs.declared.cycles.Run.{Run}
use Rattle.plain_run.specs.Values.{contents_of}
use Rattle.plain_run.specs.Work.{agenda_of}

-- the block is still to do, and nothing was told or written
pub record IsBegun (run : Run) (program : TypedProgram) : Type 0 where
  pub agenda : agenda_of run.agenda.items ≡ Do (Block program.block) ∷ []
  pub contents : contents_of run.values ≡ nothing_written
  pub printed : run.log.printed.items ≡ []
  pub applied : run.applied.items ≡ []
  pub cycle : run.cycle ≡ 0
