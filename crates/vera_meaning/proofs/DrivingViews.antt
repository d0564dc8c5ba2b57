-- The drives of a block as the code sees it.
use Rattle.std.proofs.Common.{List, [], ◌∷◌, ◌++◌, map}
use Rattle.vera_ast.specs.declared.typed.stmt.TypedBlock.{TypedBlock}
use Rattle.vera_ast.specs.declared.typed.stmt.TypedStmt.{TypedStmt}
use Rattle.vera_ast.specs.declared.typed.stmt.TypedStmt.TheViews as views
use Rattle.vera_ast.specs.declared.typed.stmt.TypedStmt.TheBlock.{hidden-the_row-TypedStmt-0 as row}
use Rattle.vera_ast.specs.Signals.{NamedSignal, DrivesOutputs, AllDriveOutputs}
use Rattle.vera_meaning.specs.Rests.{Item, Do}
use Rattle.vera_meaning.specs.Driving.{ItemsDrive}

row-into : (signals : List NamedSignal) (stmts : List TypedStmt) (rest : List Item) → AllDriveOutputs signals (row stmts) → ItemsDrive signals rest → ItemsDrive signals (map Do stmts ++ rest)
unfolding Rattle.vera_ast.specs.declared.typed.stmt.TypedStmt.TheBlock.hidden-the_row-TypedStmt-0 denote.Hole.Carrier.roll denote.Hole.Carrier.hidden
row-into signals [] rest drive after = after
row-into signals (s ∷ stmts) rest drive after = (drive.0, row-into signals stmts rest drive.1 after)

row-alone : (signals : List NamedSignal) (stmts : List TypedStmt) → AllDriveOutputs signals (row stmts) → ItemsDrive signals (map Do stmts)
unfolding Rattle.vera_ast.specs.declared.typed.stmt.TypedStmt.TheBlock.hidden-the_row-TypedStmt-0 denote.Hole.Carrier.roll denote.Hole.Carrier.hidden
row-alone signals [] drive = drive
row-alone signals (s ∷ stmts) drive = (drive.0, row-alone signals stmts drive.1)

row-from : (signals : List NamedSignal) (stmts : List TypedStmt) (rest : List Item) → ItemsDrive signals (map Do stmts ++ rest) → AllDriveOutputs signals (row stmts) × ItemsDrive signals rest
unfolding Rattle.vera_ast.specs.declared.typed.stmt.TypedStmt.TheBlock.hidden-the_row-TypedStmt-0 denote.Hole.Carrier.roll denote.Hole.Carrier.hidden
row-from signals [] rest drive = (tt, drive)
row-from signals (s ∷ stmts) rest drive =
    let later = row-from signals stmts rest drive.1 in
    ((drive.0, later.0), later.1)

pub block-into : (signals : List NamedSignal) (b : TypedBlock) (rest : List Item) → DrivesOutputs signals (views.Block b) → ItemsDrive signals rest → ItemsDrive signals (map Do b.stmts ++ rest)
unfolding Rattle.vera_ast.specs.declared.typed.stmt.TypedStmt.TheViews.roll-TypedStmt denote.Hole.Carrier.roll denote.Hole.Carrier.hidden
block-into signals b rest drive after = row-into signals b.stmts rest drive after

pub block-alone : (signals : List NamedSignal) (b : TypedBlock) → DrivesOutputs signals (views.Block b) → ItemsDrive signals (map Do b.stmts)
unfolding Rattle.vera_ast.specs.declared.typed.stmt.TypedStmt.TheViews.roll-TypedStmt denote.Hole.Carrier.roll denote.Hole.Carrier.hidden
block-alone signals b drive = row-alone signals b.stmts drive

pub block-from : (signals : List NamedSignal) (b : TypedBlock) (rest : List Item) → ItemsDrive signals (map Do b.stmts ++ rest) → DrivesOutputs signals (views.Block b) × ItemsDrive signals rest
unfolding Rattle.vera_ast.specs.declared.typed.stmt.TypedStmt.TheViews.roll-TypedStmt denote.Hole.Carrier.roll denote.Hole.Carrier.hidden
block-from signals b rest drive = row-from signals b.stmts rest drive
