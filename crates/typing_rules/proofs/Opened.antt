-- All definitions of the walk, opened together: what computes the typing of a source names this one.

unfoldable pub opened : Unit {0}
unfolding Rattle.typing_rules.specs.Checked.◌>>=◌ Rattle.typing_rules.specs.Checked.refuse Rattle.typing_rules.specs.Checked.keeps Rattle.typing_rules.specs.Checked.known Rattle.typing_rules.specs.Checked.each Rattle.typing_rules.specs.Checked.perhaps Rattle.typing_rules.specs.Types.width_from Rattle.typing_rules.specs.Types.descends Rattle.typing_rules.specs.Operators.works_in Rattle.typing_rules.specs.Scopes.is_among Rattle.typing_rules.specs.Scopes.meaning_in Rattle.typing_rules.specs.Scopes.meaning_of Rattle.typing_rules.specs.Scopes.callee_of Rattle.typing_rules.specs.Scopes.later Rattle.typing_rules.specs.Words.beside Rattle.typing_rules.specs.Words.built_in Rattle.typing_rules.specs.Words.mode Rattle.typing_rules.specs.Words.is_word Rattle.typing_rules.specs.Constants.name_known Rattle.typing_rules.specs.Constants.names_known Rattle.typing_rules.specs.Constants.all_names_known Rattle.typing_rules.specs.Constants.link_names_known Rattle.typing_rules.specs.Constants.form_names_known Rattle.typing_rules.specs.Constants.suffix_names_known Rattle.typing_rules.specs.Constants.one_suffix_known Rattle.typing_rules.specs.Constants.number_in Rattle.typing_rules.specs.Constants.number_after Rattle.typing_rules.specs.Constants.number_of_form Rattle.typing_rules.specs.Constants.constant Rattle.typing_rules.specs.DataTypes.range Rattle.typing_rules.specs.DataTypes.bits Rattle.typing_rules.specs.DataTypes.data_type Rattle.typing_rules.specs.DataTypes.variable_type Rattle.typing_rules.specs.DataTypes.variable_types Rattle.typing_rules.specs.DataTypes.names_in Rattle.typing_rules.specs.DataTypes.decl_types Rattle.typing_rules.specs.Heads.value_of Rattle.typing_rules.specs.Heads.argument Rattle.typing_rules.specs.Formats.parts_from Rattle.typing_rules.specs.Formats.format Rattle.typing_rules.specs.Formats.conversions Rattle.typing_rules.specs.Formats.all_print Rattle.typing_rules.specs.Arguments.all_meet Rattle.typing_rules.specs.Arguments.all_settable Rattle.typing_rules.specs.Arguments.all_suit Rattle.typing_rules.specs.Operands.typed_arguments Rattle.typing_rules.specs.Operands.mode_in Rattle.typing_rules.specs.Operands.count_in Rattle.typing_rules.specs.Operands.operands_in Rattle.typing_rules.specs.Operands.types_in Rattle.typing_rules.specs.Operands.places_in Rattle.typing_rules.specs.Operands.format_in Rattle.typing_rules.specs.Operands.behind_format Rattle.typing_rules.specs.Calls.built_in_call Rattle.typing_rules.specs.Calls.call Rattle.typing_rules.specs.Calls.wanted Rattle.typing_rules.specs.Productions.conditional Rattle.typing_rules.specs.Productions.chained Rattle.typing_rules.specs.Productions.chain Rattle.typing_rules.specs.Productions.unary Rattle.typing_rules.specs.Productions.concatenation Rattle.typing_rules.specs.Productions.replication Rattle.typing_rules.specs.Posts.name Rattle.typing_rules.specs.Posts.member Rattle.typing_rules.specs.Posts.cut_head Rattle.typing_rules.specs.Posts.index Rattle.typing_rules.specs.Posts.bits Rattle.typing_rules.specs.Expressions.read_as Rattle.typing_rules.specs.Expressions.walk Rattle.typing_rules.specs.Expressions.walk_links Rattle.typing_rules.specs.Expressions.walk_values Rattle.typing_rules.specs.Expressions.walk_form Rattle.typing_rules.specs.Expressions.walk_suffixes Rattle.typing_rules.specs.Expressions.walk_suffix Rattle.typing_rules.specs.Expressions.walk_arguments Rattle.typing_rules.specs.Expressions.expr Rattle.typing_rules.specs.Drives.drive Rattle.typing_rules.specs.Drives.delay Rattle.typing_rules.specs.Drives.drive_stmt Rattle.typing_rules.specs.Assignments.right_side Rattle.typing_rules.specs.Assignments.assign Rattle.typing_rules.specs.Assignments.add Rattle.typing_rules.specs.Assignments.count Rattle.typing_rules.specs.Assignments.step Rattle.typing_rules.specs.Assignments.declared_value Rattle.typing_rules.specs.Blocks.placed Rattle.typing_rules.specs.Blocks.placed_decls Rattle.typing_rules.specs.Blocks.declared_in Rattle.typing_rules.specs.Blocks.scope_of Rattle.typing_rules.specs.Blocks.inside Rattle.typing_rules.specs.Blocks.local_decls Rattle.typing_rules.specs.Blocks.declared_variable Rattle.typing_rules.specs.Blocks.typed_decl Rattle.typing_rules.specs.Blocks.typed_decls Rattle.typing_rules.specs.Waits.edge_stmt Rattle.typing_rules.specs.Waits.window Rattle.typing_rules.specs.Waits.term Rattle.typing_rules.specs.Waits.expect_stmt Rattle.typing_rules.specs.Statements.vector Rattle.typing_rules.specs.Statements.call_stmt Rattle.typing_rules.specs.Statements.void_stmt Rattle.typing_rules.specs.Statements.branch_count Rattle.typing_rules.specs.Statements.walk_stmt Rattle.typing_rules.specs.Statements.walk_stmts Rattle.typing_rules.specs.Statements.walk_otherwise Rattle.typing_rules.specs.Statements.walk_arms Rattle.typing_rules.specs.Interfaces.typed_signal Rattle.typing_rules.specs.Interfaces.typed_interface Rattle.typing_rules.specs.Interfaces.known_signals Rattle.typing_rules.specs.FileNames.file_names Rattle.typing_rules.specs.FileNames.values_from Rattle.typing_rules.specs.FileNames.scope_behind Rattle.typing_rules.specs.FileNames.file_scope Rattle.typing_rules.specs.FileNames.signals_in Rattle.typing_rules.specs.FileNames.output_names Rattle.typing_rules.specs.FileNames.programs_in Rattle.typing_rules.specs.Declarations.walk_parts Rattle.typing_rules.specs.Declarations.name_parts Rattle.typing_rules.specs.Declarations.variable_parts Rattle.typing_rules.specs.Declarations.decl_parts Rattle.typing_rules.specs.Declarations.parameter_parts Rattle.typing_rules.specs.Declarations.stmt_parts Rattle.typing_rules.specs.Declarations.stmts_parts Rattle.typing_rules.specs.Declarations.otherwise_parts Rattle.typing_rules.specs.Declarations.arms_parts Rattle.typing_rules.specs.Declarations.each_parts Rattle.typing_rules.specs.Declarations.block_parts Rattle.typing_rules.specs.Declarations.signal_parts Rattle.typing_rules.specs.Declarations.parts_behind Rattle.typing_rules.specs.Declarations.declarations Rattle.typing_rules.specs.Bodies.block_with Rattle.typing_rules.specs.Bodies.block Rattle.typing_rules.specs.Bodies.typed_parameters Rattle.typing_rules.specs.Bodies.parameter_scope Rattle.typing_rules.specs.Bodies.task Rattle.typing_rules.specs.Bodies.function Rattle.typing_rules.specs.Bodies.program Rattle.typing_rules.specs.Typing.one_program Rattle.typing_rules.specs.Typing.expected Rattle.typing_rules.specs.Typing.tasks_in Rattle.typing_rules.specs.Typing.functions_in Rattle.typing_rules.specs.Typing.interfaces_in Rattle.typing_rules.specs.Typing.outline_of Rattle.typing_rules.specs.Typing.typed Rattle.vera_ast.specs.declared.tree.expressions.Expr.TheViews.roll-Expr Rattle.vera_ast.specs.declared.tree.statements.Stmt.TheViews.roll-Stmt denote.Hole.Carrier.roll denote.Hole.Carrier.hidden Rattle.vera_ast.specs.declared.tree.expressions.Expr.TheBlock.hidden-the_row-Expr-0 Rattle.vera_ast.specs.declared.tree.expressions.Expr.TheBlock.shape-the_row-Expr-0 Rattle.vera_ast.specs.declared.tree.expressions.Expr.TheBlock.hidden-the_row-Link-1 Rattle.vera_ast.specs.declared.tree.expressions.Expr.TheBlock.shape-the_row-Link-1 Rattle.vera_ast.specs.declared.tree.expressions.Expr.TheBlock.hidden-the_row-Suffix-2 Rattle.vera_ast.specs.declared.tree.expressions.Expr.TheBlock.shape-the_row-Suffix-2 Rattle.vera_ast.specs.declared.tree.expressions.Expr.TheBlock.hidden-the_row-Expr-3 Rattle.vera_ast.specs.declared.tree.expressions.Expr.TheBlock.shape-the_row-Expr-3 Rattle.vera_ast.specs.declared.tree.statements.Stmt.TheBlock.hidden-the_row-Stmt-0 Rattle.vera_ast.specs.declared.tree.statements.Stmt.TheBlock.shape-the_row-Stmt-0 Rattle.vera_ast.specs.declared.tree.statements.Stmt.TheBlock.hidden-the_row-Stmt-1 Rattle.vera_ast.specs.declared.tree.statements.Stmt.TheBlock.shape-the_row-Stmt-1 Rattle.vera_ast.specs.declared.tree.statements.Stmt.TheBlock.hidden-the_row-Arm-2 Rattle.vera_ast.specs.declared.tree.statements.Stmt.TheBlock.shape-the_row-Arm-2 Rattle.four_state.specs.Numbers.number_of Rattle.four_state.specs.Numbers.vector_of Rattle.vera_ast.specs.declared.typed.expr.TypedExpr.TheViews.roll-TypedExpr Rattle.vera_ast.specs.declared.typed.stmt.TypedStmt.TheViews.roll-TypedStmt Rattle.vera_ast.specs.declared.typed.expr.TypedExpr.TheBlock.hidden-the_row-TypedExpr-0 Rattle.vera_ast.specs.declared.typed.expr.TypedExpr.TheBlock.shape-the_row-TypedExpr-0 Rattle.vera_ast.specs.declared.typed.expr.TypedExpr.TheBlock.hidden-the_row-TypedLink-1 Rattle.vera_ast.specs.declared.typed.expr.TypedExpr.TheBlock.shape-the_row-TypedLink-1 Rattle.vera_ast.specs.declared.typed.expr.TypedExpr.TheBlock.hidden-the_row-TypedExpr-2 Rattle.vera_ast.specs.declared.typed.expr.TypedExpr.TheBlock.shape-the_row-TypedExpr-2 Rattle.vera_ast.specs.declared.typed.expr.TypedExpr.TheBlock.hidden-the_row-TypedArgument-3 Rattle.vera_ast.specs.declared.typed.expr.TypedExpr.TheBlock.shape-the_row-TypedArgument-3 Rattle.vera_ast.specs.declared.typed.expr.TypedExpr.TheBlock.hidden-the_row-TypedPlace-4 Rattle.vera_ast.specs.declared.typed.expr.TypedExpr.TheBlock.shape-the_row-TypedPlace-4 Rattle.vera_ast.specs.declared.typed.stmt.TypedStmt.TheBlock.hidden-the_row-TypedStmt-0 Rattle.vera_ast.specs.declared.typed.stmt.TypedStmt.TheBlock.shape-the_row-TypedStmt-0 Rattle.vera_ast.specs.declared.typed.stmt.TypedStmt.TheBlock.hidden-the_row-TypedStmt-1 Rattle.vera_ast.specs.declared.typed.stmt.TypedStmt.TheBlock.shape-the_row-TypedStmt-1 Rattle.vera_ast.specs.declared.typed.stmt.TypedStmt.TheBlock.hidden-the_row-TypedArm-2 Rattle.vera_ast.specs.declared.typed.stmt.TypedStmt.TheBlock.shape-the_row-TypedArm-2
opened = tt
