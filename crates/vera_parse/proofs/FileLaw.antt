-- The law of a whole file, at each limit of depth.
use Rattle.std.proofs.Common.{◌≡◌, ℕ, ◌+◌, ◌≤◌, true, [], arith}
use Rattle.grammar_laws.proofs.Law.{Law}
use Rattle.parse_cursor.specs.Tokens.{kind_of}
use Rattle.parse_exprs.specs.Expressions as expressions
use Rattle.parse_exprs.specs.ExpressionReading as reading
use Rattle.vera_parse.specs.Grammar as g
use Rattle.vera_parse.specs.Reading as r
use Rattle.vera_parse.specs.ItemReading.{first_item}
use Rattle.parse_exprs.proofs.ExpressionLevels.{heights, expr_at}
use Rattle.parse_stmts.proofs.DeclarationLaws as declarations
use Rattle.parse_stmts.proofs.PartLaws as parts
use Rattle.parse_stmts.proofs.StatementLevels.{block_at}
use Rattle.vera_parse.proofs.InterfaceLaws.{iface}
use Rattle.vera_parse.proofs.CoverageLaws.{group}
use Rattle.vera_parse.proofs.ItemLaws.{items}

pub file_law : (limit : ℕ) → Law kind_of (heights limit) limit 0 true true first_item first_item [] (r.file_items limit) (λ h. g.file h 0)
unfolding r.file_items g.file
file_law limit =
    let at : 0 + limit ≡ limit = omega arith in
    let fits : (h : ℕ) → (heights limit).tall h → 0 ≤ limit = λ h t. omega arith in
    let E = expr_at limit limit 0 at in
    let R = declarations.range (heights limit) limit 0 fits true (reading.expr limit) expressions.expr E in
    let T = declarations.data_type (heights limit) limit 0 fits true (reading.expr limit) expressions.expr E in
    let P = declarations.params (heights limit) limit 0 fits true (reading.expr limit) expressions.expr E in
    let D = declarations.decl (heights limit) limit 0 fits true (reading.expr limit) expressions.expr E in
    let B = block_at limit limit 0 at in
    let G = parts.edge (heights limit) limit 0 fits in
    items 0 fits _ _ _ _ (λ h. _) (λ h. _) (λ h. _) (λ h. _) T P D B _ _ (λ h. _) (λ h. _) (iface 0 fits _ (λ h. _) R) (group 0 fits true _ expressions.expr E _ (λ h. _) G)

pub enough : (limit : ℕ) → (h : ℕ) × (heights limit).tall h
enough limit = (4 + limit, omega arith)
