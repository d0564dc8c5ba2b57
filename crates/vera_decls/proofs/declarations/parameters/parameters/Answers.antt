use Rattle.std.proofs.Common.{◌≡◌, ◌+◌, [], refl, arith}
use Rattle.std.proofs.lemmas.Result.{err_from_is_err_and}
use Rattle.vera_decls.proofs.Families.{put_parameter, parameters_left, one_parameter, parameters_first, parameters_none, parameter_on, parameter_stops}
use Rattle.vera_decls.proofs.Going.{goes_start, goes_on, goes_stops, goes_end}
use Rattle.vera_names.proofs.NameSets.{names_of_none}
use Rattle.vera_names.specs.NameSets.{SameNames}
use Rattle.vera_decls.proofs.declarations.parameters.parameters.Goals as goal

pub loop-at-init : goal.loop-at-init
loop-at-init c = goes_start (parameters_left c.args.scopes.now) put_parameter (0, []) c.args.parameters.now c.args.count (λ s. (s.0 ≡ 0) × SameNames s.1 c.new.result) c.requires (refl, names_of_none c.new.result c.new.ensures)

pub loop-at-preserved : goal.loop-at-preserved
loop-at-preserved c =
    goes_on (parameters_left c.args.scopes.now) (one_parameter c.args.scopes.now) put_parameter (0, []) c.args.parameters.now c.args.count (λ s. (s.0 ≡ c.loop-at.at) × SameNames s.1 c.loop-at.walked.names)
    (λ s. (s.0 ≡ c.loop-at.at + 1) × SameNames s.1 c.in_ok-walked.walked.names) c.loop-at.at c.loop-at.walked.count c.in_ok-walked.walked.count c.index-parameters-at.result (parameters_first c.args.scopes.now) (omega arith) c.index-parameters-at.is
    c.loop-at.invariant (λ s h. parameter_on c.args.scopes.now _ _ c.loop-at.at c.index-parameters-at.result c.loop-at.walked.names _ s h c.in_ok-walked.ensures)

pub returns-in_err-walked : goal.returns-in_err-walked
returns-in_err-walked c =
    let p = err_from_is_err_and c.from_residual.result c.from_residual.ensures.1 in
    rw (p.1, p.2)
    (goes_stops (parameters_left c.args.scopes.now) (one_parameter c.args.scopes.now) put_parameter (0, []) c.args.parameters.now c.args.count (λ s. (s.0 ≡ c.loop-at.at) × SameNames s.1 c.loop-at.walked.names)
    c.loop-at.at c.loop-at.walked.count c.index-parameters-at.result _ (parameters_first c.args.scopes.now) (omega arith) c.index-parameters-at.is c.loop-at.invariant
    (λ s h. parameter_stops c.args.scopes.now _ c.loop-at.at c.index-parameters-at.result c.loop-at.walked.names _ s h c.in_err-walked.ensures))

pub returns : goal.returns
returns c =
    let all = goes_end (parameters_left c.args.scopes.now) put_parameter (0, []) c.args.parameters.now c.args.count (λ s. (s.0 ≡ c.loop-at.at) × SameNames s.1 c.loop-at.walked.names) c.loop-at.at c.loop-at.walked.count
    (parameters_none c.args.scopes.now) (omega arith) c.loop-at.invariant in
    (all.0, all.1, tt)
