use Rattle.vera_decls.proofs.FileSteps.{enumeration_named}
use Rattle.vera_decls.proofs.file_names.with_enumeration.Goals as goal

pub returns : goal.returns
returns c = enumeration_named c.args.scope c.in_ok-scope.scope c.args.number _ _ _ _ c.with_values.result c.in_ok-scope.ensures c.as_slice.ensures c.as_slice-2.ensures c.with_values.ensures
