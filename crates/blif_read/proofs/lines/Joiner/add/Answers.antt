use Rattle.std.proofs.Common.{refl, rules}
use Rattle.blif_read.proofs.Joined.{joins_continued, joins_ended}
use Rattle.blif_read.proofs.lines.Joiner.add.Goals as goal

pub returns-in_ok-extend_from_slice-in-Some : goal.returns-in_ok-extend_from_slice-in-Some
returns-in_ok-extend_from_slice-in-Some c = joins_continued _ _ _ _ c.unwrap_or-first.ensures (search rules) (search rules) (search rules) refl refl

pub returns-in_ok-close-in-None : goal.returns-in_ok-close-in-None
returns-in_ok-close-in-None c = joins_ended _ _ _ _ c.unwrap_or-first.ensures (search rules) (search rules) (search rules) (search rules) (search rules)
