-- What the program's own types stand for.
use Rattle.std.specs.Prelude.{option_map}
use Rattle.run_words.specs.declared.words.Word.TheVariants as words
use Rattle.run_words.specs.declared.found.Names.{Names}
use Rattle.run_words.specs.declared.found.Names.TheVariants as names
use Rattle.run_words.specs.declared.found.Found.{Found}
use Rattle.run_words.specs.declared.reading.Request.{Request}
use Rattle.run_words.specs.declared.words.Word.{Word}
use Rattle.run_words.specs.Progress.{found}
use Rattle.run_words.specs.Progress as progress
use Rattle.run_words.specs.Words.{request}
use Rattle.run_words.specs.Words as spec

abbrev pub seen_word : Word → spec.Word
seen_word words.End = spec.End
seen_word (words.Named option) = spec.Named option
seen_word (words.Set option value) = spec.Set option value.now
seen_word (words.Operand name) = spec.Operand name.now
seen_word words.Other = spec.Other

abbrev pub seen_names : Names → progress.Names
seen_names names.Nothing = progress.Nothing
seen_names (names.Mode mode) = progress.OfMode mode
seen_names (names.Testbench mode testbench) = progress.Testbench mode testbench.now
seen_names (names.WithNetlist mode testbench netlist) = progress.WithNetlist mode testbench.now netlist.now

abbrev pub seen_found : Found → progress.Found
seen_found f = found (seen_names f.names) f.cycles f.budget f.turns

abbrev pub seen_request : Request → spec.Request
seen_request r = request r.mode r.testbench.now (option_map (λ name. name.now) r.netlist) r.limits
