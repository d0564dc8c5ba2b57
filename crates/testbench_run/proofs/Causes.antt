-- Which statuses an answer that is due may have, and the cause of each.
use Rattle.std.proofs.Common.{◌≡◌, ℕ, List, Option, Some, None, Result, Ok, Err, refl, sym, subst, inl, inr}
use Rattle.std.specs.Prelude.{◌⊎◌, codes}
use Rattle.vera_ast.specs.declared.refusal.Refusal.{Refusal}
use Rattle.vera_ast.specs.declared.typed.file.TypedTree.{TypedTree}
use Rattle.blif_read.specs.declared.refusals.Refusal.{Refusal as NetRefusal}
use Rattle.blif_read.specs.Netlists.{Parts, netlist}
use Rattle.run_rules.specs.declared.end.End.{End}
use Rattle.run_rules.specs.declared.end.End.TheVariants as ends
use Rattle.run_rules.specs.declared.limits.Limits.{Limits}
use Rattle.run_rules.specs.declared.status.Status.{Status}
use Rattle.run_rules.specs.declared.status.Status.TheVariants as statuses
use Rattle.run_rules.specs.Reports.{status_of}
use Rattle.run_words.specs.declared.modes.Mode.{Mode}
use Rattle.run_words.specs.declared.modes.Mode.TheVariants.{Check, Plain}
use Rattle.run_words.specs.Words.{Request}
use Rattle.testbench_run.specs.declared.answer.Answer.{Answer}
use Rattle.testbench_run.specs.Answers.{Behind, AnswersParts, AnswersReading, AnswersAlone, AnswersTree, AnswersSource, Reading, ReadFailed, ReadBytes, Read, ReadNetlist, CanReadFile, CanReadNetlist, IsDue, IsUnlinked, IsLinked, no_parts}
use Rattle.testbench_run.specs.Top.{NetlistRose, ReadingRose}

-- what the files themselves may be answered with
abbrev OfFiles : Status → Type 0
OfFiles statuses.Passed = Unit {0}
OfFiles statuses.Source = Unit {0}
OfFiles statuses.Netlist = Unit {0}
OfFiles statuses.Link = Unit {0}
OfFiles statuses.Fault = Unit {0}
OfFiles statuses.Spent = Unit {0}
OfFiles _ = ⊥

abbrev IsOfFiles : Answer → Type 0
IsOfFiles answer = OfFiles answer.status

is_of_files : (a b : Answer) → a ≡ b → IsOfFiles b → IsOfFiles a
is_of_files a b e h = subst IsOfFiles (sym e) h

end_of_files : (end : End) → OfFiles (status_of end)
end_of_files ends.Finished = tt
end_of_files ends.Limit = tt
end_of_files (ends.Fault code line) = tt
end_of_files ends.SpentSlice = tt
end_of_files ends.SpentTurns = tt

module _ (limits : Limits) (tree : TypedTree) (answer : Answer) where
  behind : (mode : Mode) (parts : Parts) → Behind mode limits tree parts answer → IsOfFiles answer
  behind Check parts h = is_of_files answer _ h tt
  behind Plain parts h = is_of_files answer _ h.is (end_of_files h.end)

  linking : (mode : Mode) (parts : Parts) → IsUnlinked tree parts answer ⊎ IsLinked mode limits tree parts answer → IsOfFiles answer
  linking mode parts (inl h) = is_of_files answer _ h.is tt
  linking mode parts (inr h) = behind mode parts h.behind

  parts_are : (mode : Mode) (parts : Parts) → AnswersParts mode limits tree parts answer → IsOfFiles answer
  parts_are mode parts (inl h) = is_of_files answer _ h.is tt
  parts_are mode parts (inr h) = linking mode parts h.link

  reading : (mode : Mode) (read : Result Parts NetRefusal) → AnswersReading mode limits tree read answer → IsOfFiles answer
  reading mode (Ok parts) h = parts_are mode parts h
  reading mode (Err refusal) h = is_of_files answer _ h tt

  alone : (mode : Mode) → AnswersAlone mode limits tree answer → IsOfFiles answer
  alone Check h = is_of_files answer _ h tt
  alone Plain h = parts_are Plain no_parts h

  tree_is : (mode : Mode) (bytes : Option (List ℕ)) → AnswersTree mode limits tree bytes answer → IsOfFiles answer
  tree_is mode None h = alone mode h
  tree_is mode (Some bytes) h = reading mode (netlist bytes) h

source_is : (mode : Mode) (limits : Limits) (source : Result TypedTree Refusal) (bytes : Option (List ℕ)) (answer : Answer) → AnswersSource mode limits source bytes answer → IsOfFiles answer
source_is mode limits (Ok tree) bytes answer h = tree_is limits tree answer mode bytes h
source_is mode limits (Err refusal) bytes answer h = is_of_files answer _ h tt

-- ---- an answer that is due, by how the files were read

-- its status comes of the files, or of the words, or of reading them
abbrev Caused : Option Request → (old new : List ℕ → ℕ) → Status → Type 0
Caused request old new statuses.ReadFault = ReadingRose request old new
Caused request old new statuses.WriteFault = ⊥
Caused request old new statuses.NoMemory = ⊥
Caused request old new other = Unit {0}

abbrev IsCaused : Option Request → (old new : List ℕ → ℕ) → Answer → Type 0
IsCaused request old new answer = Caused request old new answer.status

by_files : (request : Option Request) (old new : List ℕ → ℕ) (status : Status) → OfFiles status → Caused request old new status
by_files request old new statuses.Passed h = tt
by_files request old new statuses.Words h = tt
by_files request old new statuses.Source h = tt
by_files request old new statuses.Netlist h = tt
by_files request old new statuses.Link h = tt
by_files request old new statuses.Fault h = tt
by_files request old new statuses.Spent h = tt
by_files request old new statuses.ReadFault h = absurd h
by_files request old new statuses.WriteFault h = absurd h
by_files request old new statuses.NoMemory h = absurd h
by_files request old new statuses.TooLong h = tt

module _ (request : Option Request) (old new : List ℕ → ℕ) (answer : Answer) where
  -- one file's reading, where a failure has its cause
  read_caused : (file : List ℕ) (reading : Reading) (Next : List ℕ → Type 0) → (reading ≡ ReadFailed → ReadingRose request old new) → ((bytes : List ℕ) → Next bytes → IsCaused request old new answer) → Read file reading Next answer → IsCaused request old new answer
  read_caused file ReadFailed Next rose next h = subst (IsCaused request old new) (sym h) (rose refl)
  read_caused file (ReadBytes bytes) Next rose next (inl h) = subst (IsCaused request old new) (sym h.is) tt
  read_caused file (ReadBytes bytes) Next rose next (inr h) = next bytes h.1

  netlist_caused : (name : Option (List ℕ)) (reading : Reading) (Next : Option (List ℕ) → Type 0) → (NetlistRose name old new → ReadingRose request old new) → (told : List ℕ → Option (List ℕ)) → CanReadNetlist name reading told old new → ((bytes : Option (List ℕ)) → Next bytes → IsCaused request old new answer) → ReadNetlist name reading Next answer → IsCaused request old new answer
  netlist_caused None reading Next rose told can next h = next None h
  netlist_caused (Some name) reading Next rose told can next h =
      read_caused (codes "netlist") reading (λ bytes. Next (Some bytes)) (λ e. rose (subst (λ (r : Reading). CanReadFile name r told old new) e can)) (λ bytes k. next (Some bytes) k) h

pub due_caused : (request : Option Request) (told : List ℕ → Option (List ℕ)) (old new : List ℕ → ℕ) (answer : Answer) → IsDue request told old new answer → IsCaused request old new answer
due_caused None told old new answer due = subst (IsCaused None old new) (sym due.is_answer) tt
due_caused (Some r) told old new answer due =
    read_caused (Some r) old new answer (codes "testbench") due.testbench _ (λ e. inl (subst (λ (x : Reading). CanReadFile r.testbench x told old new) e due.can_read.of_testbench))
    (λ source h. netlist_caused (Some r) old new answer r.netlist due.netlist _ (λ rose. inr rose) told due.can_read.of_netlist
    (λ bytes k. by_files (Some r) old new answer.status (source_is r.mode r.limits k.tree bytes answer k.is)) h)
    due.is_answer

pub read_fault_rose : (request : Option Request) (old new : List ℕ → ℕ) (answer : Answer) → IsCaused request old new answer → answer.status ≡ statuses.ReadFault → ReadingRose request old new
read_fault_rose request old new answer h e = subst (Caused request old new) e h

pub no_write_fault : (request : Option Request) (old new : List ℕ → ℕ) (answer : Answer) → IsCaused request old new answer → answer.status ≡ statuses.WriteFault → ⊥
no_write_fault request old new answer h e = subst (Caused request old new) e h

pub no_want_of_memory : (request : Option Request) (old new : List ℕ → ℕ) (answer : Answer) → IsCaused request old new answer → answer.status ≡ statuses.NoMemory → ⊥
no_want_of_memory request old new answer h e = subst (Caused request old new) e h
