-- What the program answers: a status and a text.
use Rattle.std.specs.Prelude.{◌≡◌, ℕ, ◌<◌, ◌≤◌, ◌⊎◌, List, [], Option, Some, None, Result, Ok, Err, IfSome, slice_index_or, codes, length}
use Rattle.vera_ast.specs.declared.refusal.Refusal.{Refusal}
use Rattle.vera_ast.specs.declared.typed.file.TypedTree.{TypedTree}
use Rattle.vera_ast.specs.Signals.{NamedSignal, signals_in}
use Rattle.vera_meaning.specs.Rests.{Rest}
use Rattle.vera_io.specs.Faults.{Rose}
use Rattle.blif_read.specs.declared.refusals.Refusal.{Refusal as NetRefusal}
use Rattle.blif_read.specs.Netlists.{Parts, netlist}
use Rattle.blif_device.specs.Rings.{IsOnRing, IsFirstOnRing}
use Rattle.front_end.specs.declared.purpose.Purpose.{Purpose}
use Rattle.front_end.specs.declared.purpose.Purpose.TheVariants as purposes
use Rattle.front_end.specs.Sources.{IsSource}
use Rattle.run_rules.specs.declared.end.End.{End}
use Rattle.run_rules.specs.Links.{AllLink, IsFirstUnlinked}
use Rattle.run_rules.specs.declared.limits.Limits.{Limits}
use Rattle.run_rules.specs.States.{State}
use Rattle.run_rules.specs.Sources.{RunEnds}
use Rattle.run_rules.specs.Reports.{report_of, status_of}
use Rattle.testbench_run.specs.declared.answer.Answer.{Answer}
use Rattle.testbench_run.specs.Refusals.{words_answer, read_answer, long_answer, source_answer, netlist_answer, ring_answer, link_answer, accepted_answer}
use Rattle.run_words.specs.declared.modes.Mode.{Mode}
use Rattle.run_words.specs.declared.modes.Mode.TheVariants.{Check, Plain}
use Rattle.run_words.specs.Words.{Request}

-- how many bytes a file may have
abbrev pub file_limit : ℕ
file_limit = 4194304

-- ---- the run

abbrev pub run_answer : TypedTree → End → State Rest → Answer
run_answer tree end state = record { status = status_of end; text = report_of (signals_in tree.items) state end }

-- the testbench's one-thread run against the netlist gives this answer
pub record RunAnswer (limits : Limits) (tree : TypedTree) (parts : Parts) (answer : Answer) : Type 0 where
  pub end : End
  pub state : State Rest
  pub runs : RunEnds tree parts limits end state
  pub is : answer ≡ run_answer tree end state

-- ---- the netlist, and the signals that link to it

-- a signal doesn't link: the first one in text order is told
pub record IsUnlinked (tree : TypedTree) (parts : Parts) (answer : Answer) : Type 0 where
  pub number : ℕ
  pub signal : NamedSignal
  pub first : IsFirstUnlinked parts (signals_in tree.items) number signal
  pub is : answer ≡ link_answer signal

-- what comes of a testbench whose signals link: it is accepted, or run
abbrev pub Behind : Mode → Limits → TypedTree → Parts → Answer → Type 0
Behind Check limits tree parts answer = answer ≡ accepted_answer
Behind Plain limits tree parts answer = RunAnswer limits tree parts answer

-- all signals link, and this comes of it
pub record IsLinked (mode : Mode) (limits : Limits) (tree : TypedTree) (parts : Parts) (answer : Answer) : Type 0 where
  pub linked : AllLink parts (signals_in tree.items)
  pub behind : Behind mode limits tree parts answer

-- nets depend on each other in a ring: the first one on a ring is told
pub record HasRing (parts : Parts) (answer : Answer) : Type 0 where
  pub net : ℕ
  pub first : IsFirstOnRing parts.covers net
  pub is : answer ≡ ring_answer (slice_index_or parts.nets net [])

-- there is no ring
pub record HasNoRing (mode : Mode) (limits : Limits) (tree : TypedTree) (parts : Parts) (answer : Answer) : Type 0 where
  pub none : (net : ℕ) → IsOnRing parts.covers net → ⊥
  pub link : IsUnlinked tree parts answer ⊎ IsLinked mode limits tree parts answer

abbrev pub AnswersParts : Mode → Limits → TypedTree → Parts → Answer → Type 0
AnswersParts mode limits tree parts answer = HasRing parts answer ⊎ HasNoRing mode limits tree parts answer

-- what the bytes of a netlist are answered with
abbrev pub AnswersReading : Mode → Limits → TypedTree → Result Parts NetRefusal → Answer → Type 0
AnswersReading mode limits tree (Ok parts) answer = AnswersParts mode limits tree parts answer
AnswersReading mode limits tree (Err refusal) answer = answer ≡ netlist_answer refusal

-- the netlist of a run where none is named
abbrev pub no_parts : Parts
no_parts = record { nets = []; inputs = []; outputs = []; clock = None; covers = []; latches = [] }

-- where no netlist is named: a check doesn't link
abbrev pub AnswersAlone : Mode → Limits → TypedTree → Answer → Type 0
AnswersAlone Check limits tree answer = answer ≡ accepted_answer
AnswersAlone Plain limits tree answer = AnswersParts Plain limits tree no_parts answer

abbrev pub AnswersTree : Mode → Limits → TypedTree → Option (List ℕ) → Answer → Type 0
AnswersTree mode limits tree None answer = AnswersAlone mode limits tree answer
AnswersTree mode limits tree (Some bytes) answer = AnswersReading mode limits tree (netlist bytes) answer

-- ---- the testbench

-- what a testbench is read for
abbrev pub purpose_of : Mode → Purpose
purpose_of Check = purposes.Check
purpose_of Plain = purposes.Run

-- what a testbench's typed tree, or its refusal, is answered with
abbrev pub AnswersSource : Mode → Limits → Result TypedTree Refusal → Option (List ℕ) → Answer → Type 0
AnswersSource mode limits (Ok tree) netlist_bytes answer = AnswersTree mode limits tree netlist_bytes answer
AnswersSource mode limits (Err refusal) netlist_bytes answer = answer ≡ source_answer refusal

-- what the bytes of both files are answered with: the testbench is refused before the netlist
pub record AnswersFiles (mode : Mode) (limits : Limits) (source : List ℕ) (netlist_bytes : Option (List ℕ)) (answer : Answer) : Type 0 where
  pub tree : Result TypedTree Refusal
  pub of_source : IsSource (purpose_of mode) source tree
  pub is : AnswersSource mode limits tree netlist_bytes answer

-- ---- reading

-- how the reading of a file went
pub data Reading : Type 0 where
  ReadFailed : Reading
  ReadBytes : List ℕ → Reading

-- the bytes are more than a file may have
pub record IsTooLong (file bytes : List ℕ) (answer : Answer) : Type 0 where
  pub long : file_limit < length bytes
  pub is : answer ≡ long_answer file

-- a file's reading went so, and its bytes are answered with this
abbrev pub Read : (file : List ℕ) → Reading → (List ℕ → Type 0) → Answer → Type 0
Read file ReadFailed Next answer = answer ≡ read_answer file
Read file (ReadBytes bytes) Next answer = IsTooLong file bytes answer ⊎ ((length bytes ≤ file_limit) × Next bytes)

-- the netlist's reading went so, where one is named
abbrev pub ReadNetlist : Option (List ℕ) → Reading → (Option (List ℕ) → Type 0) → Answer → Type 0
ReadNetlist None reading Next answer = Next None
ReadNetlist (Some name) reading Next answer = Read (codes "netlist") reading (λ bytes. Next (Some bytes)) answer

-- The answer to what the words ask for, where the readings went so. Files are read before anything is said of what
-- they hold.
abbrev pub IsAnswer : Option Request → (testbench netlist : Reading) → Answer → Type 0
IsAnswer None testbench netlist answer = answer ≡ words_answer
IsAnswer (Some r) testbench netlist answer =
    Read (codes "testbench") testbench (λ source. ReadNetlist r.netlist netlist (λ bytes. AnswersFiles r.mode r.limits source bytes answer) answer) answer

-- Reading a file can have gone so: it fails only where the count of its faults rose, and the bytes are the file's
-- where the shelf tells them.
abbrev pub CanReadFile : List ℕ → Reading → (told : List ℕ → Option (List ℕ)) → (old new : List ℕ → ℕ) → Type 0
CanReadFile name ReadFailed told old new = Rose (old name) (new name)
CanReadFile name (ReadBytes bytes) told old new = IfSome (told name) (λ file. bytes ≡ file)

abbrev pub CanReadNetlist : Option (List ℕ) → Reading → (told : List ℕ → Option (List ℕ)) → (old new : List ℕ → ℕ) → Type 0
CanReadNetlist None reading told old new = Unit {0}
CanReadNetlist (Some name) reading told old new = CanReadFile name reading told old new

-- the readings of the files that are asked for can have gone so
pub record CanRead (request : Request) (testbench netlist : Reading) (told : List ℕ → Option (List ℕ)) (old new : List ℕ → ℕ) : Type 0 where
  pub of_testbench : CanReadFile request.testbench testbench told old new
  pub of_netlist : CanReadNetlist request.netlist netlist told old new

abbrev pub CanReadAll : Option Request → (testbench netlist : Reading) → (told : List ℕ → Option (List ℕ)) → (old new : List ℕ → ℕ) → Type 0
CanReadAll None testbench netlist told old new = Unit {0}
CanReadAll (Some request) testbench netlist told old new = CanRead request testbench netlist told old new

-- an answer that is due for the words and for what the shelf gave
pub record IsDue (request : Option Request) (told : List ℕ → Option (List ℕ)) (old new : List ℕ → ℕ) (answer : Answer) : Type 0 where
  pub testbench : Reading
  pub netlist : Reading
  pub can_read : CanReadAll request testbench netlist told old new
  pub is_answer : IsAnswer request testbench netlist answer
