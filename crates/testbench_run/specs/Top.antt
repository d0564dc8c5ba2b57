-- What the top call tells: its status, and what the sink took.
use Rattle.std.specs.Prelude.{◌≡◌, ◌⊎◌, ℕ, List, Option, Some, None}
use Rattle.vera_io.specs.Faults.{Rose}
use Rattle.vera_io.specs.Sink.{taken_more, TookPart}
use Rattle.run_rules.specs.declared.status.Status.{Status}
use Rattle.run_rules.specs.declared.status.Status.TheVariants as statuses
use Rattle.run_words.specs.Words.{Request}
use Rattle.testbench_run.specs.declared.answer.Answer.{Answer}
use Rattle.testbench_run.specs.Answers.{IsDue}

-- the answer was written whole
pub record Whole (Due : Answer → Type 0) (before after : Option (List ℕ)) (status : Status) : Type 0 where
  pub answer : Answer
  pub due : Due answer
  pub status_is : status ≡ answer.status
  pub taken : after ≡ taken_more before answer.text

-- the sink failed within the answer: its count rose, and it took a front of the text
pub record Part (Due : Answer → Type 0) (faults_before faults_after : ℕ) (before after : Option (List ℕ)) (status : Status) : Type 0 where
  pub answer : Answer
  pub due : Due answer
  pub status_is : status ≡ statuses.WriteFault
  pub rose : Rose faults_before faults_after
  pub taken : TookPart before after answer.text

-- there was too little memory, and nothing was written
pub record Nothing (before after : Option (List ℕ)) (status : Status) : Type 0 where
  pub status_is : status ≡ statuses.NoMemory
  pub taken : after ≡ before

abbrev pub Tells : Option Request → (told : List ℕ → Option (List ℕ)) → (old new : List ℕ → ℕ) → (faults_before faults_after : ℕ) → (before after : Option (List ℕ)) → Status → Type 0
Tells request told old new faults_before faults_after before after status =
    Whole (IsDue request told old new) before after status
    ⊎ (Part (IsDue request told old new) faults_before faults_after before after status
    ⊎ Nothing before after status)

-- the count of the faults of the netlist's name rose, where a netlist is named
abbrev pub NetlistRose : Option (List ℕ) → (old new : List ℕ → ℕ) → Type 0
NetlistRose None old new = ⊥
NetlistRose (Some name) old new = Rose (old name) (new name)

-- the count of the faults of a file that is asked for rose
abbrev pub FileRose : Request → (old new : List ℕ → ℕ) → Type 0
FileRose request old new = Rose (old request.testbench) (new request.testbench) ⊎ NetlistRose request.netlist old new

abbrev pub ReadingRose : Option Request → (old new : List ℕ → ℕ) → Type 0
ReadingRose None old new = ⊥
ReadingRose (Some request) old new = FileRose request old new

-- the shelf tells these bytes of the netlist, where one is named
abbrev pub TellsNetlist : Option (List ℕ) → (told : List ℕ → Option (List ℕ)) → List ℕ → Type 0
TellsNetlist None told bytes = Unit {0}
TellsNetlist (Some name) told bytes = told name ≡ Some bytes

-- the shelf tells these bytes of the files that are asked for
pub record TellsFiles (request : Request) (told : List ℕ → Option (List ℕ)) (source netlist : List ℕ) : Type 0 where
  pub of_testbench : told request.testbench ≡ Some source
  pub of_netlist : TellsNetlist request.netlist told netlist

-- such an answer was written whole, or there was too little memory
abbrev pub WritesWhole : (Answer → Type 0) → (before after : Option (List ℕ)) → Status → Type 0
WritesWhole Due before after status = Whole Due before after status ⊎ Nothing before after status
