-- How the readings of files were, as the program goes from one to the next.
use Rattle.std.specs.Prelude.{◌≡◌, ℕ, ◌≤◌, List, length, Option, IfSome}
use Rattle.testbench_run.specs.declared.answer.Answer.{Answer}
use Rattle.testbench_run.specs.declared.reading.FileRead.{FileRead}
use Rattle.testbench_run.specs.declared.reading.FileRead.TheVariants.{Bytes, Refused}
use Rattle.run_rules.specs.declared.limits.Limits.{Limits}
use Rattle.run_words.specs.declared.modes.Mode.{Mode}
use Rattle.testbench_run.specs.Refusals.{read_answer}
use Rattle.testbench_run.specs.Answers.{Reading, ReadFailed, ReadBytes, file_limit, IsTooLong, CanReadFile, CanReadNetlist, ReadNetlist, AnswersFiles}

-- the answer is due in place of a file's bytes
abbrev pub IsInPlace : (file : List ℕ) → Reading → Answer → Type 0
IsInPlace file ReadFailed answer = answer ≡ read_answer file
IsInPlace file (ReadBytes bytes) answer = IsTooLong file bytes answer

-- the reading of the file of this name can have been so that this answer is due
pub record IsRefusal (name file : List ℕ) (told : List ℕ → Option (List ℕ)) (old new : List ℕ → ℕ) (answer : Answer) : Type 0 where
  pub reading : Reading
  pub can_read : CanReadFile name reading told old new
  pub in_place : IsInPlace file reading answer

-- the file's bytes, where the shelf tells them, and not too many, or the answer in their place
abbrev pub IsFileRead : (name file : List ℕ) → (told : List ℕ → Option (List ℕ)) → (old new : List ℕ → ℕ) → FileRead → Type 0
IsFileRead name file told old new (Bytes bytes) = (length bytes.items ≤ file_limit) × IfSome (told name) (λ all. bytes.items ≡ all)
IsFileRead name file told old new (Refused answer) = IsRefusal name file told old new answer

-- the answer is due behind a testbench of these bytes, and this netlist's name
pub record IsDueBehind (name : Option (List ℕ)) (mode : Mode) (limits : Limits) (source : List ℕ) (told : List ℕ → Option (List ℕ)) (old new : List ℕ → ℕ) (answer : Answer) : Type 0 where
  pub reading : Reading
  pub can_read : CanReadNetlist name reading told old new
  pub is_answer : ReadNetlist name reading (λ bytes. AnswersFiles mode limits source bytes answer) answer
