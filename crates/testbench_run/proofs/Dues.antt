-- Which answer is due.
use Rattle.std.proofs.Common.{◌≡◌, ℕ, ◌+◌, ◌<◌, ◌≤◌, List, [], length, replicate, Option, Some, None, Vec, refl, subst, inl, inr, arith}
use Rattle.std.specs.Prelude.{IfSome, codes}
use Rattle.std.proofs.lemmas.Grind.{common_steps}
use Rattle.std.specs.declared.alloc.Global.{Global}
use Rattle.vera_io.specs.Faults.{Rose}
use Rattle.testbench_run.specs.declared.answer.Answer.{Answer}
use Rattle.run_rules.specs.declared.limits.Limits.{Limits}
use Rattle.run_words.specs.declared.modes.Mode.{Mode}
use Rattle.run_words.specs.Words.{Request}
use Rattle.testbench_run.specs.Answers.{Reading, ReadFailed, ReadBytes, Read, ReadNetlist, CanReadNetlist, AnswersFiles, IsDue, file_limit}
use Rattle.testbench_run.specs.Refusals.{long_answer}
use Rattle.testbench_run.specs.declared.reading.FileRead.{FileRead}
use Rattle.testbench_run.specs.declared.reading.FileRead.TheVariants.{Bytes, Refused}
use Rattle.testbench_run.specs.Readings.{IsInPlace, IsRefusal, IsFileRead, IsDueBehind}

length-zeros : (n : ℕ) → n < length {A = ℕ} (replicate (n + 1) 0)
length-zeros n = grind (arith, common_steps)

-- bytes that are more than n, as a file's are where it is told
long_bytes : (told : Option (List ℕ)) (n : ℕ) → IfSome told (λ file. n < length file) → (bytes : List ℕ) × (n < length bytes) × IfSome told (λ file. bytes ≡ file)
long_bytes None n h = (replicate (n + 1) 0, length-zeros n, tt)
long_bytes (Some file) n h = (file, h, refl)

-- the file is too long
pub refused_long : (name name' file : List ℕ) (told : List ℕ → Option (List ℕ)) (old new : List ℕ → ℕ) (answer : Answer) → name' ≡ name → IfSome (told name') (λ bytes. file_limit < length bytes) → answer ≡ long_answer file → IsRefusal name file told old new answer
refused_long name name' file told old new answer same long is =
    let b = long_bytes (told name) file_limit (subst (λ n. IfSome (told n) (λ bytes. file_limit < length bytes)) same long) in
    record { reading = ReadBytes b.0; can_read = b.2; in_place = record { long = b.1; is = is } }

-- a netlist's reading that nothing comes of
any_bytes : (told : Option (List ℕ)) → (bytes : List ℕ) × IfSome told (λ file. bytes ≡ file)
any_bytes None = ([], tt)
any_bytes (Some file) = (file, refl)

any_netlist : (name : Option (List ℕ)) (told : List ℕ → Option (List ℕ)) (old new : List ℕ → ℕ) → (reading : Reading) × CanReadNetlist name reading told old new
any_netlist None told old new = (ReadFailed, tt)
any_netlist (Some name) told old new = let b = any_bytes (told name) in (ReadBytes b.0, b.1)

in_place_read : (file : List ℕ) (reading : Reading) (Next : List ℕ → Type 0) (answer : Answer) → IsInPlace file reading answer → Read file reading Next answer
in_place_read file ReadFailed Next answer h = h
in_place_read file (ReadBytes bytes) Next answer h = inl h

pub due_refused : (request : Request) (told : List ℕ → Option (List ℕ)) (old new : List ℕ → ℕ) (answer : Answer) → IsRefusal request.testbench (codes "testbench") told old new answer → IsDue (Some request) told old new answer
due_refused request told old new answer h =
    let other = any_netlist request.netlist told old new in
    record {
      testbench = h.reading;
      netlist = other.0;
      can_read = record { of_testbench = h.can_read; of_netlist = other.1 };
      is_answer = in_place_read (codes "testbench") h.reading (λ source. ReadNetlist request.netlist other.0 (λ bytes. AnswersFiles request.mode request.limits source bytes answer) answer) answer h.in_place;
    }

rose_since : (old mid new : ℕ) → old ≤ mid → Rose mid new → Rose old new
rose_since old mid new le rose = omega (arith, le, rose)

netlist_since : (name : Option (List ℕ)) (reading : Reading) (told later : List ℕ → Option (List ℕ)) (old mid new : List ℕ → ℕ) → ((n : List ℕ) → later n ≡ told n) → ((n : List ℕ) → old n ≤ mid n) → CanReadNetlist name reading later mid new → CanReadNetlist name reading told old new
netlist_since None reading told later old mid new same counts h = tt
netlist_since (Some name) ReadFailed told later old mid new same counts h = rose_since (old name) (mid name) (new name) (counts name) h
netlist_since (Some name) (ReadBytes bytes) told later old mid new same counts h = subst (λ (t : Option (List ℕ)). IfSome t (λ file. bytes ≡ file)) (same name) h

-- What a reading gave, by its pattern.
pub read_refused : (name file : List ℕ) (told : List ℕ → Option (List ℕ)) (old new : List ℕ → ℕ) (read : FileRead) (answer : Answer) → read ≡ Refused answer → IsFileRead name file told old new read → IsRefusal name file told old new answer
read_refused name file told old new read answer is h = subst (λ (r : FileRead). IsFileRead name file told old new r) is h

pub read_bytes : (name file : List ℕ) (told : List ℕ → Option (List ℕ)) (old new : List ℕ → ℕ) (read : FileRead) (bytes : Vec ℕ Global) → read ≡ Bytes bytes → IsFileRead name file told old new read → (length bytes.items ≤ file_limit) × IfSome (told name) (λ all. bytes.items ≡ all)
read_bytes name file told old new read bytes is h = subst (λ (r : FileRead). IsFileRead name file told old new r) is h

-- The testbench's bytes were read, and what is due behind them is due. The bytes come as a slice of themselves.
pub due_behind : (request : Request) (told later : List ℕ → Option (List ℕ)) (old mid new : List ℕ → ℕ) (source slice : List ℕ) (answer : Answer) → slice ≡ source → (length source ≤ file_limit) × IfSome (told request.testbench) (λ file. source ≡ file) → ((n : List ℕ) → later n ≡ told n) → ((n : List ℕ) → old n ≤ mid n) → IsDueBehind request.netlist request.mode request.limits slice later mid new answer → IsDue (Some request) told old new answer
due_behind request told later old mid new source slice answer is read same counts due =
    let h : IsDueBehind request.netlist request.mode request.limits source later mid new answer = subst (λ (s : List ℕ). IsDueBehind request.netlist request.mode request.limits s later mid new answer) is due in
    record {
      testbench = ReadBytes source;
      netlist = h.reading;
      can_read = record { of_testbench = read.1; of_netlist = netlist_since request.netlist h.reading told later old mid new same counts h.can_read };
      is_answer = inr (read.0, h.is_answer);
    }

pub behind_bytes : (name : List ℕ) (mode : Mode) (limits : Limits) (source : List ℕ) (told : List ℕ → Option (List ℕ)) (old new : List ℕ → ℕ) (bytes slice : List ℕ) (answer : Answer) → slice ≡ bytes → (length bytes ≤ file_limit) × IfSome (told name) (λ all. bytes ≡ all) → AnswersFiles mode limits source (Some slice) answer → IsDueBehind (Some name) mode limits source told old new answer
behind_bytes name mode limits source told old new bytes slice answer is read h = record {
  reading = ReadBytes bytes;
  can_read = read.1;
  is_answer = inr (read.0, subst (λ (b : List ℕ). AnswersFiles mode limits source (Some b) answer) is h);
}
