-- A sink in memory, as contracts see it.
use Rattle.std.specs.Prelude.{ℕ, ◌+◌, ◌==◌, Bool, not, ◌&&◌, ◌||◌, nat_le, if◌then◌else◌, List, ◌++◌, length, take, min}
use Rattle.std.specs.List.{list_any}
use Rattle.vera_io.specs.Faults.{raised}

pub record SinkState : Type 0 where
  -- the bytes taken so far
  pub taken : List ℕ
  -- how many bytes there is room for in all
  pub room : ℕ
  -- how many bytes a call takes at most
  pub step : ℕ
  -- the numbers of the calls that fail
  pub failing : List ℕ
  -- how many calls there were
  pub calls : ℕ
  -- how many of them failed
  pub faults : ℕ

-- how many bytes of a piece a call takes
abbrev pub share_of : SinkState → List ℕ → ℕ
share_of sink piece = min sink.step (length piece)

-- the next call is one of those that are to fail
abbrev pub is_due : SinkState → Bool
is_due sink = list_any (λ number. number == raised sink.calls) sink.failing

-- The next call, with this piece, takes bytes: it isn't to fail, what it takes doesn't pass the room, and it
-- takes something unless the piece is empty.
abbrev pub can_take : SinkState → List ℕ → Bool
can_take sink piece =
    not (is_due sink) && nat_le (length sink.taken + share_of sink piece) sink.room && (not (sink.step == 0) || length piece == 0)

-- the sink after a call with this piece
abbrev pub after_call : SinkState → List ℕ → SinkState
after_call sink piece = record {
  taken = if can_take sink piece then sink.taken ++ take (share_of sink piece) piece else sink.taken;
  room = sink.room;
  step = sink.step;
  failing = sink.failing;
  calls = raised sink.calls;
  faults = if can_take sink piece then sink.faults else raised sink.faults;
}
