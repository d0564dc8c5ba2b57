-- What the reader has noted of the directives before one.
use Rattle.std.specs.Prelude.{◌≡◌, ℕ, List, length, All, Option}
use Rattle.std.specs.List.{slice_get, list_any}
use Rattle.blif_read.specs.declared.directives.Block.{Block}
use Rattle.blif_read.specs.declared.refusals.Refusal.{Refusal}
use Rattle.blif_read.specs.declared.refusals.Seen.{Seen}
use Rattle.blif_read.specs.Nets.{names}
use Rattle.blif_read.specs.Refusals.{each, drives, gates, clocks, clock_names, sources, is_model}
use Rattle.blif_read.specs.Sets.{IsSet, AllBelow}

-- each net number is below count
abbrev pub NetsBelow : ℕ → List (Block ℕ) → Type 0
NetsBelow count blocks = All (λ b. AllBelow count (names b.directive)) blocks

-- the first of some refusals
abbrev pub first : List Refusal → Option Refusal
first refusals = slice_get refusals 0

abbrev pub refusal_at : ℕ → ℕ → Refusal
refusal_at line code = record { code = code; line = line }

pub record HasSize (count : ℕ) (s : Seen) : Type 0 where
  pub driven : length s.driven ≡ count
  pub gated : length s.gated ≡ count
  pub clocked : length s.clocked ≡ count
  pub sources : length s.sources ≡ count

-- the notes of the directives of `before`, and of the drivers of `driving`
pub record Knows (s : Seen) (all before driving : List (Block ℕ)) : Type 0 where
  pub driven : IsSet s.driven (each drives driving)
  pub gated : IsSet s.gated (each gates before)
  pub clocked : IsSet s.clocked (each clocks before)
  pub sources : IsSet s.sources (each sources all)
  pub model : s.has_model ≡ list_any (λ b. is_model b.directive) before
  pub clock : s.clock ≡ slice_get (each clock_names before) 0
