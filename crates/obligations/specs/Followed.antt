-- Obligations that stand for the locations of an automaton.
use Rattle.std.specs.Prelude.{◌≡◌, ℕ, ◌<◌, ◌≤◌, ◌+◌, List, [], length, slice_index_or}
use Rattle.diagrams.specs.Eval.{Diagrams}
use Rattle.diagrams.specs.Live.{Keeps}
use Rattle.automata.specs.Table.{Table, size_of}
use Rattle.obligations.specs.declared.cells.Obligation.{Obligation}
use Rattle.obligations.specs.Table.{missing}
use Rattle.obligations.specs.Value.{cell}
use Rattle.obligations.specs.Inclusion.{accepts_from}

-- d has each obligation of c from a number on, and may have more
pub record HasFrom (from : ℕ) (c d : List Obligation) : Type 0 where
  pub longer : length c ≤ length d
  pub same : (j : ℕ) → from ≤ j → j < length c → slice_index_or d j missing ≡ slice_index_or c j missing

-- d goes on where c ends
abbrev pub GoesOn : List Obligation → List Obligation → Type 0
GoesOn c d = HasFrom 0 c d

-- obligation base + k holds exactly on the words that location k accepts, in each later store and each
-- table that has the obligations from base on
abbrev pub StandsFor : Diagrams → List Obligation → Table → ℕ → Type 0
StandsFor s c t base = (n : Diagrams) (d : List Obligation) → Keeps s n → HasFrom base c d
    → (at : ℕ) → at < size_of t → (word : List ℕ) → cell n d word (base + at) ≡ accepts_from s t at word

-- the locations that go with one
abbrev pub wider_of : List (List ℕ) → ℕ → List ℕ
wider_of lists at = slice_index_or lists at []
