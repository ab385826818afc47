-- The trace that the lines of the input give, and what is refused first in them.
use Rattle.std.specs.Prelude.{ℕ, ◌+◌, List, [], ◌∷◌, Option, Some, None}
use Rattle.bes_io.specs.Lines.{Stop, at_end, at_fault, HasLines}
use Rattle.bes_io.specs.declared.lines.LineFault.TheVariants as line
use Rattle.spec_reader.specs.Event.{IsEventOf, event_fault}
use Rattle.spec_reader.specs.declared.events.EventFault.{EventFault}
use Rattle.spec_reader.specs.declared.events.Mode.TheVariants.{Ignore}
use Rattle.command_endings.specs.declared.endings.Refusal.{Refusal}
use Rattle.command_endings.specs.declared.endings.Refusal.TheVariants.{Event, LineTooLong, InputTooLong}

-- the most bytes of an input that is judged
abbrev pub most_input : ℕ
most_input = 67108864

-- each line is an event, and these are their letters; a name that isn't in the table is passed over
abbrev pub AreEvents : List (List ℕ) → List (List ℕ) → List ℕ → Type 0
AreEvents names [] [] = Unit {0}
AreEvents names (text ∷ lines) (letter ∷ word) = IsEventOf names Ignore text letter × AreEvents names lines word
AreEvents names [] (letter ∷ word) = ⊥
AreEvents names (text ∷ lines) [] = ⊥

-- these bytes, of which so many are allowed, are lines that are all events, one or more
pub record HasTrace (most : ℕ) (names : List (List ℕ)) (rest : List ℕ) : Type 0 where
  pub lines : List (List ℕ)
  pub letter : ℕ
  pub word : List ℕ
  pub has : HasLines most rest lines at_end
  pub events : AreEvents names lines (letter ∷ word)

-- where the lines stop, line n being the one that comes next
abbrev pub stop_refusal : ℕ → Stop → Option Refusal
stop_refusal n at_end = None
stop_refusal n (at_fault line.LineTooLong) = Some (LineTooLong n)
stop_refusal n (at_fault line.InputTooLong) = Some (InputTooLong n)
stop_refusal n (at_fault line.ReadFault) = None

-- a refused line, or else what is refused later
abbrev pub line_refusal : ℕ → Option EventFault → Option Refusal → Option Refusal
line_refusal n None later = later
line_refusal n (Some fault) later = Some (Event n fault)

-- what is refused first in the lines and where they stop, line n being the first
abbrev pub trace_refusal : List (List ℕ) → ℕ → List (List ℕ) → Stop → Option Refusal
trace_refusal names n [] stop = stop_refusal n stop
trace_refusal names n (text ∷ lines) stop =
    line_refusal n (event_fault names Ignore text) (trace_refusal names (n + 1) lines stop)
