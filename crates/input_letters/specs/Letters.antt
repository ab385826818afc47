-- What a call finds of a trace in the input.
use Rattle.std.specs.Prelude.{◌≡◌, ℕ, ◌<◌, ◌⊎◌, List, [], ◌∷◌, length, Contains, Option, Some, None, Result, Ok, Err}
use Rattle.bes_io.specs.Causes.{Rose}
use Rattle.bes_io.specs.Reader.{Reader, input, first_line, Finds}
use Rattle.bes_io.specs.Lines.{Stop, at_end, HasLines, Remains}
use Rattle.bes_io.specs.declared.lines.Found.TheVariants.{Line}
use Rattle.bes_io.specs.declared.lines.Phase.TheVariants.{Closed}
use Rattle.bes_io.specs.declared.lines.LineFault.{LineFault}
use Rattle.bes_io.specs.declared.lines.LineFault.TheVariants as line
use Rattle.spec_reader.specs.Event.{IsEventOf, event_fault}
use Rattle.spec_reader.specs.declared.events.Mode.TheVariants.{Ignore}
use Rattle.command_endings.specs.declared.endings.Refusal.{Refusal}
use Rattle.command_endings.specs.declared.endings.Refusal.TheVariants.{LineTooLong, InputTooLong}
use Rattle.command_endings.specs.declared.endings.Ending.{Ending}
use Rattle.command_endings.specs.declared.endings.Ending.TheVariants.{Positive, Negative, Refused, OutsideFault, NoMemory}
use Rattle.input_letters.specs.Traces.{most_input, AreEvents, stop_refusal, line_refusal, trace_refusal}

-- how a run ends where reading lines fails, line n being the one that comes next
abbrev pub stopped : ℕ → LineFault → Ending
stopped n line.ReadFault = OutsideFault
stopped n line.LineTooLong = Refused (LineTooLong n)
stopped n line.InputTooLong = Refused (InputTooLong n)

-- a call found the letter of the first line that remained, and the other lines remain
pub record FoundLetter (names : List (List ℕ)) (old : Reader) (bytes : List ℕ) (letter : ℕ) (new : Reader) (left : Option (List ℕ)) : Type 0 where
  pub later : List ℕ
  pub text : List ℕ
  pub rest : input new left ≡ Some later
  pub event : IsEventOf names Ignore text letter
  pub others : (lines : List (List ℕ)) (stop : Stop) → Remains new later lines stop → Remains old bytes (text ∷ lines) stop
  pub last : new.phase ≡ Closed → later ≡ []
  pub taken : Finds old bytes (Ok Line) new left
  pub first : text ≡ first_line bytes
  pub few : length new.held < 4097

-- a call found the end of these bytes
pub record FoundEnd (old : Reader) (bytes : List ℕ) (new : Reader) (left : Option (List ℕ)) : Type 0 where
  pub rest : input new left ≡ Some bytes
  pub ended : Remains old bytes [] at_end
  pub why : old.phase ≡ Closed ⊎ (bytes ≡ [])

-- the source failed: these bytes stay, and no LF is held
pub record FailedAt (old : Reader) (bytes : List ℕ) (new : Reader) (left : Option (List ℕ)) : Type 0 where
  pub stays : Finds old bytes (Err line.ReadFault) new left
  pub no_line : ¬ Contains new.held 10

-- why the next line, line n, is refused: it is no event, or there is none and the lines stop
abbrev pub next_refusal : List (List ℕ) → ℕ → List (List ℕ) → Stop → Option Refusal
next_refusal names n [] stop = stop_refusal n stop
next_refusal names n (text ∷ lines) stop = line_refusal n (event_fault names Ignore text) None

-- the next of the lines that remain, line n, is refused
pub record IsRefusedAt (names : List (List ℕ)) (n : ℕ) (old : Reader) (bytes : List ℕ) (refusal : Refusal) : Type 0 where
  pub lines : List (List ℕ)
  pub stop : Stop
  pub remain : Remains old bytes lines stop
  pub first : next_refusal names n lines stop ≡ Some refusal

-- what a call says of the lines of these bytes, line n being the next
abbrev pub NextLetter : List (List ℕ) → ℕ → Reader → List ℕ → Result (Option ℕ) Ending → Reader → Option (List ℕ) → Type 0
NextLetter names n old bytes (Ok (Some letter)) new left = FoundLetter names old bytes letter new left
NextLetter names n old bytes (Ok None) new left = FoundEnd old bytes new left
NextLetter names n old bytes (Err (Refused refusal)) new left = IsRefusedAt names n old bytes refusal
NextLetter names n old bytes (Err OutsideFault) new left = FailedAt old bytes new left
NextLetter names n old bytes (Err ending) new left = Unit {0}

-- what the whole input gives: the letters of its lines, or what is refused first
abbrev pub GivesTrace : List (List ℕ) → List ℕ → Result (List ℕ) Ending → Option (List ℕ) → Type 0
GivesTrace names rest (Ok word) left =
    (left ≡ Some []) × ((lines : List (List ℕ)) × HasLines most_input rest lines at_end × AreEvents names lines word)
GivesTrace names rest (Err (Refused refusal)) left =
    (lines : List (List ℕ)) × (stop : Stop) × HasLines most_input rest lines stop × (trace_refusal names 1 lines stop ≡ Some refusal)
GivesTrace names rest (Err ending) left = Unit {0}

-- an ending that reading a trace may have: a fault of the source, want of memory, or a refusal; each other is none
abbrev pub HasTraceCause : {T : Type 0} → ℕ → ℕ → Result T Ending → Type 0
HasTraceCause before now (Ok found) = now ≡ before
HasTraceCause before now (Err OutsideFault) = Rose before now
HasTraceCause before now (Err (Refused refusal)) = now ≡ before
HasTraceCause before now (Err NoMemory) = now ≡ before
HasTraceCause before now (Err Positive) = ⊥
HasTraceCause before now (Err Negative) = ⊥
