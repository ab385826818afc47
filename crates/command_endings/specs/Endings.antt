-- What a run ends with: its status, and the message that it leaves.
use Rattle.std.specs.Prelude.{◌≡◌, ◌⊎◌, ℕ, List, [], ◌++◌, codes, decimal}
use Rattle.form_reader.specs.declared.fault.FormFault.{FormFault}
use Rattle.form_reader.specs.declared.fault.FormFault.TheVariants as form
use Rattle.spec_reader.specs.declared.events.EventFault.{EventFault}
use Rattle.spec_reader.specs.declared.events.EventFault.TheVariants as event
use Rattle.spec_reader.specs.declared.spec.Key.{Key}
use Rattle.spec_reader.specs.declared.spec.Key.TheVariants as key
use Rattle.spec_reader.specs.declared.spec.SpecFault.{SpecFault}
use Rattle.spec_reader.specs.declared.spec.SpecFault.TheVariants as specification
use Rattle.command_endings.specs.declared.endings.Concern.{Concern}
use Rattle.command_endings.specs.declared.endings.Concern.TheVariants as concern
use Rattle.command_endings.specs.declared.endings.Refusal.{Refusal}
use Rattle.command_endings.specs.declared.endings.Refusal.TheVariants.{Usage, Formula, Specification, TooMany, Breakable, NoEvent, Event, NotLegal, LineTooLong, InputTooLong}
use Rattle.command_endings.specs.declared.endings.Ending.{Ending}
use Rattle.command_endings.specs.declared.endings.Ending.TheVariants.{Positive, Negative, Refused, OutsideFault, NoMemory}

-- the status of a refusal: wrong words, a refused formula, a limit, what is assumed can't be kept, refused input
abbrev pub refusal_status : Refusal → ℕ
refusal_status Usage = 2
refusal_status (Formula fault) = 3
refusal_status (Specification fault) = 3
refusal_status (TooMany concern part count limit) = 5
refusal_status (Breakable rounds) = 6
refusal_status NoEvent = 4
refusal_status (Event line fault) = 4
refusal_status (NotLegal line) = 4
refusal_status (LineTooLong line) = 4
refusal_status (InputTooLong line) = 4

-- the status of an ending
abbrev pub status_of : Ending → ℕ
status_of Positive = 0
status_of Negative = 1
status_of (Refused refusal) = refusal_status refusal
status_of OutsideFault = 7
status_of NoMemory = 8

-- why a formula is refused, in words; no refusal has want of memory, which ends a run in another way
unfoldable pub form_fault_text : FormFault → List ℕ
form_fault_text (form.BadByte at) = codes "bad byte at " ++ decimal at
form_fault_text (form.Unexpected at) = codes "unexpected token at " ++ decimal at
form_fault_text form.Unfinished = codes "unfinished"
form_fault_text (form.TooDeep at) = codes "too deep at " ++ decimal at
form_fault_text (form.TooManyTokens at) = codes "too many tokens at " ++ decimal at
form_fault_text (form.TooManyNames at) = codes "too many names at " ++ decimal at
form_fault_text (form.Undeclared at) = codes "undeclared name at " ++ decimal at
form_fault_text form.Memory = codes "out of memory"

-- a key, in words
unfoldable pub key_text : Key → List ℕ
key_text key.Inputs = codes "inputs"
key_text key.Outputs = codes "outputs"
key_text key.First = codes "first"
key_text key.Goal = codes "goal"

-- a refused line of a specification file
unfoldable pub specification_line : ℕ → List ℕ → List ℕ
specification_line line why = codes " line " ++ decimal line ++ codes ": " ++ why

-- why a specification file is refused, in words; no refusal has want of memory
unfoldable pub specification_fault_text : SpecFault → List ℕ
specification_fault_text specification.TooLong = codes ": too long"
specification_fault_text (specification.UnknownKey line) = specification_line line (codes "unknown key")
specification_fault_text (specification.Repeated line) = specification_line line (codes "repeated key")
specification_fault_text (specification.BadName line) = specification_line line (codes "bad name")
specification_fault_text (specification.NameTwice line) = specification_line line (codes "name given twice")
specification_fault_text (specification.TooManyNames line) = specification_line line (codes "too many names")
specification_fault_text (specification.BadValue line) = specification_line line (codes "bad value")
specification_fault_text (specification.Missing key) = codes ": missing " ++ key_text key
specification_fault_text (specification.Form line fault) = specification_line line (form_fault_text fault)
specification_fault_text (specification.TooManyLines line) = specification_line line (codes "too many lines")
specification_fault_text specification.Memory = codes ": out of memory"

-- why a line is no event, in words
unfoldable pub event_fault_text : EventFault → List ℕ
event_fault_text (event.BadByte at) = codes "bad byte at " ++ decimal at
event_fault_text (event.UnknownName at) = codes "unknown name at " ++ decimal at

-- the formula that a limit is passed in, in words
unfoldable pub concern_text : Concern → List ℕ
concern_text concern.Formula = codes "formula"
concern_text concern.Assume = codes "assume"
concern_text concern.Goal = codes "goal"
concern_text concern.Duty = codes "duty"
concern_text concern.Model = codes "model"

-- a refused line of the input
unfoldable pub line_text : ℕ → List ℕ → List ℕ
line_text line why = codes "bes: input line " ++ decimal line ++ codes ": " ++ why ++ codes "\n"

-- the message of a refusal
unfoldable pub refusal_text : Refusal → List ℕ
refusal_text Usage = codes "usage: bes judge|forms|translate|monitor DIALECT FORMULA, synth|play SPEC, check, demo N\n"
refusal_text (Formula fault) = codes "bes: formula: " ++ form_fault_text fault ++ codes "\n"
refusal_text (Specification fault) = codes "bes: specification" ++ specification_fault_text fault ++ codes "\n"
refusal_text (TooMany concern part count limit) =
    codes "bes: " ++ concern_text concern ++ codes " part " ++ decimal part ++ codes " has " ++ decimal count ++ codes " locations, the limit is " ++ decimal limit ++ codes "\n"
refusal_text (Breakable rounds) = codes "bes: the assumption can be broken within " ++ decimal rounds ++ codes " rounds\n"
refusal_text NoEvent = codes "bes: input: no event\n"
refusal_text (Event line fault) = line_text line (event_fault_text fault)
refusal_text (NotLegal line) = line_text line (codes "not legal")
refusal_text (LineTooLong line) = line_text line (codes "line too long")
refusal_text (InputTooLong line) = line_text line (codes "input too long")

-- the message of an ending; an answer has none
abbrev pub message_of : Ending → List ℕ
message_of Positive = []
message_of Negative = []
message_of (Refused refusal) = refusal_text refusal
message_of OutsideFault = codes "bes: outside fault\n"
message_of NoMemory = codes "bes: out of memory\n"

-- the status of a refusal that comes before the input is asked
abbrev pub IsUnread : ℕ → Type 0
IsUnread number = (number ≡ 2) ⊎ ((number ≡ 3) ⊎ ((number ≡ 5) ⊎ (number ≡ 6)))

-- a line of the input is refused, or is too long for it
abbrev pub IsLineRefused : Ending → Type 0
IsLineRefused (Refused (Event line fault)) = Unit {0}
IsLineRefused (Refused (NotLegal line)) = Unit {0}
IsLineRefused (Refused (LineTooLong line)) = Unit {0}
IsLineRefused (Refused (InputTooLong line)) = Unit {0}
IsLineRefused ending = ⊥
