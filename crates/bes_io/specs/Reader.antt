-- Lines of input: what is found next, and why reading stops.
use Rattle.std.specs.Prelude.{◌≡◌, ℕ, ◌+◌, ◌-◌, ◌<◌, ◌≤◌, ◌==◌, ◌⊎◌, Contains, min, nat_lt, if◌then◌else◌, List, [], length, Option, Some, None, Result, Ok, Err, IsSome}
use Rattle.std.specs.List.{before_first, after_first}
use Rattle.std.specs.Str.Lines.{strip_carriage_return}
use Rattle.std.specs.Io.{StartsWith}
use Rattle.std.specs.Io.KnownBytes.{prepend_known}
use Rattle.bes_io.specs.Causes.{Rose}
use Rattle.bes_io.specs.Bytes.{is_lf, text_len}
use Rattle.bes_io.specs.declared.lines.Found.{Found}
use Rattle.bes_io.specs.declared.lines.Found.TheVariants.{Line, End}
use Rattle.bes_io.specs.declared.lines.LineFault.{LineFault}
use Rattle.bes_io.specs.declared.lines.LineFault.TheVariants.{ReadFault, LineTooLong, InputTooLong}
use Rattle.bes_io.specs.declared.lines.Phase.{Phase}
use Rattle.bes_io.specs.declared.lines.Phase.TheVariants.{Reading, Closed, StoppedAtLine, StoppedAtInput}

-- A reader: the most bytes of its input, the bytes of the lines that it found, the bytes that it holds past them, the
-- line that the last call found, and whether it goes on.
pub record Reader : Type 0 where
  pub most : ℕ
  pub before : ℕ
  pub held : List ℕ
  pub line : Option (List ℕ)
  pub phase : Phase

-- what is still to come of the input: the bytes that the reader holds, and those that the source has left
abbrev pub input : Reader → Option (List ℕ) → Option (List ℕ)
input reader left = prepend_known reader.held left

-- how many bytes the input may still have
abbrev pub allowed : Reader → ℕ
allowed reader = reader.most - reader.before

-- the bytes of the first line, its LF counted
abbrev pub line_len : List ℕ → ℕ
line_len bytes = min (text_len bytes + 1) (length bytes)

-- the first line, without its end: a CR right before the LF is no part of it
abbrev pub first_line : List ℕ → List ℕ
first_line bytes = if nat_lt (text_len bytes) (length bytes) then strip_carriage_return (before_first is_lf bytes) else bytes

-- What is found at the front of these bytes, of which so many are allowed. The byte that is one too many of the input
-- comes before, or is, the 4,097th of the line; or the line has 4,097 bytes without an LF.
abbrev pub next_of : ℕ → List ℕ → Result Found LineFault
next_of most bytes = if length bytes == 0 then Ok End
    else if nat_lt most (min (line_len bytes) 4097) then Err InputTooLong
    else if nat_lt 4096 (text_len bytes) then Err LineTooLong else Ok Line

-- the answer of a reader at these bytes
abbrev pub answer_of : Phase → ℕ → List ℕ → Result Found LineFault
answer_of Reading most bytes = next_of most bytes
answer_of Closed most bytes = Ok End
answer_of StoppedAtLine most bytes = Err LineTooLong
answer_of StoppedAtInput most bytes = Err InputTooLong

-- a reader that has read nothing
abbrev pub fresh : ℕ → Reader
fresh most = record { most = most; before = 0; held = []; line = None; phase = Reading }

-- A call that found the first line of the bytes.
pub record TakesLine (old new : Reader) (bytes : List ℕ) (left : Option (List ℕ)) : Type 0 where
  pub rest : input new left ≡ Some (after_first is_lf bytes)
  pub line : new.line ≡ Some (first_line bytes)
  pub before : new.before ≡ old.before + line_len bytes
  pub most : new.most ≡ old.most
  pub phase : new.phase ≡ (if nat_lt (text_len bytes) (length bytes) then Reading else Closed)

-- A call that found no line: the input stays.
pub record StaysAt (old new : Reader) (after : Phase) (bytes : List ℕ) (left : Option (List ℕ)) : Type 0 where
  pub rest : input new left ≡ Some bytes
  pub line : new.line ≡ None
  pub before : new.before ≡ old.before
  pub most : new.most ≡ old.most
  pub phase : new.phase ≡ after

-- What a call does at these bytes: a line, the end, or the fault that has its cause there; or a fault of the source.
abbrev pub Finds : Reader → List ℕ → Result Found LineFault → Reader → Option (List ℕ) → Type 0
Finds old bytes (Ok Line) new left = (Ok Line ≡ answer_of old.phase (allowed old) bytes) × TakesLine old new bytes left
Finds old bytes (Ok End) new left = (Ok End ≡ answer_of old.phase (allowed old) bytes) × StaysAt old new Closed bytes left
Finds old bytes (Err ReadFault) new left = (old.phase ≡ Reading) × StaysAt old new Reading bytes left
Finds old bytes (Err LineTooLong) new left = (Err LineTooLong ≡ answer_of old.phase (allowed old) bytes) × StaysAt old new StoppedAtLine bytes left
Finds old bytes (Err InputTooLong) new left = (Err InputTooLong ≡ answer_of old.phase (allowed old) bytes) × StaysAt old new StoppedAtInput bytes left

-- a fault of reading comes only where the source's count rose, and any other answer leaves the count
abbrev pub HasReadCause : ℕ → ℕ → Result Found LineFault → Type 0
HasReadCause before now (Err ReadFault) = (before ≤ now) × Rose before now
HasReadCause before now r = now ≡ before

-- the reader after the first line of the bytes that it holds, among which there is an LF
abbrev pub after_held_line : Reader → Reader
after_held_line reader = record reader {
  before = reader.before + text_len reader.held + 1;
  held = after_first is_lf reader.held;
  line = Some (strip_carriage_return (before_first is_lf reader.held));
}

-- These bytes, of which so many are allowed, may be the front of a line: no LF is among them, they are not too many for a
-- line, and all are allowed.
pub record MayGoOn (most : ℕ) (bytes : List ℕ) : Type 0 where
  pub no_lf : ¬ Contains bytes 10
  pub no_longer : length bytes ≤ 4096
  pub within : length bytes ≤ most

-- 4,097 bytes with no LF among them: the front of a line that is too long
abbrev pub IsTooLong : List ℕ → Type 0
IsTooLong bytes = (length bytes ≡ 4097) × ¬ Contains bytes 10

-- What the held bytes tell, also where the source doesn't tell its rest. An LF among them gives the line before it, and the
-- end comes only where none are held. A fault leaves those held before at their front. After a fault of reading no line
-- and no other fault stands in them; at a line too long they are its first 4,097 bytes; at an input too long, the byte that
-- is one too many is held in the first line, whose LF counts.
abbrev pub HeldTells : Reader → Result Found LineFault → Reader → Type 0
HeldTells old (Ok Line) new = Contains old.held 10 → new ≡ after_held_line old
HeldTells old (Ok End) new = (old.phase ≡ Closed) ⊎ (old.held ≡ [])
HeldTells old (Err ReadFault) new = StartsWith new.held old.held × MayGoOn (allowed old) new.held
HeldTells old (Err LineTooLong) new = StartsWith new.held old.held × (old.phase ≡ Reading → IsTooLong new.held)
HeldTells old (Err InputTooLong) new = StartsWith new.held old.held × (old.phase ≡ Reading → allowed old < line_len new.held)

-- where a reader stands after an answer: a line is kept until the next call, and each answer but a line and a fault of
-- reading is the last new one
abbrev pub StandsAfter : Result Found LineFault → Reader → Type 0
StandsAfter (Ok Line) reader = IsSome reader.line
StandsAfter (Ok End) reader = (reader.line ≡ None) × (reader.phase ≡ Closed)
StandsAfter (Err ReadFault) reader = (reader.line ≡ None) × (reader.phase ≡ Reading)
StandsAfter (Err LineTooLong) reader = (reader.line ≡ None) × (reader.phase ≡ StoppedAtLine)
StandsAfter (Err InputTooLong) reader = (reader.line ≡ None) × (reader.phase ≡ StoppedAtInput)

-- a reader that has stopped
abbrev pub IsStopped : Phase → Type 0
IsStopped Reading = ⊥
IsStopped Closed = Unit {0}
IsStopped StoppedAtLine = Unit {0}
IsStopped StoppedAtInput = Unit {0}

-- a reader that has stopped answers by how it stopped
abbrev pub Repeats : Phase → Result Found LineFault → Type 0
Repeats Reading result = Unit {0}
Repeats Closed result = result ≡ Ok End
Repeats StoppedAtLine result = result ≡ Err LineTooLong
Repeats StoppedAtInput result = result ≡ Err InputTooLong
