-- The steps of a reader inside one call: what the bytes that it holds decide.
use Rattle.std.specs.Prelude.{ℕ, ◌+◌, ◌==◌, nat_lt, if◌then◌else◌, List, [], length, Option, Some, None, Result, Ok, Err}
use Rattle.bes_io.specs.Bytes.{text_len}
use Rattle.bes_io.specs.Reader.{Reader, after_held_line}
use Rattle.bes_io.specs.declared.lines.Found.{Found}
use Rattle.bes_io.specs.declared.lines.Found.TheVariants.{Line}
use Rattle.bes_io.specs.declared.lines.LineFault.{LineFault}
use Rattle.bes_io.specs.declared.lines.LineFault.TheVariants.{ReadFault, LineTooLong, InputTooLong}
use Rattle.bes_io.specs.declared.lines.Phase.TheVariants.{Closed, StoppedAtLine, StoppedAtInput}

-- what the held bytes alone decide
abbrev pub decided : ℕ → List ℕ → Option (Result Found LineFault)
decided most held = if nat_lt (text_len held) (length held)
    then Some (if nat_lt (text_len held) most then Ok Line else Err InputTooLong)
    else if nat_lt most (length held) then Some (Err InputTooLong)
    else if nat_lt 4096 (length held) then Some (Err LineTooLong) else None

-- the reader after it answered by the held bytes
abbrev pub settled : Reader → Option (Result Found LineFault) → Reader
settled reader (Some (Ok f)) = after_held_line reader
settled reader (Some (Err ReadFault)) = record reader { line = None }
settled reader (Some (Err LineTooLong)) = record reader { line = None; phase = StoppedAtLine }
settled reader (Some (Err InputTooLong)) = record reader { line = None; phase = StoppedAtInput }
settled reader None = record reader { line = None }

-- the reader at the end of its input: what it holds is the last line, if it is not empty
abbrev pub closed : Reader → Reader
closed reader = record reader {
  before = reader.before + length reader.held;
  held = [];
  line = (if length reader.held == 0 then None else Some reader.held);
  phase = Closed;
}

-- the reader with other bytes
abbrev pub holding : Reader → List ℕ → Reader
holding reader held = record reader { held = held; line = None }
