-- Laws of the lines of an input.
use Rattle.std.specs.Prelude.{◌≡◌, ℕ, ◌<◌, ◌≤◌, ◌↔◌, List, length, take, Contains, Err}
use Rattle.std.specs.Str.Lines.{lines}
use Rattle.bes_io.specs.Reader.{next_of}
use Rattle.bes_io.specs.Lines.{Stop, at_end, at_fault, HasLines}
use Rattle.bes_io.specs.declared.lines.LineFault.TheVariants.{LineTooLong, InputTooLong}

-- an input has its lines and its stop in one way
abbrev pub InOneWay : Type 0
InOneWay = (most : ℕ) (bytes : List ℕ) (some others : List (List ℕ)) (stop other : Stop) → HasLines most bytes some stop → HasLines most bytes others other → (some ≡ others) × (stop ≡ other)

-- every input has lines and a stop
abbrev pub EachHasLines : Type 0
EachHasLines = (most : ℕ) (bytes : List ℕ) → (found : List (List ℕ)) × (stop : Stop) × HasLines most bytes found stop

-- where the lines stop at the end of the input, they are those that Rust's `str::lines` gives
abbrev pub AsStrLines : Type 0
AsStrLines = (most : ℕ) (bytes : List ℕ) (found : List (List ℕ)) → HasLines most bytes found at_end → found ≡ lines bytes

-- a line is too long exactly where its 4,097th byte is there and allowed, and no LF is among its first 4,097 bytes
abbrev pub CauseOfLineTooLong : Type 0
CauseOfLineTooLong = (most : ℕ) (bytes : List ℕ) → next_of most bytes ≡ Err LineTooLong ↔ ((4097 ≤ length bytes) × (4097 ≤ most) × ¬ Contains (take 4097 bytes) 10)

-- an input is too long exactly where the first byte past those allowed is there, is among the first 4,097 bytes of the line
-- that comes next, and no LF comes before it there
abbrev pub CauseOfInputTooLong : Type 0
CauseOfInputTooLong = (most : ℕ) (bytes : List ℕ) → next_of most bytes ≡ Err InputTooLong ↔ ((most < length bytes) × (most ≤ 4096) × ¬ Contains (take most bytes) 10)

-- lines stop at the end only of an input that is allowed whole
abbrev pub EndsWithinMost : Type 0
EndsWithinMost = (most : ℕ) (bytes : List ℕ) (found : List (List ℕ)) → HasLines most bytes found at_end → length bytes ≤ most

-- lines stop at too much input only where the input has more bytes than are allowed
abbrev pub StopsPastMost : Type 0
StopsPastMost = (most : ℕ) (bytes : List ℕ) (found : List (List ℕ)) → HasLines most bytes found (at_fault InputTooLong) → most < length bytes
