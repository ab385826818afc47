-- The lines of a text that count: each with its number, its key and its value.
use Rattle.std.specs.Prelude.{ℕ, ◌+◌, ◌-◌, ◌==◌, ◌||◌, Bool, if◌then◌else◌, List, [], ◌∷◌, length, take, drop, slice_index}
use Rattle.std.specs.List.{prefix_len, suffix_len, before_first}
use Rattle.std.specs.Str.Lines.{lines}
use Rattle.form_tokens.specs.Words.{is_blank}
use Rattle.spec_lines.specs.declared.text_line.Line.{Line}

-- a line as plain data: its number, counted from 1, its key, how many of its bytes stand before the value, and the value
pub record TextLine : Type 0 where
  pub number : ℕ
  pub key : List ℕ
  pub before : ℕ
  pub value : List ℕ

-- the bytes without the blanks at their front
abbrev pub without_front : List ℕ → List ℕ
without_front bytes = drop (prefix_len is_blank bytes) bytes

-- the bytes without the blanks at their end
abbrev pub without_back : List ℕ → List ℕ
without_back bytes = take (length bytes - suffix_len is_blank bytes) bytes

-- the bytes without the blanks at both ends
abbrev pub bare : List ℕ → List ℕ
bare bytes = without_back (without_front bytes)

-- whether a line is passed over: without its blanks it is empty, or begins with `#`
abbrev pub is_passed_over : List ℕ → Bool
is_passed_over line = length (bare line) == 0 || slice_index (bare line) 0 == 35

-- the bytes up to the first blank
abbrev pub key_of : List ℕ → List ℕ
key_of line = before_first is_blank (bare line)

-- what follows the key and the blanks behind it
abbrev pub value_of : List ℕ → List ℕ
value_of line = without_front (drop (length (key_of line)) (bare line))

-- how many bytes of the line stand before the value, of which a line without one has all up to the blanks at its end
abbrev pub before_value : List ℕ → ℕ
before_value line = length line - length (without_front line) + (length (bare line) - length (value_of line))

-- the line with this number
abbrev pub text_line : ℕ → List ℕ → TextLine
text_line number line = record { number = number; key = key_of line; before = before_value line; value = value_of line }

-- those of the lines that aren't passed over, of which the first has this number
abbrev pub counted_from : ℕ → List (List ℕ) → List TextLine
counted_from number [] = []
counted_from number (line ∷ later) =
    if is_passed_over line then counted_from (number + 1) later
    else text_line number line ∷ counted_from (number + 1) later

-- The lines of a text that aren't passed over. A line ends at LF, with a CR right before it dropped, and the last line may
-- lack its LF, as `str::lines` of Rust has it.
abbrev pub counted_lines : List ℕ → List TextLine
counted_lines text = counted_from 1 (lines text)

-- a `Line` without its loans
abbrev pub shown : Line → TextLine
shown line = record { number = line.number; key = line.key.now; before = line.before; value = line.value.now }
