-- The text of a translated formula: its names, the class counts of its parts, its automaton, and words that tell
-- locations apart.
use Rattle.std.specs.Prelude.{◌≡◌, ◌<◌, ◌^◌, ◌==◌, ℕ, zero, suc, List, [], ◌++◌, map, length, slice_index, slice_index_or, codes, decimal, Option, Some, None, if◌then◌else◌}
use Rattle.bes_io.specs.Letter.{has}
use Rattle.forms.specs.Tree.{Formula}
use Rattle.forms.specs.Parts.{part}
use Rattle.forms.specs.Word.{Word}
use Rattle.form_printer.specs.Printed.{printed}
use Rattle.diagrams.specs.declared.cubes.Cube.{Cube}
use Rattle.diagrams.specs.Tree.{Assignment}
use Rattle.diagrams.specs.Eval.{letter_truth}
use Rattle.diagrams.specs.Cubes.{AreCubesOf, printed_cube}
use Rattle.automata.specs.Moves.{Moves}
use Rattle.automata.specs.Listing.{location_lines}

-- the first so many names, with a space before each
abbrev pub name_list : List (List ℕ) → ℕ → List ℕ
name_list names zero = []
name_list names (suc n) = name_list names n ++ codes " " ++ slice_index_or names n []

-- the text of a part, counted from 1
abbrev pub part_text : List (List ℕ) → Option Formula → List ℕ
part_text names (Some f) = printed names f
part_text names None = []

-- `part K COUNT TEXT`
abbrev pub part_line : List (List ℕ) → Formula → List ℕ → ℕ → List ℕ
part_line names f counts k =
    codes "part " ++ decimal (suc k) ++ codes " " ++ decimal (slice_index counts k) ++ codes " " ++ part_text names (part f (suc k)) ++ codes "\n"

-- a line for each of the first so many parts
abbrev pub part_lines : List (List ℕ) → Formula → List ℕ → ℕ → List ℕ
part_lines names f counts zero = []
part_lines names f counts (suc n) = part_lines names f counts n ++ part_line names f counts n

-- the bits of the first so many propositions in a letter
abbrev pub bits_of : ℕ → ℕ → ℕ → List ℕ
bits_of p letter zero = []
bits_of p letter (suc n) = bits_of p letter n ++ (if has p n letter then codes "1" else codes "0")

-- a letter over p propositions: a bit for each, or `.` where there is none
abbrev pub letter_text : ℕ → ℕ → List ℕ
letter_text p letter = if p == 0 then codes "." else bits_of p letter p

-- the first so many letters of a word, with a space before each
abbrev pub letter_list : ℕ → Word → ℕ → List ℕ
letter_list p word zero = []
letter_list p word (suc n) = letter_list p word n ++ codes " " ++ letter_text p (slice_index word n)

-- `word BITS BITS ..`, or `word empty`
abbrev pub word_line : ℕ → Word → List ℕ
word_line p word = if length word == 0 then codes "word empty\n" else codes "word" ++ letter_list p word (length word) ++ codes "\n"

-- a line for each of the first so many words
abbrev pub word_lines : ℕ → List Word → ℕ → List ℕ
word_lines p words zero = []
word_lines p words (suc n) = word_lines p words n ++ word_line p (slice_index_or words n [])

-- the cubes of a function on letters over p propositions
pub record AreLetterCubes (p : ℕ) (f : ℕ → ℕ) (cubes : List Cube) : Type 0 where
  pub value : Assignment → ℕ
  pub letters : (letter : ℕ) → letter < 2 ^ p → value (letter_truth p letter) ≡ f letter
  pub over : (a b : Assignment) → ((v : ℕ) → v < p → a v ≡ b v) → value a ≡ value b
  pub plain : List Cube
  pub are : AreCubesOf p 0 value plain
  pub cubes_printed : cubes ≡ map printed_cube plain

-- the lines of an automaton's locations
pub record ListsMoves (p : ℕ) (m : Moves) (text : List ℕ) : Type 0 where
  pub cubes : ℕ → List Cube
  pub rows : (at : ℕ) → at < m.size → AreLetterCubes p (m.next at) (cubes at)
  pub lines : text ≡ location_lines m.mark cubes m.size

-- the whole text, of these lines for the automaton's locations
abbrev pub automaton_text : List (List ℕ) → Formula → List ℕ → ℕ → List ℕ → List Word → List ℕ
automaton_text names f counts size table words =
    codes "automaton 1\nnames" ++ name_list names (length names) ++ codes "\n" ++ part_lines names f counts (length counts)
    ++ codes "whole " ++ decimal size ++ codes "\n" ++ table ++ word_lines (length names) words (length words) ++ codes "end\n"
