-- Event lines: words between blanks, and the letter that they give.
use Rattle.std.specs.Prelude.{◌≡◌, ℕ, zero, suc, ◌+◌, ◌^◌, ◌<◌, ◌==◌, ◌&&◌, ◌||◌, if◌then◌else◌, nat_lt, nat_le, min, List, [], ◌∷◌, length, take, Bool, true, false, Option, Some, None}
use Rattle.bes_io.specs.Letter.{has}
use Rattle.form_tokens.specs.Names.{number_of}
use Rattle.form_tokens.specs.Words.{is_blank, begins_word, word_length, longest_word}
use Rattle.spec_reader.specs.declared.events.Mode.{Mode}
use Rattle.spec_reader.specs.declared.events.Mode.TheVariants.{Ignore, Only}
use Rattle.spec_reader.specs.declared.events.EventFault.{EventFault}
use Rattle.spec_reader.specs.declared.events.EventFault.TheVariants.{BadByte, UnknownName}

-- what stands on a line, with the place of its first byte: a word, or a byte that belongs to no word
pub data Piece : Type 0 where
  Word : (at : ℕ) → (bytes : List ℕ) → Piece
  Stray : (at : ℕ) → Piece

-- behind a word of 64 bytes, the 65th byte of its run belongs to no word
abbrev pub past_longest : ℕ → ℕ → List Piece → List Piece
past_longest at run rest = if nat_lt longest_word run then Stray (at + longest_word) ∷ rest else rest

-- the pieces from a run of word bytes on: the run's first 64 bytes are a word
abbrev pub run_pieces : ℕ → ℕ → List ℕ → List Piece → List Piece
run_pieces at run bytes rest = Word at (take (min run longest_word) bytes) ∷ past_longest at run rest

-- the pieces of the bytes, of which the first `skip` belong to the run before; the first byte's place is `at`
abbrev pub pieces_from : ℕ → ℕ → List ℕ → List Piece
pieces_from skip at [] = []
pieces_from (suc skip) at (b ∷ bs) = pieces_from skip (suc at) bs
pieces_from zero at (b ∷ bs) =
    if is_blank b then pieces_from zero (suc at) bs
    else if begins_word b then run_pieces at (word_length (b ∷ bs)) (b ∷ bs) (pieces_from (word_length bs) (suc at) bs)
    else Stray at ∷ pieces_from zero (suc at) bs

-- the pieces of a line, whose places count from 1
abbrev pub pieces : List ℕ → List Piece
pieces line = pieces_from zero 1 line

-- whether the word is a name of the table
abbrev pub is_known : List (List ℕ) → List ℕ → Bool
is_known names word = nat_lt (number_of names word) (length names)

-- whether the mode admits the word
abbrev pub is_admitted : List (List ℕ) → Mode → List ℕ → Bool
is_admitted names Ignore word = true
is_admitted names (Only from to) word =
    is_known names word && nat_le from (number_of names word) && nat_lt (number_of names word) to

-- the fault of the first piece that is refused
abbrev pub first_refused : List (List ℕ) → Mode → List Piece → Option EventFault
first_refused names mode [] = None
first_refused names mode (Stray at ∷ ps) = Some (BadByte at)
first_refused names mode (Word at word ∷ ps) =
    if is_admitted names mode word then first_refused names mode ps else Some (UnknownName at)

-- why the line is no event, and at which place first
abbrev pub event_fault : List (List ℕ) → Mode → List ℕ → Option EventFault
event_fault names mode line = first_refused names mode (pieces line)

-- whether the name numbered i is among the words
abbrev pub is_on : List (List ℕ) → ℕ → List Piece → Bool
is_on names i [] = false
is_on names i (Stray at ∷ ps) = is_on names i ps
is_on names i (Word at word ∷ ps) = number_of names word == i || is_on names i ps

-- the line is an event with this letter: no piece is refused, and proposition i is true in the letter where name i is on the line
pub record IsEventOf (names : List (List ℕ)) (mode : Mode) (line : List ℕ) (letter : ℕ) : Type 0 where
  pub admitted : event_fault names mode line ≡ None
  pub below : letter < 2 ^ length names
  pub bits : (i : ℕ) → i < length names → has (length names) i letter ≡ is_on names i (pieces line)
