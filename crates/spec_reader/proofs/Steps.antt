-- The outcome of a line, piece by piece.
use Rattle.std.proofs.Common.{◌≡◌, ℕ, ◌+◌, ◌<◌, ◌≤◌, min, Bool, true, false, cond, List, length, take, get_or, Option, Some, None, Result, Ok, Err, refl, sym, ap, ◌∙◌}
use Rattle.std.specs.Option.{ok_or}
use Rattle.std.proofs.lemmas.Bool.{lt-ltb, le-ltb}
use Rattle.form_tokens.specs.Words.{is_blank, begins_word, word_length, longest_word}
use Rattle.spec_reader.specs.declared.events.Mode.{Mode}
use Rattle.spec_reader.specs.declared.events.EventFault.{EventFault}
use Rattle.spec_reader.specs.declared.events.EventFault.TheVariants.{BadByte, UnknownName}
use Rattle.spec_reader.specs.Event.{Piece, past_longest, is_admitted}
use Rattle.spec_reader.specs.Word.{with_word}
use Rattle.spec_reader.proofs.Outcome.{outcome}
use Rattle.spec_reader.proofs.Pieces.{pieces_at, rest_of, pieces_at-stray, pieces_at-word, pieces_at-end}

-- the outcome behind a word, from the letter with it, or its fault
abbrev pub after : List (List ℕ) → Mode → ℕ → ℕ → List Piece → Result ℕ EventFault → Result ℕ EventFault
after names mode at run ps (Err fault) = Err fault
after names mode at run ps (Ok letter) = outcome names mode letter (past_longest at run ps)

-- the letter with a word, if the mode admits it
abbrev pub taken : List (List ℕ) → Mode → ℕ → List ℕ → Option ℕ
taken names mode letter word = cond (is_admitted names mode word) (Some (with_word names word letter)) None

-- the outcome at a word, once the mode has been asked
after-ok_or : (names : List (List ℕ)) (mode : Mode) (letter at run : ℕ) (ps : List Piece) (admitted : Bool) → cond admitted (outcome names mode letter (past_longest at run ps)) (Err (UnknownName at)) ≡ after names mode at run ps (ok_or (cond admitted (Some letter) None) (UnknownName at))
after-ok_or names mode letter at run ps true = refl
after-ok_or names mode letter at run ps false = refl

-- a byte that belongs to no word is the fault
pub outcome-stray : (names : List (List ℕ)) (mode : Mode) (letter : ℕ) (line : List ℕ) (i : ℕ) → i < length line → is_blank (get_or (rest_of line i) 0 0) ≡ false → begins_word (get_or (rest_of line i) 0 0) ≡ false → outcome names mode letter (pieces_at line i) ≡ Err (BadByte (i + 1))
outcome-stray names mode letter line i h e f = ap (λ ps. outcome names mode letter ps) (pieces_at-stray line i h e f)

-- a run of word bytes gives what follows from its word
pub outcome-word : (names : List (List ℕ)) (mode : Mode) (letter : ℕ) (line : List ℕ) (i run n : ℕ) → i < length line → is_blank (get_or (rest_of line i) 0 0) ≡ false → begins_word (get_or (rest_of line i) 0 0) ≡ true → run ≡ word_length (rest_of line i) → n ≡ min run longest_word
    → outcome names mode letter (pieces_at line i) ≡ after names mode (i + 1) run (pieces_at line (i + run)) (ok_or (taken names mode letter (take n (rest_of line i))) (UnknownName (i + 1)))
outcome-word names mode letter line i run n h e f r m =
    let word = take (min run longest_word) (rest_of line i) in
    let ps = pieces_at line (i + run) in
    ap (λ qs. outcome names mode letter qs) (pieces_at-word line i run h e f r)
    ∙ after-ok_or names mode (with_word names word letter) (i + 1) run ps (is_admitted names mode word)
    ∙ ap (λ k. after names mode (i + 1) run ps (ok_or (taken names mode letter (take k (rest_of line i))) (UnknownName (i + 1)))) (sym m)

-- a run of more than 64 bytes is refused behind its word
pub after-long : (names : List (List ℕ)) (mode : Mode) (letter at run : ℕ) (ps : List Piece) → longest_word < run → after names mode at run ps (Ok letter) ≡ Err (BadByte (at + longest_word))
after-long names mode letter at run ps h = rw (lt-ltb longest_word run h)

-- behind another run the reading goes on
pub after-short : (names : List (List ℕ)) (mode : Mode) (letter at run : ℕ) (ps : List Piece) → run ≤ longest_word → after names mode at run ps (Ok letter) ≡ outcome names mode letter ps
after-short names mode letter at run ps h = rw (le-ltb longest_word run h)

-- at the end of the line the letter stands
pub outcome-end : (names : List (List ℕ)) (mode : Mode) (letter : ℕ) (line : List ℕ) (i : ℕ) → length line ≤ i → outcome names mode letter (pieces_at line i) ≡ Ok letter
outcome-end names mode letter line i h = ap (λ ps. outcome names mode letter ps) (pieces_at-end line i h)
