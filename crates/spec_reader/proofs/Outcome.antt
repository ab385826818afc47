-- Reading pieces one after the other, with the letter so far.
use Rattle.std.proofs.Common.{◌≡◌, ℕ, ◌^◌, ◌<◌, ◌||◌, inl, inr, Bool, true, false, cond, List, [], ◌∷◌, length, Some, None, Result, Ok, Err, IfOk, IfErr, refl, ap, ◌∙◌, arith}
use Rattle.std.specs.Prelude.{◌==◌}
use Rattle.std.proofs.lemmas.Bool.{ltb-true, ltb-false, ne_eqb, cases_Bool}
use Rattle.std.proofs.lemmas.Nat.{pow_pos}
use Rattle.bes_io.specs.Letter.{has}
use Rattle.form_tokens.specs.Names.{number_of}
use Rattle.spec_reader.specs.declared.events.Mode.{Mode}
use Rattle.spec_reader.specs.declared.events.EventFault.{EventFault}
use Rattle.spec_reader.specs.declared.events.EventFault.TheVariants.{BadByte, UnknownName}
use Rattle.spec_reader.specs.Event.{Piece, Word, Stray, pieces, is_known, is_admitted, first_refused, event_fault, is_on, IsEventOf}
use Rattle.spec_reader.specs.Word.{with_word}
use Rattle.spec_reader.proofs.LetterLemmas.{has-zero, has-with, with-below}
use Rattle.spec_reader.proofs.EventLemmas.{one_letter}
use Rattle.std.proofs.Math.Bool.{or-false}

-- what reading the pieces gives: the letter, or the first fault
abbrev pub outcome : List (List ℕ) → Mode → ℕ → List Piece → Result ℕ EventFault
outcome names mode letter [] = Ok letter
outcome names mode letter (Stray at ∷ ps) = Err (BadByte at)
outcome names mode letter (Word at word ∷ ps) =
    cond (is_admitted names mode word) (outcome names mode (with_word names word letter) ps) (Err (UnknownName at))

-- a word adds its own proposition and no other
has-with_word : (names : List (List ℕ)) (word : List ℕ) (letter i : ℕ) → i < length names → has (length names) i (with_word names word letter) ≡ (number_of names word == i || has (length names) i letter)
has-with_word names word letter i h =
    elim (cases_Bool (is_known names word)) [
      | inl known ↦ rw known (has-with (length names) (number_of names word) i letter (ltb-true _ _ known) h)
      | inr unknown ↦
          let far : number_of names word ≡ i → ⊥ = λ e. omega (arith, ltb-false _ _ unknown) in
          rw (unknown, ne_eqb (number_of names word) i far)
    ]

-- the letter stays below the power of its propositions
with_word-below : (names : List (List ℕ)) (word : List ℕ) (letter : ℕ) → letter < 2 ^ length names → with_word names word letter < 2 ^ length names
with_word-below names word letter h =
    elim (cases_Bool (is_known names word)) [
      | inl known ↦ rw known (with-below (length names) (number_of names word) letter (ltb-true _ _ known) h)
      | inr unknown ↦ rw unknown h
    ]

-- a fault is that of the first piece that is refused
outcome-Err : (names : List (List ℕ)) (mode : Mode) (letter : ℕ) (ps : List Piece) (fault : EventFault) → outcome names mode letter ps ≡ Err fault → first_refused names mode ps ≡ Some fault
outcome-Err names mode letter [] fault e = cc
outcome-Err names mode letter (Stray at ∷ ps) fault e = cc
outcome-Err names mode letter (Word at word ∷ ps) fault e =
    elim (cases_Bool (is_admitted names mode word)) [
      | inl admitted ↦ rw admitted (outcome-Err names mode (with_word names word letter) ps fault (rw admitted at e))
      | inr refused ↦ rw refused (let f = rw refused at e in cc)
    ]

-- with a letter, no piece is refused
outcome-Ok : (names : List (List ℕ)) (mode : Mode) (letter : ℕ) (ps : List Piece) (end : ℕ) → outcome names mode letter ps ≡ Ok end → first_refused names mode ps ≡ None
outcome-Ok names mode letter [] end e = refl
outcome-Ok names mode letter (Stray at ∷ ps) end e = cc
outcome-Ok names mode letter (Word at word ∷ ps) end e =
    elim (cases_Bool (is_admitted names mode word)) [
      | inl admitted ↦ rw admitted (outcome-Ok names mode (with_word names word letter) ps end (rw admitted at e))
      | inr refused ↦ let f = rw refused at e in cc
    ]

outcome-below : (names : List (List ℕ)) (mode : Mode) (letter : ℕ) (ps : List Piece) (end : ℕ) → letter < 2 ^ length names → outcome names mode letter ps ≡ Ok end → end < 2 ^ length names
outcome-below names mode letter [] end h e = let same : letter ≡ end = cc in omega arith
outcome-below names mode letter (Stray at ∷ ps) end h e = absurd cc
outcome-below names mode letter (Word at word ∷ ps) end h e =
    elim (cases_Bool (is_admitted names mode word)) [
      | inl admitted ↦ outcome-below names mode (with_word names word letter) ps end (with_word-below names word letter h) (rw admitted at e)
      | inr refused ↦ absurd (let f = rw refused at e in cc)
    ]

or_turned : (a b c : Bool) → (b || (a || c)) ≡ ((a || b) || c)
or_turned true true c = refl
or_turned true false c = refl
or_turned false true c = refl
or_turned false false c = refl

-- the propositions of the letter are those on the pieces, and those before
outcome-has : (names : List (List ℕ)) (mode : Mode) (letter : ℕ) (ps : List Piece) (end i : ℕ) → i < length names → outcome names mode letter ps ≡ Ok end → has (length names) i end ≡ (is_on names i ps || has (length names) i letter)
outcome-has names mode letter [] end i h e = let same : end ≡ letter = cc in rw same
outcome-has names mode letter (Stray at ∷ ps) end i h e = absurd cc
outcome-has names mode letter (Word at word ∷ ps) end i h e =
    elim (cases_Bool (is_admitted names mode word)) [
      | inl admitted ↦
          outcome-has names mode (with_word names word letter) ps end i h (rw admitted at e)
          ∙ ap (λ b. is_on names i ps || b) (has-with_word names word letter i h)
          ∙ or_turned (number_of names word == i) (is_on names i ps) (has (length names) i letter)
      | inr refused ↦ absurd (let f = rw refused at e in cc)
    ]

IsEventOf-outcome : (names : List (List ℕ)) (mode : Mode) (line : List ℕ) (letter : ℕ) → outcome names mode 0 (pieces line) ≡ Ok letter → IsEventOf names mode line letter
IsEventOf-outcome names mode line letter e = record {
  admitted = outcome-Ok names mode 0 (pieces line) letter e;
  below = outcome-below names mode 0 (pieces line) letter (pow_pos (length names)) e;
  bits = λ i h.
      outcome-has names mode 0 (pieces line) letter i h e
      ∙ ap (λ b. is_on names i (pieces line) || b) (has-zero (length names) i)
      ∙ or-false (is_on names i (pieces line));
}

-- what a result says of a line
pub record Answer (names : List (List ℕ)) (mode : Mode) (line : List ℕ) (result : Result ℕ EventFault) : Type 0 where
  pub letter : IfOk result (λ letter. IsEventOf names mode line letter)
  pub place : IfErr result (λ fault. event_fault names mode line ≡ Some fault)
  pub only : (letter : ℕ) → IsEventOf names mode line letter → result ≡ Ok letter

-- the outcome of a line is its letter or its first fault, and the only one
pub Answer-outcome : (names : List (List ℕ)) (mode : Mode) (line : List ℕ) (result : Result ℕ EventFault) → outcome names mode 0 (pieces line) ≡ result → Answer names mode line result
Answer-outcome names mode line (Ok end) e =
    let event = IsEventOf-outcome names mode line end e in
    record {
      letter = event;
      place = tt;
      only = λ letter h. ap (λ x. Ok x) (one_letter names mode line end letter event h);
    }
Answer-outcome names mode line (Err fault) e =
    let refused = outcome-Err names mode 0 (pieces line) fault e in
    record {
      letter = tt;
      place = refused;
      only = λ letter h. (let none = h.admitted in cc);
    }
