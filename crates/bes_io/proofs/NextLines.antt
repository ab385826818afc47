-- From the answer of one call to the lines of all bytes still to come.
use Rattle.std.proofs.Common.{◌≡◌, ℕ, ◌-◌, ◌≤◌, ◌∷◌, ◌⊎◌, inl, inr, List, [], length, arith, sym, refl, ◌∙◌, subst, cond, nat_lt, true, false, Bool, Option, Result, Ok, Err}
use Rattle.std.proofs.lemmas.Grind.{common_steps}
use Rattle.std.proofs.lemmas.Bool.Decides.{nat_tests}
use Rattle.std.specs.List.{after_first}
use Rattle.bes_io.specs.Bytes.{is_lf, text_len}
use Rattle.bes_io.specs.Reader.{Reader, next_of, line_len, first_line, allowed, Finds, answer_of}
use Rattle.bes_io.specs.Lines.{Stop, at_end, at_fault, HasLines, ended, faulty, line, RemainsAt, NextLine}
use Rattle.bes_io.specs.declared.lines.Found.{Found}
use Rattle.bes_io.specs.declared.lines.Found.TheVariants.{Line, End}
use Rattle.bes_io.specs.declared.lines.LineFault.{LineFault}
use Rattle.bes_io.specs.declared.lines.LineFault.TheVariants.{ReadFault, LineTooLong, InputTooLong}
use Rattle.bes_io.specs.declared.lines.Phase.{Phase}
use Rattle.bes_io.specs.declared.lines.Phase.TheVariants.{Reading, Closed, StoppedAtLine, StoppedAtInput}

-- no bytes give the end
empty-end : (most : ℕ) (bytes : List ℕ) → length bytes ≡ 0 → next_of most bytes ≡ Ok End
empty-end most bytes z = grind (arith, nat_tests)

-- a reader is closed by a line only where nothing comes after it
none-after : (b : Bool) (bytes : List ℕ) → nat_lt (text_len bytes) (length bytes) ≡ b → Closed ≡ cond b Reading Closed → length (after_first is_lf bytes) ≡ 0
none-after true bytes is e = cc
none-after false bytes is e =
    let more : length bytes ≤ text_len bytes = grind (arith, nat_tests) in
    grind (arith, common_steps)

-- a line stops no reader as too long
not-stopped : (b : Bool) → StoppedAtLine ≡ cond b Reading Closed → ⊥
not-stopped true e = cc
not-stopped false e = cc

-- a line stops no reader as too much input
not-stopped_input : (b : Bool) → StoppedAtInput ≡ cond b Reading Closed → ⊥
not-stopped_input true e = cc
not-stopped_input false e = cc

-- the line that a call found comes before the lines that remain
step : (p q : Phase) (most : ℕ) (bytes : List ℕ) (lines : List (List ℕ)) (stop : Stop) → Ok Line ≡ answer_of p most bytes → q ≡ cond (nat_lt (text_len bytes) (length bytes)) Reading Closed
    → RemainsAt q (most - line_len bytes) (after_first is_lf bytes) lines stop → RemainsAt p most bytes (first_line bytes ∷ lines) stop
step Reading Reading most bytes lines stop a e r = line (sym a) r
step Reading Closed most bytes lines stop a e (nil, is) =
    let none = none-after (nat_lt (text_len bytes) (length bytes)) bytes refl e in
    subst (λ l. HasLines most bytes (first_line bytes ∷ l) stop) (sym nil)
    (subst (λ s. HasLines most bytes (first_line bytes ∷ []) s) (sym is) (line (sym a) (ended (empty-end _ _ none))))
step Reading StoppedAtLine most bytes lines stop a e r = absurd (not-stopped _ e)
step Reading StoppedAtInput most bytes lines stop a e r = absurd (not-stopped_input _ e)
step Closed q most bytes lines stop a e r = cc
step StoppedAtLine q most bytes lines stop a e r = cc
step StoppedAtInput q most bytes lines stop a e r = cc

-- at the end no lines remain
at-end : (p : Phase) (most : ℕ) (bytes : List ℕ) → Ok End ≡ answer_of p most bytes → RemainsAt p most bytes [] at_end
at-end Reading most bytes a = ended (sym a)
at-end Closed most bytes a = (refl, refl)
at-end StoppedAtLine most bytes a = cc
at-end StoppedAtInput most bytes a = cc

-- the end comes only to a closed reader or where no bytes are left
nothing-there : (p : Phase) (most : ℕ) (bytes : List ℕ) → Ok End ≡ answer_of p most bytes → p ≡ Closed ⊎ (bytes ≡ [])
nothing-there Reading most bytes a = let z : length bytes ≡ 0 = grind (arith, nat_tests) in inr (grind (arith, common_steps))
nothing-there Closed most bytes a = inl refl
nothing-there StoppedAtLine most bytes a = cc
nothing-there StoppedAtInput most bytes a = cc

-- a line too long ends the lines
at-long : (p : Phase) (most : ℕ) (bytes : List ℕ) → Err LineTooLong ≡ answer_of p most bytes → RemainsAt p most bytes [] (at_fault LineTooLong)
at-long Reading most bytes a = faulty (sym a)
at-long Closed most bytes a = cc
at-long StoppedAtLine most bytes a = (refl, refl)
at-long StoppedAtInput most bytes a = cc

-- too much input ends the lines
at-input : (p : Phase) (most : ℕ) (bytes : List ℕ) → Err InputTooLong ≡ answer_of p most bytes → RemainsAt p most bytes [] (at_fault InputTooLong)
at-input Reading most bytes a = faulty (sym a)
at-input Closed most bytes a = cc
at-input StoppedAtLine most bytes a = cc
at-input StoppedAtInput most bytes a = (refl, refl)

-- nothing remains after the line that closes a reader
closed-rest : (q : Phase) (bytes : List ℕ) → q ≡ cond (nat_lt (text_len bytes) (length bytes)) Reading Closed → q ≡ Closed → after_first is_lf bytes ≡ []
closed-rest q bytes e is =
    let z : length (after_first is_lf bytes) ≡ 0 = none-after (nat_lt (text_len bytes) (length bytes)) bytes refl (sym is ∙ e) in
    grind (arith, common_steps)

-- what a call finds says the first of the lines that remained
pub next-line : (old new : Reader) (bytes : List ℕ) (r : Result Found LineFault) (left : Option (List ℕ)) → Finds old bytes r new left → NextLine old bytes r new left
next-line old new bytes (Ok Line) left (a, t) = record {
  later = after_first is_lf bytes;
  text = first_line bytes;
  rest = t.rest;
  line = t.line;
  others = λ lines stop r.
      let fewer : new.most - new.before ≡ (old.most - old.before) - line_len bytes = grind (arith, t.most, t.before) in
      step old.phase new.phase (allowed old) bytes lines stop a t.phase (subst (λ m. RemainsAt new.phase m (after_first is_lf bytes) lines stop) fewer r);
  last = closed-rest new.phase bytes t.phase;
}
next-line old new bytes (Ok End) left (a, t) = (at-end old.phase (allowed old) bytes a, t.rest, nothing-there old.phase (allowed old) bytes a)
next-line old new bytes (Err ReadFault) left (a, t) = (
  t.rest,
  λ lines stop r.
      let same : allowed new ≡ allowed old = grind (arith, t.most, t.before) in
      subst (λ p. RemainsAt p (allowed old) bytes lines stop) (t.phase ∙ sym a) (subst (λ m. RemainsAt new.phase m bytes lines stop) same r),
)
next-line old new bytes (Err LineTooLong) left (a, t) = (at-long old.phase (allowed old) bytes a, t.rest)
next-line old new bytes (Err InputTooLong) left (a, t) = (at-input old.phase (allowed old) bytes a, t.rest)
