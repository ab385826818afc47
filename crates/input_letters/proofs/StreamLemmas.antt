-- The line at the front of some bytes, whatever comes after it.
use Rattle.std.proofs.Common.{◌≡◌, ℕ, ◌+◌, ◌-◌, ◌<◌, ◌≤◌, ◌∷◌, inl, inr, List, [], ◌++◌, length, take, drop, get_or, arith, sym, refl, ◌∙◌, ap, subst, cond, nat_lt, nat_eq, min, true, false, Bool, Option, Ok, Err, length-append, append_assoc}
use Rattle.std.proofs.lemmas.Grind.{common_steps}
use Rattle.std.proofs.lemmas.Bool.{cases_lt}
use Rattle.std.proofs.lemmas.Bool.Decides.{nat_tests}
use Rattle.std.proofs.lemmas.List.{append-nil, drop_all, get_or-take}
use Rattle.std.proofs.lemmas.List.Sums.{split_at_first, passes_at_first, fails_before_first}
use Rattle.std.proofs.Math.Seq.{drop-append-add, take-append_seam}
use Rattle.std.specs.List.{before_first, after_first}
use Rattle.std.specs.Str.Lines.{strip_carriage_return}
use Rattle.bes_io.specs.Bytes.{is_lf, text_len}
use Rattle.bes_io.specs.Reader.{Reader, next_of, answer_of, line_len, first_line, allowed, Finds}
use Rattle.bes_io.specs.Lines.{Stop, at_end, at_fault, HasLines, ended, faulty, line}
use Rattle.bes_io.specs.declared.lines.Found.TheVariants.{Line, End}
use Rattle.bes_io.specs.declared.lines.LineFault.TheVariants.{ReadFault, LineTooLong, InputTooLong}
use Rattle.bes_io.specs.declared.lines.Phase.{Phase}
use Rattle.bes_io.specs.declared.lines.Phase.TheVariants.{Reading, Closed, StoppedAtLine, StoppedAtInput}
use Rattle.bes_io.proofs.Deciding.{text-append_more}
use Rattle.bes_io.proofs.Finding.{line-some}
use Rattle.bes_io.proofs.HeldFacts.{holds-none}
use Rattle.command_endings.specs.Streams.{IsOneLine}

lf-is : (x : ℕ) → is_lf x ≡ true → x ≡ 10
lf-is x e = grind (arith, nat_tests)

true-or-false : (b : Bool) → b ≡ true → b ≡ false → ⊥
true-or-false b e h = cc

-- before the first LF there is none
before-free : (bytes : List ℕ) → text_len bytes < length bytes → length (before_first is_lf bytes) ≤ text_len (before_first is_lf bytes)
before-free bytes lf =
    let text = before_first is_lf bytes in
    let size : length text ≡ text_len bytes = grind (arith, common_steps) in
    elim (cases_lt (text_len text) (length text)) [
      | inl h ↦
          let k = text_len text in
          let same : get_or text k 0 ≡ get_or bytes k 0 = get_or-take (text_len bytes) bytes k 0 (omega (arith, h, size)) in
          absurd (true-or-false (is_lf (get_or text k 0)) (passes_at_first is_lf text 0 h) (ap is_lf same ∙ fails_before_first is_lf bytes k 0 (omega (arith, h, size))))
      | inr h ↦ h
    ]

-- bytes with an LF are what stands before it, the LF, and what comes after it
before-lf : (bytes : List ℕ) → text_len bytes < length bytes → bytes ≡ before_first is_lf bytes ++ 10 ∷ after_first is_lf bytes
before-lf bytes lf =
    split_at_first is_lf bytes 0 lf
    ∙ ap (λ x. before_first is_lf bytes ++ x ∷ after_first is_lf bytes) (lf-is _ (passes_at_first is_lf bytes 0 lf))

-- what is found at the front of a text of t bytes and an LF, of n bytes or more
found-at : (most t T N : ℕ) → T ≡ t → t + 1 ≤ N
    → cond (nat_eq N 0) (Ok End) (cond (nat_lt most (min (min (T + 1) N) 4097)) (Err InputTooLong) (cond (nat_lt 4096 T) (Err LineTooLong) (Ok Line)))
    ≡ cond (nat_lt most (min (t + 1) 4097)) (Err InputTooLong) (cond (nat_lt 4096 t) (Err LineTooLong) (Ok Line))
found-at most t T N same more = grind (arith, nat_tests)

module _ (text more : List ℕ) (free : length text ≤ text_len text) where
  text_len-text : text_len (text ++ 10 ∷ more) ≡ length text
  text_len-text = text-append_more text (10 ∷ more) free ∙ omega arith

  longer : length (text ++ 10 ∷ more) ≡ length text + 1 + length more
  longer = length-append text (10 ∷ more) ∙ omega arith

  next_of-text : (most : ℕ) → next_of most (text ++ 10 ∷ more) ≡ cond (nat_lt most (min (length text + 1) 4097)) (Err InputTooLong) (cond (nat_lt 4096 (length text)) (Err LineTooLong) (Ok Line))
  next_of-text most = found-at most (length text) (text_len (text ++ 10 ∷ more)) (length (text ++ 10 ∷ more)) text_len-text (omega (arith, longer))

  line_len-text : line_len (text ++ 10 ∷ more) ≡ length text + 1
  line_len-text = omega (arith, text_len-text, longer)

  after_first-text : after_first is_lf (text ++ 10 ∷ more) ≡ more
  after_first-text = ap (λ n. drop (n + 1) (text ++ 10 ∷ more)) text_len-text ∙ drop-append-add text (10 ∷ more) 1

  first_line-text : first_line (text ++ 10 ∷ more) ≡ strip_carriage_return text
  first_line-text =
      let lt : nat_lt (text_len (text ++ 10 ∷ more)) (length (text ++ 10 ∷ more)) ≡ true = grind (arith, nat_tests, text_len-text, longer) in
      ap (λ b. cond b (strip_carriage_return (before_first is_lf (text ++ 10 ∷ more))) (text ++ 10 ∷ more)) lt
      ∙ ap strip_carriage_return (ap (λ n. take n (text ++ 10 ∷ more)) text_len-text ∙ take-append_seam text (10 ∷ more))

  -- a line in front of lines
  pub line-before : (most : ℕ) (lines : List (List ℕ)) (stop : Stop) → next_of most (text ++ 10 ∷ more) ≡ Ok Line → HasLines (most - (length text + 1)) more lines stop
      → HasLines most (text ++ 10 ∷ more) (strip_carriage_return text ∷ lines) stop
  line-before most lines stop found has =
      subst (λ l. HasLines most (text ++ 10 ∷ more) (l ∷ lines) stop) first_line-text
      (line found (subst (λ n. HasLines (most - n) (after_first is_lf (text ++ 10 ∷ more)) lines stop) (sym line_len-text)
      (subst (λ bs. HasLines (most - (length text + 1)) bs lines stop) (sym after_first-text) has)))

-- a line is found at a text and an LF, whatever comes after it
found-too : (text more other : List ℕ) → length text ≤ text_len text → (most : ℕ) → next_of most (text ++ 10 ∷ other) ≡ Ok Line → next_of most (text ++ 10 ∷ more) ≡ Ok Line
found-too text more other free most e = next_of-text text more free most ∙ sym (next_of-text text other free most) ∙ e

-- The bytes of the line that a call found, whatever comes after them.
pub record LineTaken (old new : Reader) (bytes : List ℕ) : Type 0 where
  pub needed : List ℕ
  pub split : bytes ≡ needed ++ after_first is_lf bytes
  pub one : IsOneLine needed (after_first is_lf bytes)
  pub whole : new.phase ≡ Reading → (front : List ℕ) × (needed ≡ front ++ 10 ∷ [])
  pub alone : HasLines (allowed old) needed (first_line bytes ∷ []) at_end
  pub cut : new.phase ≡ Reading → (more : List ℕ) (lines : List (List ℕ)) (stop : Stop) → HasLines (allowed new) more lines stop
      → HasLines (allowed old) (needed ++ more) (first_line bytes ∷ lines) stop

-- a reader that finds a line has not stopped
pub going : (p : Phase) (most : ℕ) (bytes : List ℕ) → Ok Line ≡ answer_of p most bytes → p ≡ Reading
going Reading most bytes e = refl
going Closed most bytes e = cc
going StoppedAtLine most bytes e = cc
going StoppedAtInput most bytes e = cc

answer-reading : (p : Phase) (most : ℕ) (bytes : List ℕ) → Ok Line ≡ answer_of p most bytes → next_of most bytes ≡ Ok Line
answer-reading Reading most bytes e = sym e
answer-reading Closed most bytes e = cc
answer-reading StoppedAtLine most bytes e = cc
answer-reading StoppedAtInput most bytes e = cc

module _ (old new : Reader) (bytes : List ℕ) (left : Option (List ℕ)) (taken : Finds old bytes (Ok Line) new left) where
  fewer : allowed new ≡ allowed old - line_len bytes
  fewer = let t = taken.1 in omega (arith, t.most, t.before)

  found-here : next_of (allowed old) bytes ≡ Ok Line
  found-here = answer-reading old.phase (allowed old) bytes taken.0

  -- the line ends with an LF
  taken-lf : text_len bytes < length bytes → LineTaken old new bytes
  taken-lf lf =
      let text = before_first is_lf bytes in
      let after = after_first is_lf bytes in
      let free : length text ≤ text_len text = before-free bytes lf in
      let split : bytes ≡ text ++ 10 ∷ after = before-lf bytes lf in
      let found : next_of (allowed old) (text ++ 10 ∷ after) ≡ Ok Line = subst (λ bs. next_of (allowed old) bs ≡ Ok Line) split found-here in
      let size : line_len bytes ≡ length text + 1 = ap line_len split ∙ line_len-text text after free in
      let first : strip_carriage_return text ≡ first_line bytes = sym (ap first_line split ∙ first_line-text text after free) in
      let cut : (more : List ℕ) (lines : List (List ℕ)) (stop : Stop) → HasLines (allowed old - (length text + 1)) more lines stop
      → HasLines (allowed old) ((text ++ 10 ∷ []) ++ more) (first_line bytes ∷ lines) stop = λ more lines stop has.
      subst (λ bs. HasLines (allowed old) bs (first_line bytes ∷ lines) stop) (sym (append_assoc text (10 ∷ []) more))
      (subst (λ l. HasLines (allowed old) (text ++ 10 ∷ more) (l ∷ lines) stop) first
      (line-before text more free (allowed old) lines stop (found-too text more after free (allowed old) found) has)) in
      record {
        needed = text ++ 10 ∷ [];
        split = split ∙ sym (append_assoc text (10 ∷ []) after);
        one = inl (text, refl, holds-none text free);
        whole = λ going. (text, refl);
        alone = subst (λ bs. HasLines (allowed old) bs (first_line bytes ∷ []) at_end) (append-nil (text ++ 10 ∷ [])) (cut [] [] at_end (ended refl));
        cut = λ going more lines stop has. cut more lines stop (subst (λ n. HasLines n more lines stop) (fewer ∙ ap (λ n. allowed old - n) size) has);
      }

  -- the line ends with the input
  taken-last : length bytes ≤ text_len bytes → LineTaken old new bytes
  taken-last none =
      let nil : after_first is_lf bytes ≡ [] = drop_all (text_len bytes + 1) bytes (omega (arith, none)) in
      let lt : nat_lt (text_len bytes) (length bytes) ≡ false = grind (arith, nat_tests) in
      let closed : new.phase ≡ Closed = let t = taken.1 in t.phase ∙ ap (λ b. cond b Reading Closed) lt in
      record {
        needed = bytes;
        split = sym (append-nil bytes) ∙ ap (λ bs. bytes ++ bs) (sym nil);
        one = inr (λ e. absurd (omega (arith, line-some (allowed old) bytes (sym found-here), ap length e)), holds-none bytes none, nil);
        whole = λ going. cc;
        alone = line found-here (ended (ap (next_of (allowed old - line_len bytes)) nil));
        cut = λ going. cc;
      }

  -- a line that was found ends with an LF or with the input
  pub line-taken : LineTaken old new bytes
  line-taken = elim (cases_lt (text_len bytes) (length bytes)) [ inl h ↦ taken-lf h | inr h ↦ taken-last h ]

-- no bytes are answered a fault of reading
no-fault : (most : ℕ) (bytes : List ℕ) → next_of most bytes ≡ Err ReadFault → ⊥
no-fault most bytes e = grind (arith, nat_tests)

-- lines don't stop at a fault of reading
pub not-at_fault : (most : ℕ) (bytes : List ℕ) (lines : List (List ℕ)) (stop : Stop) → HasLines most bytes lines stop → stop ≡ at_fault ReadFault → ⊥
not-at_fault most bytes lines stop (ended e) is = cc
not-at_fault most bytes lines stop (faulty {fault = fault} e) is = let same : fault ≡ ReadFault = cc in no-fault most bytes (e ∙ ap Err same)
not-at_fault most bytes lines stop (line e has) is = not-at_fault _ _ _ stop has is
