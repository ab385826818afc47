-- The lines that `bstr` gives are those of `str::lines`.
use Rattle.std.proofs.Common.{◌≡◌, ℕ, zero, suc, ◌+◌, ◌-◌, ◌<◌, ◌≤◌, List, [], ◌∷◌, length, take, drop, map, Bool, true, false, cond, ◌&&◌, nat_lt, nat_eq, arith, refl, sym, ap, ◌∙◌, length-drop, length-take-le, inl, inr, get_or-take}
use Rattle.std.specs.Prelude.{◌==◌, slice_index}
use Rattle.std.specs.List.{slice_split, position_or_len, before_first, after_first}
use Rattle.std.specs.Str.Lines.{lines, lines_of_parts, strip_carriage_return}
use Rattle.std.proofs.lemmas.Bool.{cases_lt, eq-eqb, eqb-true, lt-ltb}
use Rattle.std.proofs.lemmas.Bool.Decides.{nat_tests}
use Rattle.std.proofs.lemmas.List.{take-take}
use Rattle.std.proofs.lemmas.List.Sums.{fails_before_first, passes_at_first}
use Rattle.std.proofs.lemmas.List.Splits.{slice_split_first, slice_split_none, length-slice_split}
use Rattle.bstr.specs.Text.{lines_of, line_len, no_cr, without_terminator}
use Rattle.bstr.proofs.lemmas.LineLemmas.{lines-step, lines-nil, lines-one, line_len-at}

-- the test of an LF
abbrev is_lf : ℕ → Bool
is_lf b = b == 10

-- a part, and then the lines of the parts behind it
parts-cons : (x : List ℕ) (parts : List (List ℕ)) → 0 < length parts → lines_of_parts (x ∷ parts) ≡ strip_carriage_return x ∷ lines_of_parts parts
parts-cons x [] some = absurd (omega arith)
parts-cons x (y ∷ more) some = refl

-- both words for a line without its CR
no_cr-same : (xs : List ℕ) → no_cr xs ≡ strip_carriage_return xs
no_cr-same [] = refl
no_cr-same (x ∷ xs) = let e : nat_lt 0 (length (x ∷ xs)) ≡ true = grind (arith, nat_tests) in rw e refl

-- a line with its LF, which is dropped
terminator-lf : (line : List ℕ) (n : ℕ) → length line ≡ n + 1 → slice_index line n ≡ 10 → without_terminator line ≡ no_cr (take n line)
terminator-lf line n size at =
    let some : nat_lt 0 (length line) ≡ true = lt-ltb 0 (length line) (omega arith) in
    let last : length line - 1 ≡ n = omega arith in
    let feed : nat_eq (slice_index line n) 10 ≡ true = eq-eqb _ _ at in
    rw (some, last, feed) refl

-- a line without an LF stays
terminator-none : (line : List ℕ) (b : Bool) → nat_eq (slice_index line (length line - 1)) 10 ≡ false → cond (b && nat_eq (slice_index line (length line - 1)) 10) (no_cr (take (length line - 1) line)) line ≡ line
terminator-none line true e = rw e refl
terminator-none line false e = refl

-- bytes with an LF: the line before it, and then the lines behind it
with_lf : (bytes : List ℕ) → position_or_len is_lf bytes < length bytes → map without_terminator (lines_of (after_first is_lf bytes)) ≡ lines (after_first is_lf bytes) → map without_terminator (lines_of bytes) ≡ lines bytes
with_lf bytes h later =
    let n = position_or_len is_lf bytes in
    let at : slice_index bytes n ≡ 10 = eqb-true _ _ (passes_at_first is_lf bytes 0 h) in
    let size : line_len bytes ≡ n + 1 = line_len-at bytes n h at (λ k below e. let f = fails_before_first is_lf bytes k 0 below in let g = eq-eqb _ _ e in cc) in
    let first : without_terminator (take (n + 1) bytes) ≡ strip_carriage_return (take n bytes) =
    terminator-lf (take (n + 1) bytes) n (length-take-le (n + 1) bytes (omega arith)) (get_or-take (n + 1) bytes n 0 (omega arith) ∙ at)
    ∙ ap no_cr (take-take n (n + 1) bytes (omega arith)) ∙ no_cr-same (take n bytes) in
    let parts : 0 < length (slice_split is_lf (after_first is_lf bytes)) = omega (arith, length-slice_split is_lf (after_first is_lf bytes)) in
    ap (map without_terminator) (lines-step bytes (omega (arith, h)))
    ∙ ap (λ k. without_terminator (take k bytes) ∷ map without_terminator (lines_of (drop k bytes))) size
    ∙ ap (λ l. l ∷ map without_terminator (lines_of (after_first is_lf bytes))) first
    ∙ ap (λ ls. strip_carriage_return (take n bytes) ∷ ls) later
    ∙ sym (ap lines_of_parts (slice_split_first is_lf bytes 0 h)
    ∙ parts-cons (before_first is_lf bytes) (slice_split is_lf (after_first is_lf bytes)) parts)

-- bytes without an LF: one line
without_lf : (bytes : List ℕ) → length bytes ≤ position_or_len is_lf bytes → 0 < length bytes → map without_terminator (lines_of bytes) ≡ lines bytes
without_lf bytes h some =
    let other : (k : ℕ) → k < length bytes → nat_eq (slice_index bytes k) 10 ≡ false = λ k below. fails_before_first is_lf bytes k 0 (omega arith) in
    let nz : nat_eq (length bytes) 0 ≡ false = grind (arith, nat_tests) in
    ap (map without_terminator) (lines-one bytes some (λ k below e. let f = other k (omega arith) in let g = eq-eqb _ _ e in cc))
    ∙ ap (λ l. l ∷ []) (terminator-none bytes (nat_lt 0 (length bytes)) (other (length bytes - 1) (omega arith)))
    ∙ sym (ap lines_of_parts (slice_split_none is_lf bytes (λ k d below. fails_before_first is_lf bytes k d (omega arith))) ∙ ap (λ b. cond b [] (bytes ∷ [])) nz)

lines-within : (n : ℕ) (bytes : List ℕ) → length bytes ≤ n → map without_terminator (lines_of bytes) ≡ lines bytes
lines-within zero [] small = ap (map without_terminator) lines-nil
lines-within zero (b ∷ bytes) small = absurd (omega arith)
lines-within (suc n) [] small = ap (map without_terminator) lines-nil
lines-within (suc n) (b ∷ bytes) small =
    elim (cases_lt (position_or_len is_lf (b ∷ bytes)) (length (b ∷ bytes))) [
      | inl h ↦ with_lf (b ∷ bytes) h (lines-within n (after_first is_lf (b ∷ bytes)) (omega (arith, length-drop (position_or_len is_lf (b ∷ bytes) + 1) (b ∷ bytes))))
      | inr h ↦ without_lf (b ∷ bytes) h (omega arith)
    ]

-- the lines of `bstr` without their ends are those of `str::lines`
pub lines-bstr : (bytes : List ℕ) → map without_terminator (lines_of bytes) ≡ lines bytes
lines-bstr bytes = lines-within (length bytes) bytes (omega arith)
