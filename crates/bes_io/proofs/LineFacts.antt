-- Facts from outside that hold the definitions: the lines are those of Rust's `str::lines`, and when a count rose.
use Rattle.std.proofs.Common.{◌≡◌, ℕ, ◌+◌, ◌<◌, ◌≤◌, ◌-◌, ◌∷◌, List, [], length, arith, sym, refl, ◌∙◌, ap, cond, nat_lt, nat_eq, true, false, Bool}
use Rattle.std.proofs.lemmas.Bool.Decides.{nat_tests}
use Rattle.std.proofs.lemmas.List.{drop_all, nil_from_length}
use Rattle.std.proofs.lemmas.List.Sums.{fails_before_first}
use Rattle.std.proofs.lemmas.List.Splits.{slice_split_first, slice_split_none, length-slice_split}
use Rattle.std.specs.List.{before_first, after_first, slice_split}
use Rattle.std.specs.Str.Lines.{strip_carriage_return, lines_of_parts, lines}
use Rattle.bes_io.specs.Bytes.{is_lf, text_len}
use Rattle.bes_io.specs.Reader.{first_line, line_len}
use Rattle.bes_io.specs.Lines.{Stop, at_end, HasLines, ended, faulty, line}
use Rattle.bes_io.proofs.Finding.{end-empty, line-some}

-- a part, and then the lines of the parts after it
parts-cons : (x : List ℕ) (parts : List (List ℕ)) → 0 < length parts → lines_of_parts (x ∷ parts) ≡ strip_carriage_return x ∷ lines_of_parts parts
parts-cons x [] some = absurd (omega arith)
parts-cons x (y ∷ more) some = refl

-- bytes with an LF have the line before it, and then the lines after it
lines-lf : (bytes : List ℕ) → text_len bytes < length bytes → lines bytes ≡ strip_carriage_return (before_first is_lf bytes) ∷ lines (after_first is_lf bytes)
lines-lf bytes lf =
    ap lines_of_parts (slice_split_first is_lf bytes 0 lf)
    ∙ parts-cons (before_first is_lf bytes) (slice_split is_lf (after_first is_lf bytes)) (omega (arith, length-slice_split is_lf (after_first is_lf bytes)))

-- bytes without an LF are one line, if there are any
lines-last : (bytes : List ℕ) → length bytes ≤ text_len bytes → 0 < length bytes → lines bytes ≡ bytes ∷ []
lines-last bytes none some =
    let whole : slice_split is_lf bytes ≡ bytes ∷ [] = slice_split_none is_lf bytes (λ k d below. fails_before_first is_lf bytes k d (omega arith)) in
    let nz : nat_eq (length bytes) 0 ≡ false = grind (arith, nat_tests) in
    ap lines_of_parts whole ∙ ap (λ b. cond b [] (bytes ∷ [])) nz

-- the first line, and then the lines after it
lines-step : (bytes : List ℕ) → 0 < length bytes → lines bytes ≡ first_line bytes ∷ lines (after_first is_lf bytes)
lines-step bytes some = by (nat_lt (text_len bytes) (length bytes)) refl
  where
    by : (b : Bool) → nat_lt (text_len bytes) (length bytes) ≡ b → lines bytes ≡ cond b (strip_carriage_return (before_first is_lf bytes)) bytes ∷ lines (after_first is_lf bytes)
    by true e = lines-lf bytes (grind (arith, nat_tests))
    by false e =
        let none : length bytes ≤ text_len bytes = grind (arith, nat_tests) in
        lines-last bytes none some ∙ ap (λ xs. bytes ∷ lines xs) (sym (drop_all (text_len bytes + 1) bytes (omega arith)))

-- where lines end at the end of the bytes, they are those that `str::lines` gives
pub HasLines-lines : (most : ℕ) (bytes : List ℕ) (found : List (List ℕ)) (stop : Stop) → HasLines most bytes found stop → stop ≡ at_end → found ≡ lines bytes
HasLines-lines most bytes found stop (ended e) end = let nil : bytes ≡ [] = nil_from_length bytes (end-empty most bytes (sym e)) in sym (ap lines nil)
HasLines-lines most bytes found stop (faulty e) end = cc
HasLines-lines most bytes found stop (line {lines = later} e rest) end =
    ap (λ others. first_line bytes ∷ others) (HasLines-lines (most - line_len bytes) (after_first is_lf bytes) later stop rest end)
    ∙ sym (lines-step bytes (line-some most bytes (sym e)))
