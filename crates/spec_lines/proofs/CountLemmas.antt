-- The lines that count, one after the other.
use Rattle.std.proofs.Common.{◌≡◌, ℕ, ◌+◌, List, [], ◌∷◌, ◌++◌, map, cond, true, false, sym, ap, ◌∙◌, append_assoc}
use Rattle.std.proofs.lemmas.List.{map-append}
use Rattle.spec_lines.specs.declared.text_line.Line.{Line}
use Rattle.spec_lines.specs.Lines.{TextLine, shown, text_line, is_passed_over, counted_from}

-- one more line that counts
pub counted-kept : (front : List Line) (line : Line) (number : ℕ) (l : List ℕ) (ls : List (List ℕ)) (all : List TextLine) → is_passed_over l ≡ false → shown line ≡ text_line number l → map shown front ++ counted_from number (l ∷ ls) ≡ all → map shown (front ++ line ∷ []) ++ counted_from (number + 1) ls ≡ all
counted-kept front line number l ls all counts is before =
    ap (λ xs. xs ++ counted_from (number + 1) ls) (map-append shown front (line ∷ []))
    ∙ append_assoc (map shown front) (shown line ∷ []) (counted_from (number + 1) ls)
    ∙ ap (λ x. map shown front ++ x ∷ counted_from (number + 1) ls) is
    ∙ ap (λ b. map shown front ++ cond b (counted_from (number + 1) ls) (text_line number l ∷ counted_from (number + 1) ls)) (sym counts)
    ∙ before

-- one more line that is passed over
pub counted-passed : (front : List TextLine) (number : ℕ) (l : List ℕ) (ls : List (List ℕ)) (all : List TextLine) → is_passed_over l ≡ true → front ++ counted_from number (l ∷ ls) ≡ all → front ++ counted_from (number + 1) ls ≡ all
counted-passed front number l ls all passed before =
    ap (λ b. front ++ cond b (counted_from (number + 1) ls) (text_line number l ∷ counted_from (number + 1) ls)) (sym passed)
    ∙ before
