-- Formulas one after the other, and their faults.
use Rattle.std.proofs.Common.{◌≡◌, List, [], ◌∷◌, ◌++◌, map, Option, Some, refl, sym, ap, ◌∙◌, ℕ, ◌+◌, ◌<◌, length, get_or, drop, drop-cons, add-one, cond, true, false, append_assoc, take}
use Rattle.std.proofs.lemmas.List.{map-append, take_more}
use Rattle.std.specs.Str.{bytes_eq}
use Rattle.forms.specs.Tree.{Formula, And}
use Rattle.spec_lines.specs.declared.text_line.Line.{Line}
use Rattle.spec_lines.specs.declared.keywords.Keyword.{Keyword}
use Rattle.spec_lines.specs.Lines.{TextLine, shown}
use Rattle.spec_lines.specs.Keywords.{word_of, is_of, lines_with}
use Rattle.form_tokens.specs.declared.dialect.Dialect.{Dialect}
use Rattle.form_tokens.specs.Names.{Table}
use Rattle.form_reader.specs.Reading.{IsFormulaOf}
use Rattle.spec_reader.specs.Specification.{IsConjunctionOf}
use Rattle.spec_reader.specs.Formulas.{AreFormulasOf, conjunction_of, and_of}

-- the conjunction of the texts' formulas is that of the texts
pub IsConjunctionOf-formulas : (d : Dialect) (names : Table) (texts : List (List ℕ)) (fs : List Formula) (whole : Option Formula) → AreFormulasOf d names texts fs → whole ≡ conjunction_of fs → IsConjunctionOf d names texts whole
IsConjunctionOf-formulas d names [] [] whole h e = e
IsConjunctionOf-formulas d names [] (f ∷ fs) whole h e = absurd h
IsConjunctionOf-formulas d names (text ∷ texts) [] whole h e = absurd h
IsConjunctionOf-formulas d names (text ∷ []) (f ∷ []) whole h e = (f, e, h.0)
IsConjunctionOf-formulas d names (text ∷ []) (f ∷ g ∷ fs) whole h e = absurd h.1
IsConjunctionOf-formulas d names (text ∷ next ∷ texts) (f ∷ []) whole h e = absurd h.1
IsConjunctionOf-formulas d names (text ∷ next ∷ texts) (f ∷ g ∷ fs) whole h e =
    (f, and_of g (conjunction_of fs), e, h.0, IsConjunctionOf-formulas d names (next ∷ texts) (g ∷ fs) (Some (and_of g (conjunction_of fs))) h.1 refl)

-- the conjunction of formulas and one behind them
abbrev pub conjunction_onto : List Formula → Formula → Formula
conjunction_onto [] g = g
conjunction_onto (f ∷ fs) g = And f (conjunction_onto fs g)

-- the last of the formulas goes first onto what is behind
pub conjunction_onto-push : (fs : List Formula) (f g : Formula) → conjunction_onto (fs ++ f ∷ []) g ≡ conjunction_onto fs (And f g)
conjunction_onto-push [] f g = refl
conjunction_onto-push (x ∷ fs) f g = ap (λ k. And x k) (conjunction_onto-push fs f g)

-- the conjunction of formulas, the last of which is behind the others
pub conjunction_of-push : (fs : List Formula) (f : Formula) → conjunction_of (fs ++ f ∷ []) ≡ Some (conjunction_onto fs f)
conjunction_of-push [] f = refl
conjunction_of-push (x ∷ fs) f = ap (λ o. Some (and_of x o)) (conjunction_of-push fs f)

-- the first of the lines left
map-drop : (lines : List Line) (i : ℕ) (d : Line) → i < length lines → map shown (drop i lines) ≡ shown (get_or lines i d) ∷ map shown (drop (i + 1) lines)
map-drop lines i d h = ap (map shown) (drop-cons lines i d h) ∙ ap (λ k. shown (get_or lines i d) ∷ map shown (drop k lines)) (sym (add-one i))

-- the line at an index, and those behind it
pub rest-at : (lines : List Line) (i : ℕ) (line : Line) → i < length lines → line ≡ get_or lines i line → map shown (drop i lines) ≡ shown line ∷ map shown (drop (i + 1) lines)
rest-at lines i line h is = map-drop lines i line h ∙ ap (λ x. shown x ∷ map shown (drop (i + 1) lines)) (sym is)

-- the lines before the next index
pub front-at : (lines : List Line) (i : ℕ) (line : Line) → i < length lines → line ≡ get_or lines i line → map shown (take (i + 1) lines) ≡ map shown (take i lines) ++ shown line ∷ []
front-at lines i line h is =
    ap (map shown) (take_more lines i line h)
    ∙ map-append shown (take i lines) (get_or lines i line ∷ [])
    ∙ ap (λ x. map shown (take i lines) ++ shown x ∷ []) (sym is)

lines-at : (k : Keyword) (lines : List Line) (i : ℕ) (line : Line) → i < length lines → line ≡ get_or lines i line → lines_with k (map shown (drop i lines)) ≡ cond (is_of k (shown line)) (shown line ∷ lines_with k (map shown (drop (i + 1) lines))) (lines_with k (map shown (drop (i + 1) lines)))
lines-at k lines i line h is = ap (lines_with k) (rest-at lines i line h is)

-- a line with another key is passed over
pub lines-other : (k : Keyword) (lines : List Line) (i : ℕ) (line : Line) (word : List ℕ) → i < length lines → line ≡ get_or lines i line → word ≡ word_of k → bytes_eq line.key.now word ≡ false → lines_with k (map shown (drop i lines)) ≡ lines_with k (map shown (drop (i + 1) lines))
lines-other k lines i line word h is same e = let f = rw same at e in lines-at k lines i line h is ∙ rw f refl

-- a line with the key is the first
pub lines-here : (k : Keyword) (lines : List Line) (i : ℕ) (line : Line) (word : List ℕ) → i < length lines → line ≡ get_or lines i line → word ≡ word_of k → bytes_eq line.key.now word ≡ true → lines_with k (map shown (drop i lines)) ≡ shown line ∷ lines_with k (map shown (drop (i + 1) lines))
lines-here k lines i line word h is same e = let f = rw same at e in lines-at k lines i line h is ∙ rw f refl

-- the values of lines
abbrev pub values : List TextLine → List (List ℕ)
values lines = map (λ line. line.value) lines

-- the formulas so far, and that of one more line
pub read-more : (d : Dialect) (names : Table) (texts : List (List ℕ)) (rest later : List TextLine) (line : TextLine) (front front' : List Formula) (f : Formula) → rest ≡ line ∷ later → IsFormulaOf d names line.value f → front' ≡ front ++ f ∷ []
    → ((fs : List Formula) → AreFormulasOf d names (values rest) fs → AreFormulasOf d names texts (front ++ fs)) → (fs : List Formula) → AreFormulasOf d names (values later) fs → AreFormulasOf d names texts (front' ++ fs)
read-more d names texts rest later line front front' f e found more before fs h =
    let one = before (f ∷ fs) (rw e (found, h)) in
    rw (more, append_assoc front (f ∷ []) fs) one
