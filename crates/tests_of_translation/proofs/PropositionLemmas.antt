-- The automata of a proposition and of the formula that is always true.
use Rattle.std.proofs.Common.{◌≡◌, ℕ, zero, suc, ◌<◌, Bool, true, false, if◌then◌else◌, List, [], ◌∷◌, refl, sym, ◌∙◌, ap, subst, arith}
use Rattle.std.specs.Prelude.{◌==◌, nat_lt, All}
use Rattle.std.proofs.lemmas.Bool.{lt-ltb}
use Rattle.bes_io.specs.Letter.{has}
use Rattle.forms.specs.Word.{Word}
use Rattle.forms.specs.Tree.{True, Atom, tree}
use Rattle.forms.specs.Satisfaction.{sat}
use Rattle.diagrams.specs.declared.top.Id.{Id}
use Rattle.diagrams.specs.Branch.{split_value}
use Rattle.diagrams.specs.Eval.{Diagrams, eval, letter_truth}
use Rattle.diagrams.specs.Live.{Means}
use Rattle.automata.specs.declared.meant.Meant.{Meant}
use Rattle.automata.specs.Moves.{location_after}
use Rattle.automata.specs.Table.{Table, mark_of, Fits, next_of, moves_of, IsMeant}
use Rattle.test_support.proofs.BuildingLemmas.{constant_row}

-- a location that every letter leads back to
sink : (s : Diagrams) (t : Table) (at : ℕ) → ((letter : ℕ) → next_of s t at letter ≡ at) → (w : Word) → location_after (moves_of s t) at w ≡ at
sink s t at stays [] = refl
sink s t at stays (a ∷ w) = ap (λ x. location_after (moves_of s t) x w) (stays a) ∙ sink s t at stays w

-- what holds of the first location, the marks and the rows of a table holds of the table
of_parts : (P : Table → Type 0) (t : Table) (first : ℕ) (marks : List ℕ) (rows : List Id) → t.first ≡ first → t.marks ≡ marks → t.rows ≡ rows → P (record { first = first; marks = marks; rows = rows }) → P t
of_parts P t first marks rows e1 e2 e3 p =
    let P1 : ℕ → Type 0 = λ x. P (record { first = x; marks = t.marks; rows = t.rows }) in
    let P2 : List ℕ → Type 0 = λ x. P (record { first = first; marks = x; rows = t.rows }) in
    let P3 : List Id → Type 0 = λ x. P (record { first = first; marks = marks; rows = x }) in
    subst P1 (sym e1) (subst P2 (sym e2) (subst P3 (sym e3) p))

-- the first location goes by the first letter, to one that accepts or to one that does not
abbrev by_first : Id → Id → Id → Table
by_first row one two = record { first = 0; marks = 0 ∷ 1 ∷ 0 ∷ []; rows = row ∷ one ∷ two ∷ [] }

one_or_two : (b : Bool) → (if b then 1 else 2) < 3
one_or_two true = omega arith
one_or_two false = omega arith

-- the row of a proposition
pub row_means : (s n : Diagrams) (i : ℕ) (one two row : Id) → Means s one (λ _. 1) → Means s two (λ _. 2) → Means n row (split_value s i two one) → Means n row (λ a. if a i then 1 else 2)
row_means s n i one two row p q r = record { live = r.live; value = λ a. r.value a ∙ rw (p.value a, q.value a) refl }

first_fits : (n : Diagrams) (i : ℕ) (row one two : Id) → i < n.props → Means n row (λ a. if a i then 1 else 2) → Means n one (λ _. 1) → Means n two (λ _. 2) → Fits n (by_first row one two)
first_fits n i row one two l r p q zero h = record {
  live = r.live;
  letters = λ a b same. r.value a ∙ ap (λ x. if x then 1 else 2) (same i l) ∙ sym (r.value b);
  targets = λ a. rw (r.value a) (one_or_two (a i));
}
first_fits n i row one two l r p q (suc zero) h = constant_row n 3 one 1 (omega arith) p
first_fits n i row one two l r p q (suc (suc zero)) h = constant_row n 3 two 2 (omega arith) q
first_fits n i row one two l r p q (suc (suc (suc at))) h = absurd (omega arith)

first_accepts : (n : Diagrams) (i : ℕ) (row one two : Id) → Means n row (λ a. if a i then 1 else 2) → Means n one (λ _. 1) → Means n two (λ _. 2) → (a : ℕ) (w : Word) (b : Bool)
    → letter_truth n.props a i ≡ b → (mark_of (by_first row one two) (location_after (moves_of n (by_first row one two)) (eval n row (letter_truth n.props a)) w) == 1) ≡ b
first_accepts n i row one two r p q a w true e =
    let next : eval n row (letter_truth n.props a) ≡ 1 = r.value (letter_truth n.props a) ∙ ap (λ x. if x then 1 else 2) e in
    ap (λ x. mark_of (by_first row one two) (location_after (moves_of n (by_first row one two)) x w) == 1) next
    ∙ ap (λ x. mark_of (by_first row one two) x == 1) (sink n (by_first row one two) 1 (λ letter. p.value (letter_truth n.props letter)) w)
first_accepts n i row one two r p q a w false e =
    let next : eval n row (letter_truth n.props a) ≡ 2 = r.value (letter_truth n.props a) ∙ ap (λ x. if x then 1 else 2) e in
    ap (λ x. mark_of (by_first row one two) (location_after (moves_of n (by_first row one two)) x w) == 1) next
    ∙ ap (λ x. mark_of (by_first row one two) x == 1) (sink n (by_first row one two) 2 (λ letter. q.value (letter_truth n.props letter)) w)

first_meant : (n : Diagrams) (i : ℕ) (row one two : Id) → i < n.props → Means n row (λ a. if a i then 1 else 2) → Means n one (λ _. 1) → Means n two (λ _. 2) → IsMeant n (by_first row one two) (Atom i)
first_meant n i row one two l r p q = record { fits = first_fits n i row one two l r p q; same = λ w o. accepts_same w }
  where
    front : (a : ℕ) → letter_truth n.props a i ≡ has n.props i a
    front a = let t : nat_lt i n.props ≡ true = lt-ltb i n.props l in rw t refl

    accepts_same : (w : Word) → (mark_of (by_first row one two) (location_after (moves_of n (by_first row one two)) 0 w) == 1) ≡ sat n.props (Atom i) w
    accepts_same [] = refl
    accepts_same (a ∷ w) = first_accepts n i row one two r p q a w (has n.props i a) (front a)

-- it is the automaton of the proposition
pub proposition_meant : (n : Diagrams) (t : Table) (i : ℕ) (row one two : Id) → t.first ≡ 0 → t.marks ≡ 0 ∷ 1 ∷ 0 ∷ [] → t.rows ≡ row ∷ one ∷ two ∷ [] → i < n.props
    → Means n row (λ a. if a i then 1 else 2) → Means n one (λ _. 1) → Means n two (λ _. 2) → IsMeant n t (Atom i)
proposition_meant n t i row one two e1 e2 e3 l r p q =
    of_parts (λ x. IsMeant n x (Atom i)) t 0 (0 ∷ 1 ∷ 0 ∷ []) (row ∷ one ∷ two ∷ []) e1 e2 e3 (first_meant n i row one two l r p q)

-- one location, which accepts
abbrev everywhere : Id → Table
everywhere row = record { first = 0; marks = 1 ∷ []; rows = row ∷ [] }

everywhere_meant : (n : Diagrams) (row : Id) → Means n row (λ _. 0) → IsMeant n (everywhere row) True
everywhere_meant n row r = record { fits = fits; same = λ w o. ap (λ x. mark_of (everywhere row) x == 1) (sink n (everywhere row) 0 (λ letter. r.value (letter_truth n.props letter)) w) }
  where
    fits : Fits n (everywhere row)
    fits zero h = constant_row n 1 row 0 (omega arith) r
    fits (suc at) h = absurd (omega arith)

-- it is the automaton of the formula that is always true
pub truth_meant : (n : Diagrams) (t : Table) (row : Id) → t.first ≡ 0 → t.marks ≡ 1 ∷ [] → t.rows ≡ row ∷ [] → Means n row (λ _. 0) → IsMeant n t True
truth_meant n t row e1 e2 e3 r = of_parts (λ x. IsMeant n x True) t 0 (1 ∷ []) (row ∷ []) e1 e2 e3 (everywhere_meant n row r)

-- a list of two tests
pub two_meant : (s : Diagrams) (t u : Meant) → IsMeant s t.automaton (tree t.form) → IsMeant s u.automaton (tree u.form) → All (λ t. IsMeant s t.automaton (tree t.form)) (t ∷ u ∷ [])
two_meant s t u m n zero d h = m
two_meant s t u m n (suc zero) d h = n
two_meant s t u m n (suc (suc k)) d h = absurd (omega arith)
