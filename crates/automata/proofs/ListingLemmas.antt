-- The lines that list an automaton's locations, one more at a time.
use Rattle.std.proofs.Common.{◌≡◌, ◌<◌, ◌≤◌, ◌+◌, ◌==◌, ◌++◌, ℕ, zero, suc, List, [], ◌∷◌, Some, refl, sym, ◌∙◌, ap, subst, arith, inl, inr, length, take, append_assoc, append-nil, add-one, if◌then◌else◌}
use Rattle.std.specs.Prelude.{slice_get}
use Rattle.std.proofs.lemmas.Bool.{eq-eqb, ne_eqb}
use Rattle.diagrams.specs.declared.cubes.Cube.{Cube}
use Rattle.diagrams.specs.Eval.{Diagrams}
use Rattle.diagrams.specs.Cubes.{AreCubes}
use Rattle.automata.specs.Table.{Table, mark_of, row_of}
use Rattle.automata.specs.Listing.{location_line, round_line, round_lines, location_lines, Lists}
use Rattle.automata.proofs.FindingLemmas.{place_cases}

-- one more cube
pub round_lines-more : (cubes : List Cube) (i : ℕ) (x : Cube) → slice_get cubes i ≡ Some x → round_lines (take (i + 1) cubes) ≡ round_lines (take i cubes) ++ round_line x
round_lines-more cubes i x e = rw (add-one) (go cubes i x e)
  where
    go : (cubes : List Cube) (i : ℕ) (x : Cube) → slice_get cubes i ≡ Some x → round_lines (take (suc i) cubes) ≡ round_lines (take i cubes) ++ round_line x
    go [] i x e = absurd (cc)
    go (y ∷ cubes) zero x e = let q : y ≡ x = cc in append-nil (round_line y) ∙ ap round_line q
    go (y ∷ cubes) (suc i) x e = ap (λ z. round_line y ++ z) (go cubes i x e) ∙ sym (append_assoc (round_line y) (round_lines (take i cubes)) (round_line x))

-- all cubes
pub round_lines-all : (cubes : List Cube) (i : ℕ) → length cubes ≤ i → round_lines (take i cubes) ≡ round_lines cubes
round_lines-all [] zero h = refl
round_lines-all [] (suc i) h = refl
round_lines-all (y ∷ cubes) zero h = absurd (omega (arith, h))
round_lines-all (y ∷ cubes) (suc i) h = ap (λ z. round_line y ++ z) (round_lines-all cubes i (omega (arith, h)))

-- the same marks and cubes have the same lines
pub location_lines-same : (mark other : ℕ → ℕ) (x y : ℕ → List Cube) (count : ℕ) → ((at : ℕ) → at < count → mark at ≡ other at) → ((at : ℕ) → at < count → x at ≡ y at)
    → location_lines mark x count ≡ location_lines other y count
location_lines-same mark other x y zero marks cubes = refl
location_lines-same mark other x y (suc count) marks cubes =
    let before = location_lines-same mark other x y count (λ at l. marks at (omega (arith, l))) (λ at l. cubes at (omega (arith, l))) in
    let last = marks count (omega arith) in
    let rounds = cubes count (omega arith) in
    rw (before, last, rounds) refl

-- the lines of one more location
pub lists_more : (s : Diagrams) (t : Table) (n : ℕ) (text : List ℕ) (cubes : List Cube) → Lists s t n text → AreCubes s (row_of t n) 0 s.props cubes
    → Lists s t (n + 1) ((text ++ location_line n (mark_of t n)) ++ round_lines cubes)
lists_more s t n text cubes l a = record {
  cubes = more;
  rows = λ i h. elim (place_cases i n h) [
    | inl x ↦ subst (AreCubes s (row_of t i) 0 s.props) (sym (before i x)) (l.rows i x)
    | inr x ↦ subst (λ z. AreCubes s (row_of t z) 0 s.props (more z)) (sym x) (subst (AreCubes s (row_of t n) 0 s.props) (sym last) a)
  ];
  lines = rw (add-one)
      (ap (λ z. (z ++ location_line n (mark_of t n)) ++ round_lines cubes) (l.lines ∙ location_lines-same (mark_of t) (mark_of t) l.cubes more n (λ i x. refl) (λ i x. sym (before i x)))
      ∙ ap (λ z. (location_lines (mark_of t) more n ++ location_line n (mark_of t n)) ++ round_lines z) (sym last));
}
  where
    more : ℕ → List Cube
    more i = if i == n then cubes else l.cubes i

    before : (i : ℕ) → i < n → more i ≡ l.cubes i
    before i h = rw (ne_eqb i n (λ e. omega (arith, h, e))) refl

    last : more n ≡ cubes
    last = rw (eq-eqb n n refl) refl
