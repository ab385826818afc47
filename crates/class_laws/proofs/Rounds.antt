-- Rounds that split blocks by rows with blocks in place of locations.
use Rattle.std.proofs.Common.{◌≡◌, ◌<◌, ◌^◌, ℕ, suc, [], ◌∷◌, sym, ◌∙◌, ap, arith, inl, inr}
use Rattle.std.proofs.lemmas.Bool.{cases_eq}
use Rattle.forms.specs.Word.{Word, IsOver}
use Rattle.diagrams.specs.declared.top.Id.{Id}
use Rattle.diagrams.specs.Eval.{Diagrams, eval, DependsOn, letter_truth}
use Rattle.diagrams.specs.Live.{Keeps}
use Rattle.automata.specs.Moves.{Moves, mark_after, IsClosed}
use Rattle.automata.specs.Table.{Table, size_of, row_of, Fits, next_of, moves_of}
use Rattle.automata.proofs.Letters.{same_or_differ}
use Rattle.automata.proofs.Words.{over-nil, over-head, over-tail, over-cons}
use Rattle.automata.proofs.RenumberLemmas.{fits_closed}
use Rattle.class_laws.specs.Divided.{AgreeWithin, IsDivided}
use Rattle.class_laws.specs.Classes.{AreClasses}
use Rattle.class_laws.specs.Splits.{IsSplit}
use Rattle.class_laws.specs.Current.{AreRowsBy}
use Rattle.class_laws.specs.Laws.{IsStable}

stable-word : (p : ℕ) (m : Moves) (block : ℕ → ℕ) → IsClosed p m → IsStable p m block → (i j : ℕ) → i < m.size → j < m.size → block i ≡ block j
    → (w : Word) → IsOver p w → mark_after m i w ≡ mark_after m j w
stable-word p m block c s i j h l e [] o = s.mark i j h l e
stable-word p m block c s i j h l e (a ∷ w) o =
    let x = over-head p a w o in
    stable-word p m block c s (m.next i a) (m.next j a) (c.next i a h x) (c.next j a l x) (s.next i j a h l e x) w (over-tail p a w o)

-- stable blocks that words divide are the classes
pub stable_classes : (p : ℕ) (m : Moves) (k : ℕ) (block : ℕ → ℕ) → IsClosed p m → IsDivided p m k block → IsStable p m block → AreClasses p m block
stable_classes p m k block c d s i j h l = (
  stable-word p m block c s i j h l,
  λ f. elim (cases_eq (block i) (block j)) [
    | inl e ↦ e
    | inr n ↦ let t = d.apart i j h l n in absurd (t.differ (f t.word t.over))
  ],
)

module _ (s n : Diagrams) (t : Table) (old new : ℕ → ℕ) (key : ℕ → Id) (k : Keeps s n) (f : Fits s t) (first : t.first < size_of t)
    (r : AreRowsBy s n t old key) (q : IsSplit (size_of t) old new key) where
  depends : (at : ℕ) → at < size_of t → DependsOn n (key at) (λ v. v < n.props)
  depends at h a b same =
      (r at h).value a ∙ ap old ((f at h).letters a b (λ v l. same v (rw (k.extends.props) l))) ∙ sym ((r at h).value b)

  -- equal keys lead to one old block by each letter
  next-same : (i j a : ℕ) → i < size_of t → j < size_of t → key i ≡ key j → old (next_of s t i a) ≡ old (next_of s t j a)
  next-same i j a h l e =
      sym ((r i h).value (letter_truth s.props a)) ∙ ap (λ z. eval n z (letter_truth s.props a)) e ∙ (r j l).value (letter_truth s.props a)

  agree : (w : ℕ) → IsDivided s.props (moves_of s t) (suc w) old → (i j : ℕ) → i < size_of t → j < size_of t → new i ≡ new j → AgreeWithin s.props (moves_of s t) (suc (suc w)) i j
  agree w d i j h l e [] o m = d.same i j h l (q.same i j h l e).0 [] o (omega arith)
  agree w d i j h l e (a ∷ v) o m =
      let c = fits_closed s t first f in
      let x = over-head s.props a v o in
      let y = (q.same i j h l e).1 in
      d.same (next_of s t i a) (next_of s t j a) (c.next i a h x) (c.next j a l x) (next-same i j a h l y) v (over-tail s.props a v o) (omega (arith, m))

  -- a split by rows divides by words of one letter more
  pub split_divides : (w : ℕ) → IsDivided s.props (moves_of s t) (suc w) old → IsDivided s.props (moves_of s t) (suc (suc w)) new
  split_divides w d = record {
    same = agree w d;
    apart = λ i j h l e. elim (cases_eq (old i) (old j)) [
      | inr o ↦ let x = d.apart i j h l o in let y = x.short in record { word = x.word; over = x.over; short = omega (arith, y); differ = x.differ }
      | inl o ↦ elim (same_or_differ n k.now (key i) (key j) (r i h).live (r j l).live (depends i h) (depends j l)) [
        | inl z ↦ absurd (e (q.one i j h l o z))
        | inr z ↦
            let c = fits_closed s t first f in
            let small : z.0 < 2 ^ s.props = rw (← k.extends.props) z.1 in
            let x = d.apart (next_of s t i z.0) (next_of s t j z.0) (c.next i z.0 h small) (c.next j z.0 l small) (λ y. z.2.differ (
            (r i h).value (letter_truth n.props z.0) ∙ ap (λ p. old (eval s (row_of t i) (letter_truth p z.0))) k.extends.props ∙ y
            ∙ sym (ap (λ p. old (eval s (row_of t j) (letter_truth p z.0))) k.extends.props) ∙ sym ((r j l).value (letter_truth n.props z.0)))) in
            let y = x.short in
            record { word = z.0 ∷ x.word; over = over-cons s.props z.0 x.word small x.over; short = omega (arith, y); differ = x.differ }
      ]
    ];
  }

  -- where a split changes no block, the blocks are stable
  pub unchanged_stable : (w : ℕ) → IsDivided s.props (moves_of s t) (suc w) old → ((i : ℕ) → i < size_of t → new i ≡ old i) → IsStable s.props (moves_of s t) old
  unchanged_stable w d e = record {
    mark = λ i j h l o. d.same i j h l o [] (over-nil s.props) (omega arith);
    next = λ i j a h l o x. next-same i j a h l (q.same i j h l (e i h ∙ o ∙ sym (e j l))).1;
  }
