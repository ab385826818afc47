-- The least words that tell locations apart, from one round to the next.
use Rattle.std.proofs.Common.{◌≡◌, ◌≢◌, ◌<◌, ◌≤◌, ◌+◌, ◌^◌, ℕ, List, [], ◌∷◌, sym, ◌∙◌, ap, subst, arith, inl, inr, length, get_or, true, All}
use Rattle.std.specs.Prelude.{AllPairs, Any}
use Rattle.std.proofs.lemmas.Bool.{cases_lt, cases_order, true≢false}
use Rattle.std.proofs.lemmas.List.{get_or_read}
use Rattle.forms.specs.Word.{Word, IsOver}
use Rattle.forms.specs.Shortlex.{has_lesser_letters, comes_before}
use Rattle.forms.proofs.ShortlexLemmas.{before-shorter, before-lesser, before-cases, lesser-cases}
use Rattle.automata.specs.Moves.{Moves, mark_after}
use Rattle.automata.proofs.Words.{over-head, over-tail, over-cons}
use Rattle.class_laws.specs.Divided.{AgreeWithin, IsDivided}
use Rattle.distinguish.specs.Telling.{IsLeastDistinguishing, IsLeastForSome}
use Rattle.distinguish.specs.Columns.{AreColumns, mark_in}

-- letters lead from locations to locations
abbrev pub LeadsWithin : ℕ → Moves → Type 0
LeadsWithin p m = (at a : ℕ) → at < m.size → a < 2 ^ p → m.next at a < m.size

-- the least word of the targets has one letter less than the words that do not tell the two apart
target-length : (p : ℕ) (m : Moves) (k : ℕ) (block : ℕ → ℕ) → LeadsWithin p m → IsDivided p m k block
    → (i j : ℕ) → i < m.size → j < m.size → block i ≡ block j → (a : ℕ) → a < 2 ^ p → block (m.next i a) ≢ block (m.next j a)
    → (v : Word) → IsLeastDistinguishing p m (m.next i a) (m.next j a) v → length v + 1 ≡ k
target-length p m k block c d i j h l e a x n v t =
    let z = d.apart (m.next i a) (m.next j a) (c i a h x) (c j a l x) n in
    elim (cases_lt (length z.word) (length v)) [
      | inl q ↦ absurd (z.differ (t.least z.word z.over (before-shorter z.word v q)))
      | inr q ↦ elim (cases_lt (length v + 1) k) [
        | inl y ↦ absurd (t.differ (d.same i j h l e (a ∷ v) (over-cons p a v x t.over) (omega (arith, y))))
        | inr y ↦ omega (arith, y, q, z.short)
      ]
    ]

least-same : (p : ℕ) (m : Moves) (k : ℕ) (block : ℕ → ℕ) → LeadsWithin p m → IsDivided p m k block
    → (i j : ℕ) → i < m.size → j < m.size → (a : ℕ)
    → ((b : ℕ) → b < a → block (m.next i b) ≡ block (m.next j b))
    → (v : Word) → length v + 1 ≡ k → IsLeastDistinguishing p m (m.next i a) (m.next j a) v
    → (u : Word) → IsOver p u → length u ≡ k → has_lesser_letters u (a ∷ v) ≡ true → mark_after m i u ≡ mark_after m j u
least-same p m k block c d i j h l a low v s t [] o z q = absurd (true≢false (sym q))
least-same p m k block c d i j h l a low v s t (b ∷ u) o z q =
    let y = over-head p b u o in
    elim (lesser-cases b a u v q) [
      | inl g ↦ d.same (m.next i b) (m.next j b) (c i b h y) (c j b l y) (low b g) u (over-tail p b u o) (omega (arith, z))
      | inr g ↦ rw (g.0) (t.least u (over-tail p b u o) (before-lesser u v (omega (arith, z, s)) g.1))
    ]

-- the least letter to different blocks, and then the least word of the targets
pub distinguishing_steps : (p : ℕ) (m : Moves) (k : ℕ) (block : ℕ → ℕ) → LeadsWithin p m → IsDivided p m k block
    → (i j : ℕ) → i < m.size → j < m.size → block i ≡ block j
    → (a : ℕ) → a < 2 ^ p → block (m.next i a) ≢ block (m.next j a)
    → ((b : ℕ) → b < a → block (m.next i b) ≡ block (m.next j b))
    → (v : Word) → IsLeastDistinguishing p m (m.next i a) (m.next j a) v → IsLeastDistinguishing p m i j (a ∷ v)
distinguishing_steps p m k block c d i j h l e a x n low v t =
    let s = target-length p m k block c d i j h l e a x n v t in
    record {
      over = over-cons p a v x t.over;
      differ = t.differ;
      least = λ u o q. elim (before-cases u (a ∷ v) q) [
        | inl g ↦ d.same i j h l e u o (omega (arith, g, s))
        | inr g ↦ least-same p m k block c d i j h l a low v s t u o (omega (arith, g.0, s)) g.1
      ];
    }

-- the first column in which the marks differ is that of the least word
pub first_is_least : (p : ℕ) (m : Moves) (words : List Word) (columns : List (List ℕ)) → AreColumns m words columns
    → AllPairs (λ u v. comes_before u v ≡ true) words → All (IsLeastForSome p m) words
    → (i j : ℕ) → i < m.size → j < m.size → Any (IsLeastDistinguishing p m i j) words
    → (r : ℕ) → r ≤ length columns → ((k : ℕ) → k < r → mark_in columns k i ≡ mark_in columns k j) → (r < length columns → mark_in columns r i ≢ mark_in columns r j)
    → (r < length words) × IsLeastDistinguishing p m i j (get_or words r [])
first_is_least p m words columns a order needed i j h l any r within before found =
    elim (cases_order r any.0) [
      | inl e ↦ (omega (arith, e, any.2), subst (λ k. IsLeastDistinguishing p m i j (get_or words k [])) (sym e) (subst (IsLeastDistinguishing p m i j) here any.4))
      | inr (inl q) ↦
          let k : r < length words = omega (arith, q, any.2) in
          let size = a.size in
          let early : comes_before (get_or words r []) any.1 ≡ true = ap (comes_before (get_or words r [])) here ∙ order r any.0 [] q any.2 in
          let same = any.4.least (get_or words r []) ((needed r [] k).least.over) early in
          absurd (found (omega (arith, k, size)) ((a.column r k).mark i h ∙ same ∙ sym ((a.column r k).mark j l)))
      | inr (inr q) ↦
          let c = a.column any.0 any.2 in
          absurd (any.4.differ (ap (mark_after m i) here ∙ sym (c.mark i h) ∙ before any.0 q ∙ c.mark j l ∙ ap (mark_after m j) (sym here)))
    ]
  where
    here : any.1 ≡ get_or words any.0 []
    here = get_or_read words any.0 any.1 any.2 (sym any.3) []

-- the least word that tells two locations apart does so in either order
pub least_swap : (p : ℕ) (m : Moves) (i j : ℕ) (w : Word) → IsLeastDistinguishing p m i j w → IsLeastDistinguishing p m j i w
least_swap p m i j w l = record { over = l.over; differ = λ q. l.differ (sym q); least = λ v o b. sym (l.least v o b) }

-- locations that agree after short words have the same least words of this length
pub least_moves : (p : ℕ) (m : Moves) (n i x y : ℕ) (w : Word) → AgreeWithin p m n i x → length w < n → IsLeastDistinguishing p m x y w → IsLeastDistinguishing p m i y w
least_moves p m n i x y w a h l = record {
  over = l.over;
  differ = λ q. l.differ (sym (a w l.over h) ∙ q);
  least = λ v o b. a v o (shorter v b) ∙ l.least v o b;
}
  where
    shorter : (v : Word) → comes_before v w ≡ true → length v < n
    shorter v b = elim (before-cases v w b) [ inl g ↦ omega (arith, g, h) | inr g ↦ omega (arith, g.0, h) ]

-- a word that tells two locations apart that agree after shorter words is not shorter
pub no_shorter : (p : ℕ) (m : Moves) (n i j : ℕ) (w : Word) → AgreeWithin p m n i j → IsLeastDistinguishing p m i j w → n ≤ length w
no_shorter p m n i j w a l = elim (cases_lt (length w) n) [ inl h ↦ absurd (l.differ (a w l.over h)) | inr h ↦ h ]
