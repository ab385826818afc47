-- One more row that is cut.
use Rattle.std.proofs.Common.{◌≡◌, ◌+◌, ◌++◌, ℕ, List, [], ◌∷◌, length, length-append, sym, ◌∙◌, ap, subst, arith, inl, inr}
use Rattle.std.proofs.lemmas.Bool.{cases_lt}
use Rattle.std.proofs.lemmas.List.{get_or_append_left, get_or_at}
use Rattle.diagrams.specs.declared.top.Id.{Id}
use Rattle.diagrams.specs.Eval.{Diagrams, id_at}
use Rattle.diagrams.specs.Live.{IsLive, Keeps}
use Rattle.choosing.specs.Cuts.{Grows, AllBelow, Cuts, AreCutRows}
use Rattle.choosing.proofs.CutLemmas.{cuts_last, cuts_from}

-- no row is cut
pub rows-none : (s n : Diagrams) (bound : ℕ) (items rows made : List Id) → made ≡ [] → AreCutRows s n bound items rows made 0
rows-none s n bound items rows made e = record { size = ap length e; each = λ k h. absurd (omega (arith, h)) }

-- one more is
pub rows-more : (bound : ℕ) (s0 s n : Diagrams) → Keeps s0 s → Keeps s n → (c d rows made : List Id) (at : ℕ) (row : Id) → Grows c d → AllBelow s bound c → IsLive s0 (id_at rows at)
    → AreCutRows s0 s bound c rows made at → Cuts s n bound d (id_at rows at) row → AreCutRows s0 n bound d rows (made ++ row ∷ []) (at + 1)
rows-more bound s0 s n k j c d rows made at row g all live r cut = record {
  size = let e = r.size in length-append made (row ∷ []) ∙ omega (arith, e);
  each = λ i h. elim (cases_lt i at) [
    | inl l ↦
        let e = r.size in
        let same : id_at (made ++ row ∷ []) i ≡ id_at made i = get_or_append_left made (row ∷ []) _ i (omega (arith, l, e)) in
        subst (λ z. Cuts s0 n bound d (id_at rows i) z) (sym same) (cuts_last bound s0 s n j c d g all (id_at rows i) (id_at made i) (r.each i l))
    | inr l ↦
        let here : at ≡ i = omega (arith, h, l) in
        let e = r.size in
        let last : id_at (made ++ row ∷ []) at ≡ row = get_or_at made row [] _ at e in
        subst (λ z. Cuts s0 n bound d (id_at rows z) (id_at (made ++ row ∷ []) z)) here
        (subst (λ z. Cuts s0 n bound d (id_at rows at) z) (sym last) (cuts_from bound s0 s n k d (id_at rows at) row live cut))
  ];
}
