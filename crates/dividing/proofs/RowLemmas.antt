-- Rows with blocks in place of locations.
use Rattle.std.proofs.Common.{◌≡◌, ◌≢◌, ◌<◌, ◌^◌, ◌⊎◌, ℕ, sym, ◌∙◌, ap, inl, inr}
use Rattle.std.proofs.lemmas.Bool.{cases_eq}
use Rattle.diagrams.specs.declared.top.Id.{Id}
use Rattle.diagrams.specs.Eval.{Diagrams, eval, DependsOn, letter_truth}
use Rattle.diagrams.specs.Live.{IsCanonical, Means}
use Rattle.automata.specs.Table.{Table, size_of, mark_of, row_of, Fits, next_of, moves_of}
use Rattle.automata.proofs.Letters.{same_or_differ}
use Rattle.dividing.proofs.RoundLemmas.{IsRound}

-- id k is the row of location k with blocks in place of locations
abbrev pub AreRelabelled : Diagrams → Table → (ℕ → ℕ) → (ℕ → Id) → Type 0
AreRelabelled s t block ids = (k : ℕ) → k < size_of t → Means s (ids k) (λ a. block (eval s (row_of t k) a))

-- the new blocks are one exactly where the marks and the relabelled rows are
pub record GoesByRows (t : Table) (ids : ℕ → Id) (new : ℕ → ℕ) : Type 0 where
  pub same : (i j : ℕ) → i < size_of t → j < size_of t → new i ≡ new j → (mark_of t i ≡ mark_of t j) × (ids i ≡ ids j)
  pub apart : (i j : ℕ) → i < size_of t → j < size_of t → mark_of t i ≡ mark_of t j → ids i ≡ ids j → new i ≡ new j

relabelled-depends : (s : Diagrams) (t : Table) (old : ℕ → ℕ) (ids : ℕ → Id) → Fits s t → AreRelabelled s t old ids → (k : ℕ) → k < size_of t
    → DependsOn s (ids k) (λ v. v < s.props)
relabelled-depends s t old ids f r k h a b same =
    (r k h).value a ∙ ap old ((f k h).letters a b same) ∙ sym ((r k h).value b)

rows-apart : (s : Diagrams) (t : Table) (old new : ℕ → ℕ) (ids : ℕ → Id) → IsCanonical s → Fits s t → AreRelabelled s t old ids → GoesByRows t ids new
    → (i j : ℕ) → i < size_of t → j < size_of t → new i ≢ new j
    → (mark_of t i ≢ mark_of t j) ⊎ ((a : ℕ) × (a < 2 ^ s.props) × (old (next_of s t i a) ≢ old (next_of s t j a)))
rows-apart s t old new ids c f r g i j h k n =
    elim (cases_eq (mark_of t i) (mark_of t j)) [
      | inr q ↦ inl q
      | inl q ↦ elim (same_or_differ s c (ids i) (ids j) (r i h).live (r j k).live (relabelled-depends s t old ids f r i h) (relabelled-depends s t old ids f r j k)) [
        | inl e ↦ absurd (n (g.apart i j h k q e))
        | inr d ↦ inr (d.0, d.1, λ e. d.2.differ ((r i h).value (letter_truth s.props d.0) ∙ e ∙ sym ((r j k).value (letter_truth s.props d.0))))
      ]
    ]

-- blocks by marks and relabelled rows make a round
pub rows_make_round : (s : Diagrams) (t : Table) (old new : ℕ → ℕ) (ids : ℕ → Id) → IsCanonical s → Fits s t → AreRelabelled s t old ids → GoesByRows t ids new
    → IsRound s.props (moves_of s t) old new
rows_make_round s t old new ids c f r g =
    record {
      mark = λ i j h k e. (g.same i j h k e).0;
      next = λ i j h k e a x.
          sym ((r i h).value (letter_truth s.props a)) ∙ ap (λ z. eval s z (letter_truth s.props a)) (g.same i j h k e).1 ∙ (r j k).value (letter_truth s.props a);
      apart = rows-apart s t old new ids c f r g;
    }
