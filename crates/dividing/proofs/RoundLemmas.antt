-- Rounds of refinement (Moore 1956), and blocks that are stable.
use Rattle.std.proofs.Common.{◌≡◌, ◌≢◌, ◌<◌, ◌^◌, ◌⊎◌, ℕ, suc, [], ◌∷◌, arith, inl, inr}
use Rattle.std.proofs.lemmas.Bool.{cases_eq}
use Rattle.automata.specs.Moves.{Moves, IsClosed}
use Rattle.automata.proofs.Words.{over-nil, over-head, over-tail, over-cons}
use Rattle.class_laws.specs.Divided.{AgreeWithin, IsDivided}

-- locations of one new block were in one old block
abbrev pub IsFiner : (ℕ → ℕ) → (ℕ → ℕ) → ℕ → Type 0
IsFiner new old size = (i j : ℕ) → i < size → j < size → new i ≡ new j → old i ≡ old j

-- the new blocks go by the mark and by the old blocks of the targets
pub record IsRound (p : ℕ) (m : Moves) (old new : ℕ → ℕ) : Type 0 where
  pub mark : (i j : ℕ) → i < m.size → j < m.size → new i ≡ new j → m.mark i ≡ m.mark j
  pub next : (i j : ℕ) → i < m.size → j < m.size → new i ≡ new j → (a : ℕ) → a < 2 ^ p → old (m.next i a) ≡ old (m.next j a)
  pub apart : (i j : ℕ) → i < m.size → j < m.size → new i ≢ new j
      → (m.mark i ≢ m.mark j) ⊎ ((a : ℕ) × (a < 2 ^ p) × (old (m.next i a) ≢ old (m.next j a)))

agree-step : (p : ℕ) (m : Moves) (k : ℕ) (old new : ℕ → ℕ) → IsClosed p m → IsDivided p m k old → IsRound p m old new
    → (i j : ℕ) → i < m.size → j < m.size → new i ≡ new j → AgreeWithin p m (suc k) i j
agree-step p m k old new c d r i j h l e [] o s = r.mark i j h l e
agree-step p m k old new c d r i j h l e (a ∷ w) o s =
    let x = over-head p a w o in
    d.same (m.next i a) (m.next j a) (c.next i a h x) (c.next j a l x) (r.next i j h l e a x) w (over-tail p a w o) (omega (arith, s))

-- a round divides by words of one letter more
pub round_divides : (p : ℕ) (m : Moves) (k : ℕ) (old new : ℕ → ℕ) → IsClosed p m → IsDivided p m k old → IsRound p m old new
    → IsDivided p m (suc k) new
round_divides p m k old new c d r =
    record {
      same = agree-step p m k old new c d r;
      apart = λ i j h l n. elim (r.apart i j h l n) [
        | inl q ↦ record { word = []; over = over-nil p; short = omega arith; differ = q }
        | inr q ↦
            let t = d.apart (m.next i q.0) (m.next j q.0) (c.next i q.0 h q.1) (c.next j q.0 l q.1) q.2 in
            record {
              word = q.0 ∷ t.word;
              over = over-cons p q.0 t.word q.1 t.over;
              short = omega (arith, t.short);
              differ = t.differ;
            }
      ];
    }

-- and into finer blocks
pub round_is_finer : (p : ℕ) (m : Moves) (k : ℕ) (old new : ℕ → ℕ) → IsDivided p m k old → IsDivided p m (suc k) new → IsFiner new old m.size
round_is_finer p m k old new d e i j h l q =
    elim (cases_eq (old i) (old j)) [
      | inl x ↦ x
      | inr x ↦
          let t = d.apart i j h l x in
          absurd (t.differ (e.same i j h l q t.word t.over (omega (arith, t.short))))
    ]
