-- Where a violation can't be forced, legal rounds go on: agent first with each output, environment first with some input.
use Rattle.std.proofs.Common.{◌≡◌, ◌<◌, ◌≤◌, ◌^◌, ◌+◌, ◌*◌, ◌⊎◌, ℕ, zero, suc, Option, Some, None, inl, inr, refl, subst, arith, max}
use Rattle.std.proofs.lemmas.Bool.{cases_lt}
use Rattle.game.specs.Board.{Agent, Environment, Partition, input_of, output_of, IsRound, IsLetter}
use Rattle.game.specs.Winning.{WinsWithin}
use Rattle.game.specs.Numbers.{IsLeastOrNone}
use Rattle.legality.specs.Violation.{watched, AreViolationRanks}
use Rattle.automata.specs.Moves.{Moves, IsClosed}
use Rattle.game.proofs.WinningLemmas.{wins-more}
use Rattle.game.proofs.Rounds.{letter_of, letter_once, input_small, output_small}

-- below n, P holds somewhere, or Q with a bound everywhere
abbrev Bounded : (ℕ → ℕ → Type 0) → ℕ → ℕ → Type 0
Bounded Q n most = (i : ℕ) → i < n → (k : ℕ) × (k ≤ most) × Q i k

search_below : (P : ℕ → Type 0) (Q : ℕ → ℕ → Type 0) → (n : ℕ) → ((i : ℕ) → i < n → P i ⊎ ((k : ℕ) × Q i k)) → ((i : ℕ) × (i < n) × P i) ⊎ ((most : ℕ) × Bounded Q n most)
search_below P Q zero decide = inr (0, λ i h. absurd (omega arith))
search_below P Q (suc n) decide =
    elim (search_below P Q n (λ i h. decide i (omega arith))) [
      | inl (i, h, p) ↦ inl (i, omega arith, p)
      | inr (most, all) ↦ elim (decide n (omega arith)) [
        | inl p ↦ inl (n, omega arith, p)
        | inr (k, q) ↦ inr (
          max most k,
          λ i h. elim (cases_lt i n) [
            | inl l ↦ let r = all i l in (r.0, let x = r.1 in omega arith, r.2)
            | inr l ↦ let e : n ≡ i = omega arith in (k, omega arith, subst (λ j. Q j k) e q)
          ],
        )
      ]
    ]

-- a location has no rank, or is won
ranked_or_not : (s : Partition) (m : Moves) (at : ℕ) (o : Option ℕ) → IsLeastOrNone (λ k. WinsWithin (watched s m) k at) o
    → (o ≡ None) ⊎ ((k : ℕ) × WinsWithin (watched s m) k at)
ranked_or_not s m at None x = inl refl
ranked_or_not s m at (Some n) x = inr (n, x.holds)

unranked_never : (s : Partition) (m : Moves) (at : ℕ) (o : Option ℕ) → IsLeastOrNone (λ k. WinsWithin (watched s m) k at) o
    → o ≡ None → (k : ℕ) → ¬ WinsWithin (watched s m) k at
unranked_never s m at None x e = x
unranked_never s m at (Some n) x e = cc

-- agent first, at a location without a rank each output has a letter to such a location
pub agent_goes_on : (i o : ℕ) (m : Moves) (rank : ℕ → Option ℕ) → IsClosed (i + o) m → AreViolationRanks (record { first = Agent; inputs = i; outputs = o }) m rank
    → (at : ℕ) → at < m.size → rank at ≡ None → (y : ℕ) → y < 2 ^ o
    → (a : ℕ) × IsRound (record { first = Agent; inputs = i; outputs = o }) 0 y a × (rank (m.next at a) ≡ None)
agent_goes_on i o m rank closed ranks at h none y small =
    let s : Partition = record { first = Agent; inputs = i; outputs = o } in
    let b = watched s m in
    let letter : ℕ → ℕ = λ x. y * 2 ^ i + x in
    let is_letter : (x : ℕ) → x < 2 ^ i → (a : ℕ) × IsLetter s x y a = λ x l. letter_of s x y l small in
    let P : ℕ → Type 0 = λ x. (a : ℕ) × IsRound s 0 y a × (rank (m.next at a) ≡ None) in
    let Q : ℕ → ℕ → Type 0 = λ x k. (a : ℕ) → IsLetter s x y a → WinsWithin b k (m.next at a) in
    elim (search_below P Q (2 ^ i) (λ x l.
    let c = is_letter x l in
    let to = closed.next at c.0 h c.1.letter in
    elim (ranked_or_not s m (m.next at c.0) (rank (m.next at c.0)) (ranks (m.next at c.0) to)) [
      | inl e ↦ inl (c.0, record { letter = c.1.letter; decision = refl; output = c.1.output }, e)
      | inr (k, w) ↦ inr (k, λ a q. subst (λ z. WinsWithin b k (m.next at z)) (letter_once s x y c.0 a c.1 q) w)
    ])) [
      | inl (x, l, p) ↦ p
      | inr (most, all) ↦ absurd (unranked_never s m at (rank at) (ranks at h) none (suc most) (inr (λ x d. (
        y,
        small,
        λ a r legal.
            let z = input_small s a r.letter in
            let q = all (input_of s a) z in
            wins-more b q.0 most (m.next at a) q.1 (q.2 a (record { letter = r.letter; input = refl; output = r.output })),
      ))))
    ]

-- environment first, some input has each letter to such a location
pub environment_goes_on : (i o : ℕ) (m : Moves) (rank : ℕ → Option ℕ) → IsClosed (i + o) m → AreViolationRanks (record { first = Environment; inputs = i; outputs = o }) m rank
    → (at : ℕ) → at < m.size → rank at ≡ None
    → (x : ℕ) × (x < 2 ^ i) × ((a : ℕ) → a < 2 ^ (i + o) → input_of (record { first = Environment; inputs = i; outputs = o }) a ≡ x → rank (m.next at a) ≡ None)
environment_goes_on i o m rank closed ranks at h none =
    let s : Partition = record { first = Environment; inputs = i; outputs = o } in
    let b = watched s m in
    let P : ℕ → Type 0 = λ x. (a : ℕ) → a < 2 ^ (i + o) → input_of s a ≡ x → rank (m.next at a) ≡ None in
    let Q : ℕ → ℕ → Type 0 = λ x k. (y : ℕ) × (y < 2 ^ o) × ((a : ℕ) → IsLetter s x y a → WinsWithin b k (m.next at a)) in
    elim (search_below P Q (2 ^ i) (λ x l.
    let N : ℕ → ℕ → Type 0 = λ y k. (a : ℕ) → IsLetter s x y a → rank (m.next at a) ≡ None in
    let S : ℕ → Type 0 = λ y. (k : ℕ) × ((a : ℕ) → IsLetter s x y a → WinsWithin b k (m.next at a)) in
    elim (search_below S N (2 ^ o) (λ y j.
    let c = letter_of s x y l j in
    let to = closed.next at c.0 h c.1.letter in
    elim (ranked_or_not s m (m.next at c.0) (rank (m.next at c.0)) (ranks (m.next at c.0) to)) [
      | inl e ↦ inr (0, λ a q. subst (λ z. rank (m.next at z) ≡ None) (letter_once s x y c.0 a c.1 q) e)
      | inr (k, w) ↦ inl (k, λ a q. subst (λ z. WinsWithin b k (m.next at z)) (letter_once s x y c.0 a c.1 q) w)
    ])) [
      | inl (y, j, (k, w)) ↦ inr (k, (y, j, w))
      | inr (most, all) ↦ inl (λ a j e. (all (output_of s a) (output_small s a j)).2 a (record { letter = j; input = e; output = refl }))
    ])) [
      | inl (x, l, p) ↦ (x, l, p)
      | inr (most, all) ↦ absurd (unranked_never s m at (rank at) (ranks at h) none (suc most) (inr (λ x d.
          let q = all x d in
          (q.2.0, q.2.1, λ a r legal. wins-more b q.0 most (m.next at a) q.1 (q.2.2 a (record { letter = r.letter; input = r.decision; output = r.output }))))))
    ]
