-- Environment first, the least rank code over the outputs is the decision's winning number.
use Rattle.std.proofs.Common.{◌≡◌, ℕ, zero, suc, ◌<◌, ◌≤◌, ◌^◌, ◌+◌, ◌/◌, ◌%◌, inl, inr, refl, sym, ◌∙◌, ap, subst, arith, Bool, true, false, if◌then◌else◌, Option, Some, None}
use Rattle.std.specs.Prelude.{nat_lt}
use Rattle.std.proofs.lemmas.Nat.{pow_pos}
use Rattle.std.proofs.lemmas.Bool.{cases_lt}
use Rattle.std.proofs.lemmas.Bool.Decides.{nat_tests}
use Rattle.diagrams.specs.Tree.{Assignment}
use Rattle.diagrams.specs.Eval.{letter_truth}
use Rattle.diagrams.specs.Folded.{IsExtreme, AgreeOutside}
use Rattle.diagrams.specs.declared.work.Op.TheVariants.{Least}
use Rattle.automata.proofs.Letters.{spelt, spelt-less}
use Rattle.game.specs.Winning.{WinsWithin, DecisionWinsWithin}
use Rattle.game.specs.Arena.{Locations, locations}
use Rattle.attractor.specs.Minimax.{IsWithin}
use Rattle.layers.specs.Ranked.{AreRanks}
use Rattle.layers.specs.Distances.{AreWon, decoded, code_of, before}
use Rattle.layers.proofs.Layers.{met_wins}
use Rattle.layers.proofs.Least.{some_number}
use Rattle.layers.proofs.LetterParts.{first_part, spelt-first, spelt-same, spelt-letter}
use Rattle.layers.proofs.Rounds.{agent_first, environment_first, letter_with, letter_first, letter_second, letter_less, second_less, same_letter}
use Rattle.layers.proofs.HopeLemmas.{rank_out, rank_in}

decoded_within : (bound code n : ℕ) → IsWithin n (decoded bound code) → (code < bound) × (code ≤ n)
decoded_within bound code n w = elim (cases_lt code bound) [
  | inl h ↦ let t : nat_lt code bound ≡ true = grind (arith, nat_tests) in (h, subst (λ b. IsWithin n (if b then Some code else None)) t w)
  | inr h ↦ let t : nat_lt code bound ≡ false = grind (arith, nat_tests) in elim (subst (λ b. IsWithin n (if b then Some code else None)) t w) [ ]
]

within_decoded : (bound code n : ℕ) → code < bound → code ≤ n → IsWithin n (decoded bound code)
within_decoded bound code n h l = let t : nat_lt code bound ≡ true = grind (arith, nat_tests) in subst (λ b. IsWithin n (if b then Some code else None)) (sym t) l

code_below : (bound : ℕ) (v : Option ℕ) (k : ℕ) → code_of bound v ≡ k → k < bound → v ≡ Some k
code_below bound None k e h = absurd (omega arith)
code_below bound (Some j) k e h = ap (λ i. Some i) e

-- two letters with one first part agree outside the second
same_outside : (i o a c : ℕ) → a / 2 ^ o ≡ c / 2 ^ o → AgreeOutside i (i + o) (letter_truth (i + o) a) (letter_truth (i + o) c)
same_outside i o a c e v (inl h) = first_part i o c v h ∙ ap (λ z. letter_truth i z v) (sym e) ∙ sym (first_part i o a v h)
same_outside i o a c e v (inr h) = let f : nat_lt v (i + o) ≡ false = grind (arith, nat_tests) in rw f refl

module _ (i o : ℕ) (duty : Bool) (m : Locations) (rank : ℕ → Option ℕ) (r : AreRanks (environment_first i o) duty m rank) (bound : ℕ)
    (few : (z k : ℕ) → z < m.size → rank z ≡ Some k → k < bound) (code : ℕ → Assignment → ℕ) (least : ℕ → Assignment → ℕ)
    (codes : (at a : ℕ) → at < m.size → a < 2 ^ (i + o) → (m.next at a < m.size → code at (letter_truth (i + o) a) ≡ code_of bound (rank (m.next at a)))
    × (code at (letter_truth (i + o) a) < bound → m.next at a < m.size))
    (letters : (at : ℕ) (b : Assignment) → at < m.size → code at b ≡ code at (letter_truth (i + o) (spelt b (i + o))))
    (extreme : (at : ℕ) (a : Assignment) → at < m.size → IsExtreme Least i (i + o) (code at) a (least at a)) where
  -- the winning number of an input
  won_code : ℕ → ℕ → Option ℕ
  won_code at x = decoded bound (least at (letter_truth (i + o) (letter_with o x 0)))

  pub folded_won : AreWon (environment_first i o) duty m (λ at x. decoded bound (least at (letter_truth (i + o) (letter_with o x 0))))
  folded_won at x n h (small, legal) =
      let a0 = letter_with o x 0 in
      let first0 = letter_first o x 0 (pow_pos o) in
      let e = extreme at (letter_truth (i + o) (letter_with o x 0)) h in (
        λ p.
            let b = letter_with o x p.0 in
            let less = letter_less i o x p.0 small p.1 in
            let first = letter_first o x p.0 p.1 in
            let there = legal b less first in
            let k = some_number n (rank (m.next at b)) (rank_out (environment_first i o) duty m rank r n (m.next at b) there (p.2 b (record { letter = less; decision = first; output = letter_second o x p.0 p.1 }) there)) in
            let is : code at (letter_truth (i + o) (letter_with o x p.0)) ≡ k.0 = (codes at b h less).0 there ∙ ap (code_of bound) k.1 in
            let below = few (m.next at b) k.0 there k.1 in
            let l = k.2 in
            let q : least at (letter_truth (i + o) (letter_with o x 0)) ≤ code at (letter_truth (i + o) (letter_with o x p.0)) =
            e.bounds (letter_truth (i + o) b) (same_outside i o a0 b (first0 ∙ sym first)) in
            within_decoded bound (least at (letter_truth (i + o) (letter_with o x 0))) n (omega arith) (omega arith),
        λ w.
            let d = decoded_within bound (least at (letter_truth (i + o) (letter_with o x 0))) n w in
            let t = e.taken in
            let a = spelt t.0 (i + o) in
            let less = spelt-less t.0 (i + o) in
            let first : spelt t.0 (i + o) / 2 ^ o ≡ x =
            spelt-first t.0 i o
            ∙ spelt-same t.0 (letter_truth i x) i (λ u l. t.1 u (inl l) ∙ first_part i o a0 u l ∙ ap (λ z. letter_truth i z u) first0)
            ∙ spelt-letter i x small in
            let is : code at (letter_truth (i + o) (spelt t.0 (i + o))) ≡ least at (letter_truth (i + o) (letter_with o x 0)) = sym (letters at t.0 h) ∙ t.2 in
            let low : code at (letter_truth (i + o) (spelt t.0 (i + o))) < bound = let b = d.0 in omega arith in
            let there = (codes at a h less).1 low in
            let k = code_below bound (rank (m.next at a)) (least at (letter_truth (i + o) (letter_with o x 0))) (sym ((codes at a h less).0 there) ∙ is) d.0 in
            let won = rank_in (environment_first i o) duty m rank r n (m.next at a) there (rw k d.1) in (
              a % 2 ^ o,
              second_less o a,
              λ c f l.
                  subst (λ z. WinsWithin (locations (environment_first i o) duty m) n (m.next at z)) (sym (same_letter o c a (f.decision ∙ sym first) f.output)) won,
            ),
      )

  -- the least is one for all letters with one input
  pub folded_same : (at a c : ℕ) → at < m.size → a / 2 ^ o ≡ c / 2 ^ o → least at (letter_truth (i + o) a) ≡ least at (letter_truth (i + o) c)
  folded_same at a c h e =
      let x = extreme at (letter_truth (i + o) a) h in
      let y = extreme at (letter_truth (i + o) c) h in
      let p : least at (letter_truth (i + o) a) ≤ code at y.taken.0 = x.bounds y.taken.0 (λ v l. y.taken.1 v l ∙ same_outside i o a c e v l) in
      let q : least at (letter_truth (i + o) c) ≤ code at x.taken.0 = y.bounds x.taken.0 (λ v l. x.taken.1 v l ∙ same_outside i o c a (sym e) v l) in
      let s = y.taken.2 in
      let t = x.taken.2 in
      omega arith

before_out : (n : ℕ) (v : Option ℕ) → IsWithin (suc n) v → IsWithin n (before v)
before_out n None w = w
before_out n (Some zero) w = omega arith
before_out n (Some (suc k)) w = omega arith

before_in : (n : ℕ) (v : Option ℕ) → IsWithin n (before v) → IsWithin (suc n) v
before_in n None w = w
before_in n (Some zero) w = omega arith
before_in n (Some (suc k)) w = omega arith

-- agent first, the one decision's winning number is one less than the rank; a goal leads to itself
pub ranked_won : (i o : ℕ) (duty : Bool) (m : Locations) (rank : ℕ → Option ℕ) → AreRanks (agent_first i o) duty m rank
    → ((at a : ℕ) → at < m.size → m.is_goal at ≡ true → a < 2 ^ (i + o) → m.next at a ≡ at) → AreWon (agent_first i o) duty m (λ at x. before (rank at))
ranked_won i o duty m rank r loops at x n h d = (
  λ p. before_out n (rank at) (rank_out (agent_first i o) duty m rank r (suc n) at h (inr (λ x' e. subst (λ z. DecisionWinsWithin (locations (agent_first i o) duty m) (suc n) at z) (d ∙ sym e) p))),
  λ w. elim (rank_in (agent_first i o) duty m rank r (suc n) at h (before_in n (rank at) w)) [
    | inl e ↦ (
      0,
      pow_pos o,
      λ a q l.
          subst (λ z. WinsWithin (locations (agent_first i o) duty m) n z) (sym (loops at a h e q.letter)) (met_wins (locations (agent_first i o) duty m) n at e),
    )
    | inr f ↦ f x d
  ],
)
