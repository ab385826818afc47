-- Distances by rows in which decisions that can be won lead to their numbers.
use Rattle.std.proofs.Common.{◌≡◌, ℕ, suc, ◌<◌, ◌^◌, ◌+◌, inl, inr, refl, sym, ◌∙◌, ap, subst, Bool, Option, Some, None}
use Rattle.std.proofs.lemmas.Nat.{pow_pos}
use Rattle.diagrams.specs.Tree.{Tree, value_at, IsReduced, AllVars}
use Rattle.diagrams.specs.Eval.{letter_truth}
use Rattle.diagrams.proofs.Windows.{starts_zero}
use Rattle.automata.proofs.Letters.{spelt, spelt-less, spelt-truth}
use Rattle.game.specs.Board.{width, decision_of, output_of}
use Rattle.forms.specs.declared.partition.Partition.{Partition}
use Rattle.forms.specs.declared.partition.Mover.{Mover}
use Rattle.forms.specs.declared.partition.Mover.TheVariants.{Agent, Environment}
use Rattle.game.specs.Arena.{Locations, IsDecisionThere}
use Rattle.attractor.specs.Minimax.{IsWithin, minimax, IsSolved}
use Rattle.layers.specs.Ranked.{GoesByInput}
use Rattle.layers.specs.Decisions.{everywhere}
use Rattle.layers.specs.Distances.{HopesWithin, AreHoped, IsReplaced}
use Rattle.attractor.proofs.SettlingLemmas.{option_cases}
use Rattle.layers.proofs.MinimaxLemmas.{minimax_settles, settles_minimax}
use Rattle.layers.proofs.Choices.{some_out, some_in}
use Rattle.layers.proofs.LetterParts.{value_below}
use Rattle.layers.proofs.Rounds.{letter_with, letter_first, letter_less}
use Rattle.layers.proofs.Solved.{solved_zero, solved_suc}
use Rattle.layers.proofs.DistanceLemmas.{decision_there}
use Rattle.game.proofs.Rounds.{output_small}
use Rattle.layers.proofs.HopeLemmas.{location_within}

-- the least everywhere is within n exactly where the value at some letter is
pub everywhere_out : (p n : ℕ) (value : ℕ → Option ℕ) (t : Tree) → IsReduced t → AllVars (λ v. v < p) t → IsWithin n (minimax everywhere value t)
    → (a : ℕ) × (a < 2 ^ p) × IsWithin n (value (value_at t (letter_truth p a)))
everywhere_out p n value t red vars w =
    let c = some_out (λ x. IsWithin n (value x)) everywhere 0 (λ v h. refl) t red (starts_zero t) (minimax_settles n everywhere value t w) in
    (spelt c.0 p, spelt-less c.0 p, subst (λ x. IsWithin n (value x)) (value_below p t vars c.0 (letter_truth p (spelt c.0 p)) (λ i h. sym (spelt-truth c.0 p i h))) c.1)

pub everywhere_in : (p n : ℕ) (value : ℕ → Option ℕ) (t : Tree) → IsReduced t → (a : ℕ) → IsWithin n (value (value_at t (letter_truth p a))) → IsWithin n (minimax everywhere value t)
everywhere_in p n value t red a w = settles_minimax n everywhere value t (some_in (λ x. IsWithin n (value x)) everywhere 0 (λ v h. refl) t red (starts_zero t) (letter_truth p a) w)

-- each decision has a letter
letter_of : (f : Mover) (i o : ℕ) (m : Locations) (at x : ℕ) → IsDecisionThere (record { first = f; inputs = i; outputs = o }) m at x
    → (a : ℕ) × (a < 2 ^ (i + o)) × (decision_of (record { first = f; inputs = i; outputs = o }) a ≡ x)
letter_of Agent i o m at x d = (0, pow_pos (i + o), sym d)
letter_of Environment i o m at x (h, legal) = (letter_with o x 0, letter_less i o x 0 h (pow_pos o), letter_first o x 0 (pow_pos o))

module _ (s : Partition) (duty : Bool) (m : Locations) (even : GoesByInput s m) (won : ℕ → ℕ → Option ℕ) (row : ℕ → Tree)
    (rows : (at : ℕ) → at < m.size → IsReplaced s m won at (row at)) (value : ℕ → Option ℕ) (none : value m.size ≡ None)
    (numbers : (at x k : ℕ) → at < m.size → won at x ≡ Some k → value (suc m.size + k) ≡ Some k) where
  hoped_out : (at n : ℕ) → at < m.size → IsWithin n (minimax everywhere value (row at)) → (x : ℕ) × IsDecisionThere s m at x × HopesWithin s duty m won value n at x
  hoped_out at n h w =
      let t = rows at h in
      let c = everywhere_out (width s) n value (row at) t.reduced t.vars w in
      let a = c.0 in
      let x = decision_of s c.0 in
      elim (option_cases (won at (decision_of s c.0))) [
        | inl e ↦
            let v = subst (λ z. IsWithin n (value z)) (t.other a c.1 e) c.2 in
            let there = location_within m value n (m.next at a) none (t.targets a c.1) v in (
              x,
              decision_there s.first s.inputs s.outputs m at a h even c.1 there,
              inr (e, output_of s a, output_small s a c.1, (a, record { letter = c.1; decision = refl; output = refl }, there, v)),
            )
        | inr e ↦
            let v = subst (IsWithin n) (ap value (t.number a e.0 c.1 e.1) ∙ numbers at x e.0 h e.1) c.2 in
            (x, t.decides a e.0 c.1 e.1, inl (subst (IsWithin n) (sym e.1) v))
      ]

  hoped_in : (at n : ℕ) → at < m.size → (x : ℕ) × IsDecisionThere s m at x × HopesWithin s duty m won value n at x → IsWithin n (minimax everywhere value (row at))
  hoped_in at n h (x, d, inl w) =
      let t = rows at h in
      let c = letter_of s.first s.inputs s.outputs m at x d in
      elim (option_cases (won at x)) [
        | inl e ↦ absurd (subst (IsWithin n) e w)
        | inr e ↦
            let f : won at (decision_of s c.0) ≡ Some e.0 = ap (won at) c.2 ∙ e.1 in
            everywhere_in (width s) n value (row at) t.reduced c.0
            (subst (IsWithin n) (e.1 ∙ sym (ap value (t.number c.0 e.0 c.1 f) ∙ numbers at x e.0 h e.1)) w)
      ]
  hoped_in at n h (x, d, inr (e, y, o, (a, r, l, w))) =
      let t = rows at h in
      let f : won at (decision_of s a) ≡ None = ap (won at) r.decision ∙ e in
      everywhere_in (width s) n value (row at) t.reduced a (subst (λ z. IsWithin n (value z)) (sym (t.other a r.letter f)) w)

  -- numbers that solve the equation over these rows, the lesser everywhere, are hoped for
  pub replaced_hoped : ((at : ℕ) → at < m.size → IsSolved m.is_goal everywhere row value at) → AreHoped s duty m won value
  replaced_hoped solved = record {
    first = λ at h. solved_zero (m.is_goal at) (minimax everywhere value (row at)) (value at) (solved at h);
    later = λ at n h.
        let q = solved_suc n (m.is_goal at) (minimax everywhere value (row at)) (value at) (solved at h) in
        (λ w. q.0 (elim w [ inl z ↦ inl z | inr z ↦ inr (hoped_in at n h z) ]), λ w. elim (q.1 w) [ inl z ↦ inl z | inr z ↦ inr (hoped_out at n h z) ]);
  }
