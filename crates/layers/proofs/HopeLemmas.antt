-- Winning numbers and hopes by the rows' trees are those of decisions.
use Rattle.std.proofs.Common.{◌≡◌, ℕ, suc, ◌<◌, ◌≤◌, ◌^◌, ◌+◌, ◌/◌, ◌%◌, inl, inr, refl, sym, ◌∙◌, ap, subst, arith, Bool, true, if◌then◌else◌, Option, Some, None}
use Rattle.std.specs.Prelude.{◌↔◌, not}
use Rattle.std.proofs.lemmas.Bool.{cases_lt}
use Rattle.diagrams.specs.Tree.{Tree, value_at}
use Rattle.diagrams.specs.Eval.{letter_truth}
use Rattle.diagrams.proofs.Windows.{starts_zero}
use Rattle.automata.proofs.Letters.{spelt, spelt-less, spelt-truth}
use Rattle.game.specs.Board.{output_of}
use Rattle.forms.specs.declared.partition.Partition.{Partition}
use Rattle.forms.specs.declared.partition.Mover.{Mover}
use Rattle.forms.specs.declared.partition.Mover.TheVariants.{Agent, Environment}
use Rattle.game.specs.Winning.{WinsWithin, DecisionWinsWithin}
use Rattle.game.specs.Arena.{Locations, locations, IsDecisionThere}
use Rattle.attractor.specs.Minimax.{IsWithin, later, minimax}
use Rattle.layers.specs.Ranked.{AreRanks, GoesByInput}
use Rattle.layers.specs.Layers.{is_output, IsRowTree}
use Rattle.layers.specs.Decisions.{restricted, decided_before, decision_tree, everywhere, hope, least_below, won_by, illegal_rank}
use Rattle.layers.specs.Distances.{AreWon, HopesWithin, AreHoped}
use Rattle.layers.proofs.Layers.{wins_lasts}
use Rattle.layers.proofs.Least.{within_from, holds_from}
use Rattle.layers.proofs.MinimaxLemmas.{minimax_settles, settles_minimax}
use Rattle.layers.proofs.Choices.{some_out, some_in}
use Rattle.layers.proofs.LetterParts.{value_below, at_letter}
use Rattle.layers.proofs.Rounds.{IsTarget, agent_first, environment_first, agent_forces, beyond, letter_with, letter_first, letter_second, letter_less, second_less, same_letter}
use Rattle.layers.proofs.Solved.{at_terminals, settles_map, solved_zero, solved_suc}
use Rattle.layers.proofs.DecisionLemmas.{restricted_none, restricted_same, least_out, least_in, first_out, first_in, second_in, second_out}
use Rattle.game.proofs.Rounds.{output_small}

-- a target within a number is a location where the size has none
pub location_within : (m : Locations) (value : ℕ → Option ℕ) (n z : ℕ) → value m.size ≡ None → z ≤ m.size → IsWithin n (value z) → z < m.size
location_within m value n z e l w = elim (cases_lt z m.size) [
  | inl h ↦ h
  | inr h ↦ let q : z ≡ m.size = omega arith in absurd (subst (IsWithin n) (ap value q ∙ e) w)
]

module _ (s : Partition) (duty : Bool) (m : Locations) (rank : ℕ → Option ℕ) (r : AreRanks s duty m rank) where
  pub rank_out : (n k : ℕ) → k < m.size → WinsWithin (locations s duty m) n k → IsWithin n (rank k)
  rank_out n k h w = within_from (λ j. WinsWithin (locations s duty m) j k) (rank k) (r k h) n w

  pub rank_in : (n k : ℕ) → k < m.size → IsWithin n (rank k) → WinsWithin (locations s duty m) n k
  rank_in n k h w = holds_from (λ j. WinsWithin (locations s duty m) j k) (wins_lasts (locations s duty m) k) (rank k) (r k h) n w

module _ (i o : ℕ) (duty : Bool) (m : Locations) (row : ℕ → Tree) (rows : (at : ℕ) → at < m.size → IsRowTree (agent_first i o) m at (row at))
    (rank : ℕ → Option ℕ) (r : AreRanks (agent_first i o) duty m rank) (end : rank m.size ≡ Some 0) where
  agent_won : AreWon (agent_first i o) duty m (won_by (agent_first i o) rank row)
  agent_won at x n h d =
      let t = row at in
      let f = agent_forces i o duty m at (row at) (rows at h) (WinsWithin (locations (agent_first i o) duty m) n) in
      let inside = at_terminals (agent_first i o) m at (row at) (rows at h) (λ z. z ≤ m.size) (rows at h).targets in
      let out : (z : ℕ) → z ≤ m.size → IsTarget m (WinsWithin (locations (agent_first i o) duty m) n) z → IsWithin n (rank z) = λ z l w.
      elim (cases_lt z m.size) [
        | inl k ↦ rank_out (agent_first i o) duty m rank r n z k (w k)
        | inr k ↦ let q : z ≡ m.size = omega arith in subst (IsWithin n) (sym (ap rank q ∙ end)) (omega arith)
      ] in
      let back : (z : ℕ) → z ≤ m.size → IsWithin n (rank z) → IsTarget m (WinsWithin (locations (agent_first i o) duty m) n) z = λ z l w k. rank_in (agent_first i o) duty m rank r n z k w in
      let same : minimax (is_output (agent_first i o)) rank (row at) ≡ won_by (agent_first i o) rank row at x = ap (minimax (is_output (agent_first i o)) rank) (sym (restricted_none (letter_truth i x) (row at))) in (
        λ p. subst (IsWithin n) same (settles_minimax n (is_output (agent_first i o)) rank t
            (settles_map (is_output (agent_first i o)) (λ z. z ≤ m.size) (IsTarget m (WinsWithin (locations (agent_first i o) duty m) n)) (λ z. IsWithin n (rank z)) out t inside
            (f.0 (λ x' e. subst (λ z. DecisionWinsWithin (locations (agent_first i o) duty m) (suc n) at z) (d ∙ sym e) p)))),
        λ w. f.1 (settles_map (is_output (agent_first i o)) (λ z. z ≤ m.size) (λ z. IsWithin n (rank z)) (IsTarget m (WinsWithin (locations (agent_first i o) duty m) n)) back t inside
            (minimax_settles n (is_output (agent_first i o)) rank t (subst (IsWithin n) (sym same) w))) x d,
      )

  module _ (distance : ℕ → Option ℕ) (none : distance m.size ≡ None) where
    agent_hope_out : (at n : ℕ) → at < m.size → IsWithin n (least_below 0 (hope (agent_first i o) rank distance) (row at))
        → (x : ℕ) × IsDecisionThere (agent_first i o) m at x × HopesWithin (agent_first i o) duty m (won_by (agent_first i o) rank row) distance n at x
    agent_hope_out at n h w =
        let p = least_out 0 n (hope (agent_first i o) rank distance) (row at) (rows at h).reduced w in
        let same : restricted 0 p.0 (row at) ≡ decision_tree (agent_first i o) (row at) 0 = restricted_none p.0 (row at) ∙ sym (restricted_none (letter_truth i 0) (row at)) in
        let q = subst (λ t. IsWithin n (hope (agent_first i o) rank distance t)) same p.1 in (
          0,
          refl,
          elim (first_out n (won_by (agent_first i o) rank row at 0) (minimax everywhere distance (decision_tree (agent_first i o) (row at) 0)) q) [
            | inl z ↦ inl z
            | inr z ↦
                let t = row at in
                let v = subst (λ u. IsWithin n (minimax everywhere distance u)) (restricted_none (letter_truth i 0) (row at)) z.1 in
                let c = some_out (λ k. IsWithin n (distance k)) everywhere 0 (λ k l. refl) t (rows at h).reduced (starts_zero t) (minimax_settles n everywhere distance t v) in
                let a = spelt c.0 (i + o) in
                let less = spelt-less c.0 (i + o) in
                let next : value_at (row at) c.0 ≡ m.next at (spelt c.0 (i + o)) =
                value_below (i + o) t (rows at h).vars c.0 (letter_truth (i + o) a) (λ k l. sym (spelt-truth c.0 (i + o) k l)) ∙ sym ((rows at h).next a less) in
                let y = subst (λ k. IsWithin n (distance k)) next c.1 in
                inr (
                  z.0,
                  output_of (agent_first i o) a,
                  output_small (agent_first i o) a less,
                  (a, record { letter = less; decision = refl; output = refl }, location_within m distance n (m.next at a) none ((rows at h).targets a less) y, y),
                )
          ],
        )

    agent_hope_in : (at n : ℕ) → at < m.size → (x : ℕ) × IsDecisionThere (agent_first i o) m at x × HopesWithin (agent_first i o) duty m (won_by (agent_first i o) rank row) distance n at x
        → IsWithin n (least_below 0 (hope (agent_first i o) rank distance) (row at))
    agent_hope_in at n h (x, d, inl w) = least_in 0 n (hope (agent_first i o) rank distance) (row at) (letter_truth i x) (first_in n (won_by (agent_first i o) rank row at x) _ (inl w))
    agent_hope_in at n h (x, d, inr (e, y, q, (a, f, l, w))) =
        let t = row at in
        let v = some_in (λ k. IsWithin n (distance k)) everywhere 0 (λ k z. refl) t (rows at h).reduced (starts_zero t) (letter_truth (i + o) a)
        (subst (λ k. IsWithin n (distance k)) ((rows at h).next a f.letter) w) in
        let u : IsWithin n (minimax everywhere distance (decision_tree (agent_first i o) (row at) x)) =
        subst (λ g. IsWithin n (minimax everywhere distance g)) (sym (restricted_none (letter_truth i x) (row at))) (settles_minimax n everywhere distance t v) in
        least_in 0 n (hope (agent_first i o) rank distance) (row at) (letter_truth i x) (first_in n (won_by (agent_first i o) rank row at x) _ (inr (e, u)))

module _ (i o : ℕ) (duty : Bool) (m : Locations) (row : ℕ → Tree) (rows : (at : ℕ) → at < m.size → IsRowTree (environment_first i o) m at (row at))
    (even : GoesByInput (environment_first i o) m) (rank : ℕ → Option ℕ) (r : AreRanks (environment_first i o) duty m rank) (end : rank m.size ≡ None) where
  outputs_side : (v : ℕ) → i ≤ v → is_output (environment_first i o) v ≡ true
  outputs_side v h = ap not (beyond i v h)

  next_value : (at a : ℕ) (h : at < m.size) → a < 2 ^ (i + o) → m.next at a ≡ at_letter i o (row at) a
  next_value at a h l = (rows at h).next a l

  env_won : AreWon (environment_first i o) duty m (won_by (environment_first i o) rank row)
  env_won at x n h (small, legal) = (
    λ p.
        let a = letter_with o x p.0 in
        let less = letter_less i o x p.0 small p.1 in
        let first = letter_first o x p.0 p.1 in
        let there = legal a less first in
        let w = rank_out (environment_first i o) duty m rank r n (m.next at a) there (p.2 a (record { letter = less; decision = first; output = letter_second o x p.0 p.1 }) there) in
        settles_minimax n (is_output (environment_first i o)) rank (decision_tree (environment_first i o) (row at) x)
        (second_in (λ z. IsWithin n (rank z)) (is_output (environment_first i o)) i o (row at) (rows at h).reduced (rows at h).vars outputs_side x small a first (subst (λ z. IsWithin n (rank z)) (next_value at a h less) w)),
    λ w.
        let q = second_out (λ z. IsWithin n (rank z)) (is_output (environment_first i o)) i o (row at) (rows at h).reduced (rows at h).vars outputs_side x small
        (minimax_settles n (is_output (environment_first i o)) rank (decision_tree (environment_first i o) (row at) x) w) in
        let there = legal q.0 q.1 q.2 in
        let won = rank_in (environment_first i o) duty m rank r n (m.next at q.0) there (subst (λ z. IsWithin n (rank z)) (sym (next_value at q.0 h q.1)) q.3) in (
          q.0 % 2 ^ o,
          second_less o q.0,
          λ a f l.
              subst (λ c. WinsWithin (locations (environment_first i o) duty m) n (m.next at c)) (sym (same_letter o a q.0 (f.decision ∙ sym q.2) f.output)) won,
        ),
  )

  module _ (distance : ℕ → Option ℕ) (none : distance m.size ≡ None) where
    -- a letter to a location makes its input a decision
    decides : (at a x : ℕ) → at < m.size → x < 2 ^ i → a < 2 ^ (i + o) → a / 2 ^ o ≡ x → m.next at a < m.size → IsDecisionThere (environment_first i o) m at x
    decides at a x h small l e g = (small, λ c k f. even at a c h l k (e ∙ sym f) g)

    env_hope_out : (at n : ℕ) → at < m.size → IsWithin n (least_below i (hope (environment_first i o) rank distance) (row at))
        → (x : ℕ) × IsDecisionThere (environment_first i o) m at x × HopesWithin (environment_first i o) duty m (won_by (environment_first i o) rank row) distance n at x
    env_hope_out at n h w =
        let p = least_out i n (hope (environment_first i o) rank distance) (row at) (rows at h).reduced w in
        let x = spelt p.0 i in
        let small = spelt-less p.0 i in
        let same : restricted i p.0 (row at) ≡ decision_tree (environment_first i o) (row at) (spelt p.0 i) = restricted_same i p.0 (letter_truth i (spelt p.0 i)) (row at) (λ u l. sym (spelt-truth p.0 i u l)) in
        let q = subst (λ t. IsWithin n (hope (environment_first i o) rank distance t)) same p.1 in
        elim (first_out n (won_by (environment_first i o) rank row at x) (minimax everywhere distance (decision_tree (environment_first i o) (row at) x)) q) [
          | inl z ↦
              let c = second_out (λ k. IsWithin n (rank k)) (is_output (environment_first i o)) i o (row at) (rows at h).reduced (rows at h).vars outputs_side x small
              (minimax_settles n (is_output (environment_first i o)) rank (decision_tree (environment_first i o) (row at) x) z) in
              let y = subst (λ k. IsWithin n (rank k)) (sym (next_value at c.0 h c.1)) c.3 in
              let there = location_within m rank n (m.next at c.0) end ((rows at h).targets c.0 c.1) y in
              (x, decides at c.0 x h small c.1 c.2 there, inl z)
          | inr z ↦
              let c = second_out (λ k. IsWithin n (distance k)) everywhere i o (row at) (rows at h).reduced (rows at h).vars (λ k l. refl) x small
              (minimax_settles n everywhere distance (decision_tree (environment_first i o) (row at) x) z.1) in
              let y = subst (λ k. IsWithin n (distance k)) (sym (next_value at c.0 h c.1)) c.3 in
              let there = location_within m distance n (m.next at c.0) none ((rows at h).targets c.0 c.1) y in (
                x,
                decides at c.0 x h small c.1 c.2 there,
                inr (z.0, c.0 % 2 ^ o, second_less o c.0, (c.0, record { letter = c.1; decision = c.2; output = refl }, there, y)),
              )
        ]

    env_hope_in : (at n : ℕ) → at < m.size → (x : ℕ) × IsDecisionThere (environment_first i o) m at x × HopesWithin (environment_first i o) duty m (won_by (environment_first i o) rank row) distance n at x
        → IsWithin n (least_below i (hope (environment_first i o) rank distance) (row at))
    env_hope_in at n h (x, d, inl w) = least_in i n (hope (environment_first i o) rank distance) (row at) (letter_truth i x) (first_in n (won_by (environment_first i o) rank row at x) _ (inl w))
    env_hope_in at n h (x, (small, legal), inr (e, y, q, (a, f, l, w))) =
        let v = second_in (λ k. IsWithin n (distance k)) everywhere i o (row at) (rows at h).reduced (rows at h).vars (λ k z. refl) x small a f.decision
        (subst (λ k. IsWithin n (distance k)) (next_value at a h f.letter) w) in
        least_in i n (hope (environment_first i o) rank distance) (row at) (letter_truth i x)
        (first_in n (won_by (environment_first i o) rank row at x) _ (inr (e, settles_minimax n everywhere distance (decision_tree (environment_first i o) (row at) x) v)))

-- the winning numbers by the trees are those of the decisions
pub rows_won : (s : Partition) (duty : Bool) (m : Locations) (row : ℕ → Tree) → ((at : ℕ) → at < m.size → IsRowTree s m at (row at)) → GoesByInput s m
    → (rank : ℕ → Option ℕ) → AreRanks s duty m rank → rank m.size ≡ illegal_rank s → AreWon s duty m (won_by s rank row)
rows_won s duty m row rows even rank r end = by_mover s.first s.inputs s.outputs rows even r end
  where
    by_mover : (f : Mover) (i o : ℕ) → ((at : ℕ) → at < m.size → IsRowTree (record { first = f; inputs = i; outputs = o }) m at (row at)) → GoesByInput (record { first = f; inputs = i; outputs = o }) m
        → AreRanks (record { first = f; inputs = i; outputs = o }) duty m rank → rank m.size ≡ illegal_rank (record { first = f; inputs = i; outputs = o })
        → AreWon (record { first = f; inputs = i; outputs = o }) duty m (won_by (record { first = f; inputs = i; outputs = o }) rank row)
    by_mover Agent i o rows even r end = agent_won i o duty m row rows rank r end
    by_mover Environment i o rows even r end = env_won i o duty m row rows even rank r end

-- distances that solve the equation over the trees are hoped for
pub rows_hoped : (s : Partition) (duty : Bool) (m : Locations) (row : ℕ → Tree) → ((at : ℕ) → at < m.size → IsRowTree s m at (row at)) → GoesByInput s m
    → (rank : ℕ → Option ℕ) → AreRanks s duty m rank → rank m.size ≡ illegal_rank s → (distance : ℕ → Option ℕ) → distance m.size ≡ None
    → ((at : ℕ) → at < m.size → distance at ≡ (if m.is_goal at then Some 0 else later (least_below (decided_before s) (hope s rank distance) (row at))))
    → AreHoped s duty m (won_by s rank row) distance
rows_hoped s duty m row rows even rank r end distance none solved = record {
  first = λ at h. solved_zero (m.is_goal at) (least_below (decided_before s) (hope s rank distance) (row at)) (distance at) (solved at h);
  later = λ at n h.
      let q = solved_suc n (m.is_goal at) (least_below (decided_before s) (hope s rank distance) (row at)) (distance at) (solved at h) in
      let e = by_mover s.first s.inputs s.outputs rows even r end at n h in
      (λ w. q.0 (elim w [ inl z ↦ inl z | inr z ↦ inr (e.0 z) ]), λ w. elim (q.1 w) [ inl z ↦ inl z | inr z ↦ inr (e.1 z) ]);
}
  where
    by_mover : (f : Mover) (i o : ℕ) → ((at : ℕ) → at < m.size → IsRowTree (record { first = f; inputs = i; outputs = o }) m at (row at)) → GoesByInput (record { first = f; inputs = i; outputs = o }) m
        → AreRanks (record { first = f; inputs = i; outputs = o }) duty m rank → rank m.size ≡ illegal_rank (record { first = f; inputs = i; outputs = o }) → (at n : ℕ) → at < m.size
        → ((x : ℕ) × IsDecisionThere (record { first = f; inputs = i; outputs = o }) m at x
        × HopesWithin (record { first = f; inputs = i; outputs = o }) duty m (won_by (record { first = f; inputs = i; outputs = o }) rank row) distance n at x)
        ↔ IsWithin n (least_below (decided_before (record { first = f; inputs = i; outputs = o })) (hope (record { first = f; inputs = i; outputs = o }) rank distance) (row at))
    by_mover Agent i o rows even r end at n h = (agent_hope_in i o duty m row rows rank r end distance none at n h, agent_hope_out i o duty m row rows rank r end distance none at n h)
    by_mover Environment i o rows even r end at n h =
        (env_hope_in i o duty m row rows even rank r end distance none at n h, env_hope_out i o duty m row rows even rank r end distance none at n h)
