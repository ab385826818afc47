-- Numbers that solve the equation of layers are the least numbers.
use Rattle.std.proofs.Common.{◌≡◌, ℕ, zero, suc, ◌<◌, ◌≤◌, ◌^◌, ◌⊎◌, inl, inr, refl, sym, ◌∙◌, ap, subst, arith, Bool, true, false, if◌then◌else◌, Option, Some, None}
use Rattle.std.specs.Prelude.{◌↔◌}
use Rattle.std.proofs.lemmas.Bool.{cases_lt}
use Rattle.diagrams.specs.Tree.{Tree, Constant, Branch, value_at}
use Rattle.diagrams.specs.Eval.{letter_truth}
use Rattle.diagrams.proofs.Windows.{starts_zero}
use Rattle.automata.proofs.Letters.{spelt, spelt-less, spelt-truth}
use Rattle.game.specs.Board.{width}
use Rattle.forms.specs.declared.partition.Partition.{Partition}
use Rattle.game.specs.Winning.{WinsWithin, FailsDutyWithin}
use Rattle.game.specs.Arena.{Locations, locations}
use Rattle.attractor.specs.Minimax.{IsWithin, later, minimax, IsSolved}
use Rattle.game.specs.Numbers.{IsLeastOrNone}
use Rattle.layers.specs.Ranked.{AreRanks, GoesByInput}
use Rattle.layers.specs.Settles.{Settles}
use Rattle.layers.specs.Layers.{is_output, IsRowTree}
use Rattle.layers.proofs.Least.{least_from}
use Rattle.layers.proofs.MinimaxLemmas.{joined_map, other, minimax_settles, settles_minimax}
use Rattle.layers.proofs.Choices.{each_in}
use Rattle.layers.proofs.LetterParts.{value_below}
use Rattle.layers.proofs.Rounds.{IsTarget, IsSomeTarget, forces_row, breaks_row}

-- the side that chooses nowhere
abbrev pub nowhere : ℕ → Bool
nowhere v = false

-- what holds at each letter's target holds at each terminal of the row
pub at_terminals : (s : Partition) (m : Locations) (at : ℕ) (t : Tree) → IsRowTree s m at t → (A : ℕ → Type 0) → ((a : ℕ) → a < 2 ^ width s → A (m.next at a)) → Settles nowhere A t
at_terminals s m at t row A f =
    each_in A nowhere 0 (λ v h. refl) t row.reduced (starts_zero t) (λ c.
    let p = width s in
    let less = spelt-less c p in
    let same : m.next at (spelt c p) ≡ value_at t c = row.next (spelt c p) less ∙ value_below p t row.vars (letter_truth p (spelt c p)) c (λ i h. spelt-truth c p i h) in
    subst A same (f (spelt c p) less))

-- what follows at each terminal follows of what is settled
pub settles_map : (side : ℕ → Bool) (A Q R : ℕ → Type 0) → ((x : ℕ) → A x → Q x → R x) → (t : Tree) → Settles nowhere A t → Settles side Q t → Settles side R t
settles_map side A Q R f (Constant x) a w = f x a w
settles_map side A Q R f (Branch v lo hi) a w = joined_map (side v) _ _ _ _ (settles_map side A Q R f lo a.0) (settles_map side A Q R f hi a.1) w

later_within : (n : ℕ) (v : Option ℕ) → IsWithin (suc n) (later v) → IsWithin n v
later_within n None w = w
later_within n (Some k) w = omega arith

within_later : (n : ℕ) (v : Option ℕ) → IsWithin n v → IsWithin (suc n) (later v)
within_later n None w = w
within_later n (Some k) w = omega arith

later_first : (v : Option ℕ) → ¬ IsWithin zero (later v)
later_first None w = w
later_first (Some k) w = absurd (omega arith)

-- within no further round only what is in the first layer is
pub solved_zero : (b : Bool) (u v : Option ℕ) → v ≡ (if b then Some 0 else later u) → (b ≡ true) ↔ IsWithin zero v
solved_zero true u v e = (λ q. rw e (omega arith), λ w. refl)
solved_zero false u v e = (λ q. absurd (cc), λ w. absurd (later_first u (subst (IsWithin zero) e w)))

-- within one round more what is in the first layer is, and what one round leads from
pub solved_suc : (n : ℕ) (b : Bool) (u v : Option ℕ) → v ≡ (if b then Some 0 else later u) → ((b ≡ true) ⊎ IsWithin n u) ↔ IsWithin (suc n) v
solved_suc n true u v e = (λ q. rw e (omega arith), λ w. inl refl)
solved_suc n false u v e = (
  λ q. elim q [ inl z ↦ absurd (cc) | inr z ↦ subst (IsWithin (suc n)) (sym e) (within_later n u z) ],
  λ w. inr (later_within n u (subst (IsWithin (suc n)) e w)),
)

module _ (s : Partition) (duty : Bool) (m : Locations) (row : ℕ → Tree) (rows : (at : ℕ) → at < m.size → IsRowTree s m at (row at)) (even : GoesByInput s m) where
  -- a target is a location or the size
  target_cases : (at : ℕ) → at < m.size → Settles nowhere (λ x. x ≤ m.size) (row at)
  target_cases at h = at_terminals s m at (row at) (rows at h) (λ x. x ≤ m.size) (rows at h).targets

  module _ (value : ℕ → Option ℕ) (end : value m.size ≡ Some 0) (solved : (at : ℕ) → at < m.size → IsSolved m.is_goal (is_output s) row value at) where
    wins_within : (n at : ℕ) → at < m.size → WinsWithin (locations s duty m) n at ↔ IsWithin n (value at)
    wins_within zero at h = solved_zero (m.is_goal at) (minimax (is_output s) value (row at)) (value at) (solved at h)
    wins_within (suc n) at h =
        let q = solved_suc n (m.is_goal at) (minimax (is_output s) value (row at)) (value at) (solved at h) in
        let f = forces_row s duty m at (row at) h (rows at h) even (WinsWithin (locations s duty m) n) in
        let out : (x : ℕ) → x ≤ m.size → IsTarget m (WinsWithin (locations s duty m) n) x → IsWithin n (value x) = λ x l w.
        elim (cases_lt x m.size) [
          | inl k ↦ (wins_within n x k).0 (w k)
          | inr k ↦ let z : x ≡ m.size = omega arith in subst (IsWithin n) (sym (ap value z ∙ end)) (omega arith)
        ] in
        let back : (x : ℕ) → x ≤ m.size → IsWithin n (value x) → IsTarget m (WinsWithin (locations s duty m) n) x = λ x l w k. (wins_within n x k).1 w in (
          λ w. q.0 (elim w [
            | inl e ↦ inl e
            | inr g ↦ inr (settles_minimax n (is_output s) value (row at)
                (settles_map (is_output s) (λ x. x ≤ m.size) (IsTarget m (WinsWithin (locations s duty m) n)) (λ x. IsWithin n (value x)) out (row at) (target_cases at h) (f.0 g)))
          ]),
          λ w. elim (q.1 w) [
            | inl e ↦ inl e
            | inr g ↦ inr (f.1
                (settles_map (is_output s) (λ x. x ≤ m.size) (λ x. IsWithin n (value x)) (IsTarget m (WinsWithin (locations s duty m) n)) back (row at) (target_cases at h)
                (minimax_settles n (is_output s) value (row at) g)))
          ],
        )

    -- numbers that solve the agent's equation are the ranks
    pub solved_ranks : AreRanks s duty m value
    solved_ranks at h = least_from (λ n. WinsWithin (locations s duty m) n at) (value at) (λ n. (wins_within n at h).0) (λ n. (wins_within n at h).1)

  module _ (value : ℕ → Option ℕ) (end : value m.size ≡ None) (solved : (at : ℕ) → at < m.size → IsSolved m.is_broken (other (is_output s)) row value at) where
    fails_within : (n at : ℕ) → at < m.size → FailsDutyWithin (locations s duty m) n at ↔ IsWithin n (value at)
    fails_within zero at h = solved_zero (m.is_broken at) (minimax (other (is_output s)) value (row at)) (value at) (solved at h)
    fails_within (suc n) at h =
        let q = solved_suc n (m.is_broken at) (minimax (other (is_output s)) value (row at)) (value at) (solved at h) in
        let f = breaks_row s duty m at (row at) h (rows at h) even (FailsDutyWithin (locations s duty m) n) in
        let out : (x : ℕ) → x ≤ m.size → IsSomeTarget m (FailsDutyWithin (locations s duty m) n) x → IsWithin n (value x) = λ x l w. (fails_within n x w.0).0 w.1 in
        let back : (x : ℕ) → x ≤ m.size → IsWithin n (value x) → IsSomeTarget m (FailsDutyWithin (locations s duty m) n) x = λ x l w.
        elim (cases_lt x m.size) [
          | inl k ↦ (k, (fails_within n x k).1 w)
          | inr k ↦ let z : x ≡ m.size = omega arith in absurd (subst (IsWithin n) (ap value z ∙ end) w)
        ] in (
          λ w. q.0 (elim w [
            | inl e ↦ inl e
            | inr g ↦ inr (settles_minimax n (other (is_output s)) value (row at)
                (settles_map (other (is_output s)) (λ x. x ≤ m.size) (IsSomeTarget m (FailsDutyWithin (locations s duty m) n)) (λ x. IsWithin n (value x)) out (row at) (target_cases at h) (f.0 g)))
          ]),
          λ w. elim (q.1 w) [
            | inl e ↦ inl e
            | inr g ↦ inr (f.1
                (settles_map (other (is_output s)) (λ x. x ≤ m.size) (λ x. IsWithin n (value x)) (IsSomeTarget m (FailsDutyWithin (locations s duty m) n)) back (row at) (target_cases at h)
                (minimax_settles n (other (is_output s)) value (row at) g)))
          ],
        )

    -- numbers that solve the environment's equation are the losses
    pub solved_losses : (at : ℕ) → at < m.size → IsLeastOrNone (λ n. FailsDutyWithin (locations s duty m) n at) (value at)
    solved_losses at h = least_from (λ n. FailsDutyWithin (locations s duty m) n at) (value at) (λ n. (fails_within n at h).0) (λ n. (fails_within n at h).1)
