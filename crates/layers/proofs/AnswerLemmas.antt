-- A location that isn't won has answers after which it is so again.
use Rattle.std.proofs.Common.{◌≡◌, ℕ, suc, ◌<◌, ◌≤◌, ◌^◌, ◌+◌, ◌%◌, inl, inr, refl, sym, ◌∙◌, ap, subst, arith, Bool, true, false, if◌then◌else◌, Option, Some, None}
use Rattle.std.specs.Prelude.{not, nat_lt}
use Rattle.std.proofs.lemmas.Bool.{cases_lt}
use Rattle.diagrams.specs.Tree.{Tree, AllVars}
use Rattle.forms.specs.declared.partition.Partition.{Partition}
use Rattle.game.specs.Winning.{WinsWithin}
use Rattle.game.specs.Marks.{Evades}
use Rattle.game.specs.Arena.{Locations, locations}
use Rattle.game.specs.Numbers.{IsLeastOrNone}
use Rattle.layers.specs.Ranked.{AreRanks, GoesByInput}
use Rattle.attractor.proofs.SettlingLemmas.{option_cases}
use Rattle.layers.proofs.HopeLemmas.{rank_in}
use Rattle.layers.proofs.Solved.{at_terminals, settles_map}
use Rattle.attractor.specs.Minimax.{IsWithin, minimax}
use Rattle.layers.specs.Layers.{is_output, IsRowTree}
use Rattle.layers.proofs.MinimaxLemmas.{other, none_settles, minimax_settles}
use Rattle.layers.proofs.LetterParts.{at_letter, chooses_first, answers_first}
use Rattle.layers.proofs.Rounds.{IsTarget, forces_row, agent_first, environment_first, below, beyond, letter_with, letter_first, letter_second, letter_less}

-- numbers of locations, and 0 at the size
abbrev pub ended : ℕ → (ℕ → Option ℕ) → ℕ → Option ℕ
ended size rank z = if nat_lt z size then rank z else Some 0

pub ended_there : (size : ℕ) (rank : ℕ → Option ℕ) (z : ℕ) → z < size → ended size rank z ≡ rank z
ended_there size rank z h = let e : nat_lt z size ≡ true = below size z h in rw e refl

pub ended_end : (size : ℕ) (rank : ℕ → Option ℕ) → ended size rank size ≡ Some 0
ended_end size rank = let e : nat_lt size size ≡ false = beyond size size (omega arith) in rw e refl

pub ended_ranks : (s : Partition) (duty : Bool) (m : Locations) (rank : ℕ → Option ℕ) → AreRanks s duty m rank → AreRanks s duty m (ended m.size rank)
ended_ranks s duty m rank r at h = subst (λ v. IsLeastOrNone (λ n. WinsWithin (locations s duty m) n at) v) (sym (ended_there m.size rank at h)) (r at h)

-- a location that isn't won has a row without a number
pub unranked_row : (s : Partition) (duty : Bool) (m : Locations) (row : ℕ → Tree) → ((at : ℕ) → at < m.size → IsRowTree s m at (row at)) → GoesByInput s m
    → (rank : ℕ → Option ℕ) → AreRanks s duty m rank → (at : ℕ) → at < m.size → rank at ≡ None → minimax (is_output s) rank (row at) ≡ None
unranked_row s duty m row rows even rank r at h e = elim (option_cases (minimax (is_output s) rank (row at))) [
  | inl z ↦ z
  | inr z ↦
      let k = z.0 in
      let within : IsWithin z.0 (minimax (is_output s) rank (row at)) = subst (IsWithin z.0) (sym z.1) (omega arith) in
      let back : (x : ℕ) → x ≤ m.size → IsWithin z.0 (rank x) → IsTarget m (WinsWithin (locations s duty m) z.0) x = λ x l w there. rank_in s duty m rank r z.0 x there w in
      let forced = (forces_row s duty m at (row at) h (rows at h) even (WinsWithin (locations s duty m) z.0)).1
      (settles_map (is_output s) (λ x. x ≤ m.size) (λ x. IsWithin z.0 (rank x)) (IsTarget m (WinsWithin (locations s duty m) z.0)) back (row at)
      (at_terminals s m at (row at) (rows at h) (λ x. x ≤ m.size) (rows at h).targets) (minimax_settles z.0 (is_output s) rank (row at) within)) in
      absurd (subst (λ v. IsLeastOrNone (λ n. WinsWithin (locations s duty m) n at) v) e (r at h) (suc z.0) (inr forced))
]

-- a target without a number is a location that isn't won
module _ (s : Partition) (duty : Bool) (m : Locations) (rank : ℕ → Option ℕ) (r : AreRanks s duty m rank) (end : rank m.size ≡ Some 0) where
  not_won : (z : ℕ) → z ≤ m.size → rank z ≡ None → (z < m.size) × ((k : ℕ) → ¬ WinsWithin (locations s duty m) k z)
  not_won z l e = elim (cases_lt z m.size) [
    | inl h ↦ (h, subst (λ v. IsLeastOrNone (λ n. WinsWithin (locations s duty m) n z) v) e (r z h))
    | inr h ↦ let q : z ≡ m.size = omega arith in let nought : ℕ = 0 in let w : Some nought ≡ None = sym end ∙ sym (ap rank q) ∙ e in absurd (cc)
  ]

module _ (i o : ℕ) (duty : Bool) (m : Locations) (row : ℕ → Tree) (rows : (at : ℕ) → at < m.size → IsRowTree (agent_first i o) m at (row at))
    (rank : ℕ → Option ℕ) (r : AreRanks (agent_first i o) duty m rank) (end : rank m.size ≡ Some 0)
    (unranked : (at : ℕ) → at < m.size → rank at ≡ None → minimax (is_output (agent_first i o)) rank (row at) ≡ None) where
  swap : o + i ≡ i + o
  swap = omega arith

  -- agent first: to each output there is an input that evades it
  pub agent_evaded : (at : ℕ) → at < m.size → rank at ≡ None → (y : ℕ) → y < 2 ^ o → (x : ℕ) × Evades (locations (agent_first i o) duty m) at x y
  agent_evaded at h e y l =
      let n = unranked at h e in
      let vars : AllVars (λ v. v < o + i) (row at) = rw swap (rows at h).vars in
      let q = answers_first (λ z. rank z ≡ None) (other (is_output (agent_first i o))) o i (row at) (rows at h).reduced vars
      (λ v k. ap not (below o v k)) (λ v k. ap not (beyond o v k)) (none_settles (is_output (agent_first i o)) rank (row at) n) y l in
      let less : q.0 < 2 ^ (i + o) = rw swap at q.1 in
      let next : m.next at q.0 ≡ at_letter o i (row at) q.0 = rw swap ((rows at h).next q.0 less) in
      let w = not_won (agent_first i o) duty m rank r end (m.next at q.0) ((rows at h).targets q.0 less) (ap rank next ∙ q.3) in
      (q.0 % 2 ^ i, (q.0, record { letter = less; input = refl; output = q.2 }, w.0, w.1))

module _ (i o : ℕ) (duty : Bool) (m : Locations) (row : ℕ → Tree) (rows : (at : ℕ) → at < m.size → IsRowTree (environment_first i o) m at (row at))
    (rank : ℕ → Option ℕ) (r : AreRanks (environment_first i o) duty m rank) (end : rank m.size ≡ Some 0)
    (unranked : (at : ℕ) → at < m.size → rank at ≡ None → minimax (is_output (environment_first i o)) rank (row at) ≡ None) where
  twice : (b : Bool) → b ≡ not (not b)
  twice true = refl
  twice false = refl

  -- environment first: one input evades each output
  pub environment_evades : (at : ℕ) → at < m.size → rank at ≡ None → (x : ℕ) × (x < 2 ^ i) × ((y : ℕ) → y < 2 ^ o → Evades (locations (environment_first i o) duty m) at x y)
  environment_evades at h e =
      let n = unranked at h e in
      let q = chooses_first (λ z. rank z ≡ None) (other (is_output (environment_first i o))) i o (row at) (rows at h).reduced (rows at h).vars
      (λ v k. sym (twice _) ∙ below i v k) (λ v k. sym (twice _) ∙ beyond i v k) (none_settles (is_output (environment_first i o)) rank (row at) n) in (
        q.0,
        q.1,
        λ y l.
            let a = letter_with o q.0 y in
            let less : letter_with o q.0 y < 2 ^ (i + o) = letter_less i o q.0 y q.1 l in
            let first = letter_first o q.0 y l in
            let w = not_won (environment_first i o) duty m rank r end (m.next at a) ((rows at h).targets a less) (ap rank ((rows at h).next a less) ∙ q.2 a less first) in
            (a, record { letter = less; input = first; output = letter_second o q.0 y l }, w.0, w.1),
      )
