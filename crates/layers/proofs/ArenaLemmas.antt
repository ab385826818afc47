-- What attract gives over the rows of an arena: ranks for the agent, losses for the environment.
use Rattle.std.proofs.Common.{◌≡◌, ℕ, ◌<◌, ◌≤◌, ◌^◌, ◌+◌, refl, sym, ◌∙◌, ap, subst, arith, Bool, true, false, if◌then◌else◌, List, length, Option, Some}
use Rattle.std.specs.Prelude.{nat_lt, not}
use Rattle.diagrams.specs.declared.top.Id.{Id}
use Rattle.diagrams.specs.Tree.{value_at, Assignment}
use Rattle.diagrams.specs.Eval.{Diagrams, tree, eval, id_at, letter_truth}
use Rattle.diagrams.proofs.Meaning.{tree-reduced}
use Rattle.diagrams.proofs.Expansion.{vars_below}
use Rattle.forms.specs.declared.partition.Partition.{Partition}
use Rattle.forms.specs.declared.partition.Mover.{Mover}
use Rattle.forms.specs.declared.partition.Mover.TheVariants.{Agent, Environment}
use Rattle.diagrams.specs.Live.{IsCanonical}
use Rattle.automata.specs.Table.{IsRow}
use Rattle.game.specs.Board.{width}
use Rattle.game.specs.Winning.{WinsWithin, FailsDutyWithin}
use Rattle.game.specs.Arena.{locations}
use Rattle.game.specs.Numbers.{IsLeastOrNone}
use Rattle.layers.specs.Ranked.{AreRanks, GoesByInput}
use Rattle.attractor.specs.Minimax.{IsSolved}
use Rattle.layers.specs.Layers.{is_output, IsRowTree}
use Rattle.attractor.specs.Graph.{number_at}
use Rattle.attractor.specs.Rows.{side_of, is_first_at, IsAttraction}
use Rattle.layers.specs.ArenaRows.{locations_of, AreArenaRows, agent_sides, environment_sides}
use Rattle.layers.proofs.MinimaxLemmas.{other}
use Rattle.layers.proofs.Bounds.{rank_most}
use Rattle.layers.proofs.Rounds.{below, beyond}
use Rattle.layers.proofs.HopeLemmas.{rows_won}
use Rattle.layers.proofs.Solved.{solved_ranks, solved_losses}
use Rattle.layers.specs.Decisions.{illegal_rank, won_by}
use Rattle.layers.specs.Distances.{AreWon}

choice_true : (b : Bool) → (if b then true else false) ≡ b
choice_true true = refl
choice_true false = refl

choice_false : (b : Bool) → (if b then false else true) ≡ not b
choice_false true = refl
choice_false false = refl

twice_not : (b : Bool) → b ≡ not (not b)
twice_not true = refl
twice_not false = refl

agent_side : (f : Mover) (i o v : ℕ) → side_of (agent_sides (record { first = f; inputs = i; outputs = o })) v ≡ is_output (record { first = f; inputs = i; outputs = o }) v
agent_side Agent i o v = choice_true (nat_lt v o)
agent_side Environment i o v = choice_false (nat_lt v i)

environment_side : (f : Mover) (i o v : ℕ) → side_of (environment_sides (record { first = f; inputs = i; outputs = o })) v ≡ other (is_output (record { first = f; inputs = i; outputs = o })) v
environment_side Agent i o v = choice_false (nat_lt v o)
environment_side Environment i o v = choice_true (nat_lt v i) ∙ twice_not (nat_lt v i)

agent_sides-are : (s : Partition) → side_of (agent_sides s) ≡ is_output s
agent_sides-are s = λ j v. agent_side s.first s.inputs s.outputs v j

environment_sides-are : (s : Partition) → side_of (environment_sides s) ≡ other (is_output s)
environment_sides-are s = λ j v. environment_side s.first s.inputs s.outputs v j

-- values of locations, and this one at the size
abbrev with_end : ℕ → Option ℕ → (ℕ → Option ℕ) → ℕ → Option ℕ
with_end size end value z = if nat_lt z size then value z else end

end_there : (size : ℕ) (end : Option ℕ) (value : ℕ → Option ℕ) (z : ℕ) → z < size → with_end size end value z ≡ value z
end_there size end value z h = let e : nat_lt z size ≡ true = below size z h in rw e refl

end_is : (size : ℕ) (end : Option ℕ) (value : ℕ → Option ℕ) → with_end size end value size ≡ end
end_is size end value = let e : nat_lt size size ≡ false = beyond size size (omega arith) in rw e refl

eval-tree : (s : Diagrams) (i : Id) (a : Assignment) → eval s i a ≡ value_at (tree s i) a
unfolding eval
eval-tree s i a = refl

-- rows that fit are an arena's, whatever goals and broken duties there are
pub arena_rows : (s : Diagrams) (parts : Partition) (rows : List Id) (goals broken : List Bool) → IsCanonical s → width parts ≡ s.props
    → ((at : ℕ) → at < length rows → IsRow s (length rows + 1) (id_at rows at)) → GoesByInput parts (locations_of s rows goals broken) → AreArenaRows s parts rows goals broken
arena_rows s parts rows goals broken can w fit even = record {
  canonical = can;
  props = sym w;
  rows_are = λ at h. let r = fit at h in (r.live, λ a. let l = r.targets a in omega arith);
  letters = λ at h. (fit at h).letters;
  even = even;
}

module _ (s : Diagrams) (parts : Partition) (duty : Bool) (rows : List Id) (goals broken : List Bool) (a : AreArenaRows s parts rows goals broken) where
  pub row_tree : (at : ℕ) → at < length rows → IsRowTree parts (locations_of s rows goals broken) at (tree s (id_at rows at))
  row_tree at h =
      let r = a.rows_are at h in
      record {
        reduced = tree-reduced s a.canonical (id_at rows at) r.0;
        vars = rw (← a.props) (vars_below s a.canonical s.props (id_at rows at) r.0 (a.letters at h));
        next = λ c l. eval-tree s (id_at rows at) (letter_truth s.props c) ∙ ap (λ p. value_at (tree s (id_at rows at)) (letter_truth p c)) a.props;
        targets = λ c l. r.1 (letter_truth s.props c);
      }

  -- the agent's numbers are the ranks
  pub attraction_ranks : (numbers : List (Option ℕ)) → IsAttraction s (agent_sides parts) rows goals true numbers → AreRanks parts duty (locations_of s rows goals broken) (number_at numbers)
  attraction_ranks numbers t =
      solved_ranks parts duty (locations_of s rows goals broken) (λ at. tree s (id_at rows at)) row_tree a.even (number_at numbers) t.illegal_number
      (λ at h. subst (λ side. IsSolved (is_first_at goals) side (λ k. tree s (id_at rows k)) (number_at numbers) at) (agent_sides-are parts) (t.each at h))

  -- the environment's are the losses
  pub attraction_losses : (numbers : List (Option ℕ)) → IsAttraction s (environment_sides parts) rows broken false numbers
      → (at : ℕ) → at < length rows → IsLeastOrNone (λ n. FailsDutyWithin (locations parts duty (locations_of s rows goals broken)) n at) (number_at numbers at)
  attraction_losses numbers t =
      solved_losses parts duty (locations_of s rows goals broken) (λ at. tree s (id_at rows at)) row_tree a.even (number_at numbers) t.illegal_number
      (λ at h. subst (λ side. IsSolved (is_first_at broken) side (λ k. tree s (id_at rows k)) (number_at numbers) at) (environment_sides-are parts) (t.each at h))

  -- ranks are at most the number of locations
  pub attraction_small : (numbers : List (Option ℕ)) → IsAttraction s (agent_sides parts) rows goals true numbers → length rows < 2 ^ 32
      → (k n : ℕ) → k < length rows → number_at numbers k ≡ Some n → n < 2 ^ 32
  attraction_small numbers t few k n h e =
      let m = rank_most parts duty (locations_of s rows goals broken) (number_at numbers) (attraction_ranks numbers t) k n h e in
      omega arith

  -- decisions have winning numbers
  pub arena_won : (rank : ℕ → Option ℕ) → AreRanks parts duty (locations_of s rows goals broken) rank → (won : ℕ → ℕ → Option ℕ) × AreWon parts duty (locations_of s rows goals broken) won
  arena_won rank r =
      let ended = with_end (length rows) (illegal_rank parts) rank in
      let fine : AreRanks parts duty (locations_of s rows goals broken) (with_end (length rows) (illegal_rank parts) rank) =
      λ at h. subst (λ v. IsLeastOrNone (λ n. WinsWithin (locations parts duty (locations_of s rows goals broken)) n at) v) (sym (end_there (length rows) (illegal_rank parts) rank at h)) (r at h) in (
        won_by parts ended (λ at. tree s (id_at rows at)),
        rows_won parts duty (locations_of s rows goals broken) (λ at. tree s (id_at rows at)) row_tree a.even ended fine (end_is (length rows) (illegal_rank parts) rank),
      )
