-- The game of violating what is assumed, on the locations of an automaton that watches it, and the automaton in which it can't be
-- violated.
use Rattle.std.specs.Prelude.{◌≡◌, ◌≢◌, ◌<◌, ◌^◌, ◌⊎◌, ◌==◌, not, ℕ, Bool, List, length, false, Option, None}
use Rattle.forms.specs.Word.{Claim}
use Rattle.diagrams.specs.declared.top.Id.{Id}
use Rattle.diagrams.specs.Eval.{id_at}
use Rattle.automata.specs.Moves.{Moves}
use Rattle.automata.specs.Table.{Table, mark_of, row_of}
use Rattle.attractor.specs.Rows.{is_first_at}
use Rattle.products.specs.Watch.{Tells}
use Rattle.game.specs.Board.{Partition, Agent, Environment, Board, width, input_of, IsChoice}
use Rattle.game.specs.Winning.{WinsWithin}
use Rattle.game.specs.Numbers.{IsLeastOrNone}
use Rattle.game.specs.Histories.{IsViolated}

-- the mark after a word is v where it violates the claim, and else 0
abbrev pub TellsViolated : ℕ → Moves → ℕ → Option Claim → Type 0
TellsViolated p m v o = Tells p m (λ w. ¬ IsViolated o w) v (λ w. IsViolated o w)

-- the game in which the agent tries to reach a mark other than 0: each round may be played
abbrev pub watched : (s : Partition) → Moves → Board s
watched s m = record {
  Place = ℕ;
  after = m.next;
  IsMet = λ at. m.mark at ≢ 0;
  IsBroken = λ at. ⊥;
  IsLegal = λ at a. Unit {0};
  IsDecision = λ at x. IsChoice s x;
  has_duty = false;
}

-- for each location the least number of rounds within which the agent can reach such a mark, or none
abbrev pub AreViolationRanks : Partition → Moves → (ℕ → Option ℕ) → Type 0
AreViolationRanks s m rank = (at : ℕ) → at < m.size → IsLeastOrNone (λ k. WinsWithin (watched s m) k at) (rank at)

-- the first so many locations have their rows in the one list, and in the other whether their mark is another than 0
pub record AreWatchedRows (t : Table) (rows : List Id) (violated : List Bool) (count : ℕ) : Type 0 where
  pub rows_count : length rows ≡ count
  pub violated_count : length violated ≡ count
  pub row : (at : ℕ) → at < count → id_at rows at ≡ row_of t at
  pub mark : (at : ℕ) → at < count → is_first_at violated at ≡ not (mark_of t at == 0)

-- the letter leads to no rank: agent first itself, environment first with each letter of its input
abbrev pub LeadsToNoRank : Partition → Moves → (ℕ → Option ℕ) → ℕ → ℕ → Type 0
LeadsToNoRank s m rank at a = elim s.first [
  | Agent ↦ rank (m.next at a) ≡ None
  | Environment ↦ (b : ℕ) → b < 2 ^ width s → input_of s b ≡ input_of s a → rank (m.next at b) ≡ None
]

-- the automaton with each other letter led to the sink, where it stays
pub record IsRestricted (s : Partition) (m l : Moves) (rank : ℕ → Option ℕ) (sink : ℕ) : Type 0 where
  pub first : l.first ≡ m.first
  pub mark : (at : ℕ) → at < m.size → l.mark at ≡ m.mark at
  pub goes : (at a : ℕ) → at < m.size → a < 2 ^ width s
      → (LeadsToNoRank s m rank at a × (l.next at a ≡ m.next at a)) ⊎ ((¬ LeadsToNoRank s m rank at a) × (l.next at a ≡ sink))
  pub stays : (a : ℕ) → a < 2 ^ width s → l.next sink a ≡ sink
