-- A certificate as plain data, and its game: a board whose places are its locations.
use Rattle.std.specs.Prelude.{◌≡◌, ◌<◌, ◌^◌, ℕ, List, [], ◌∷◌, slice_get, Bool, true, Option, Some, None, IsSome}
use Rattle.game.specs.Board.{Board, Mover, Agent, Environment, Partition}
use Rattle.game.specs.Marks.{Mark, Goal, LostIn}
use Rattle.printed_strategy.specs.Strategy.{output_of_choice}
pub use Rattle.printed_strategy.specs.Strategy.{Choice}
use Rattle.certificate_rules.specs.Cubes.{Entry, field_at}

-- A location: its mark, and the lines with the targets of letters, the choices for decisions and the answers to outputs.
-- No target, and no choice, stand for `illegal`.
pub record Location : Type 0 where
  pub mark : Mark
  pub rounds : List (Entry (Option ℕ))
  pub choices : List (Entry (Option Choice))
  pub answers : List (Entry ℕ)

-- a certificate; it has a duty where its first line is `strategy 2`, and no verdict stands for `unrealisable`
pub record Certificate : Type 0 where
  pub has_duty : Bool
  pub verdict : Option ℕ
  pub parts : Partition
  pub locations : List Location

abbrev pub mark_in : Option Location → Mark
mark_in None = Goal
mark_in (Some l) = l.mark

-- the mark of a location; past the last there is nothing left to play
abbrev pub mark_at : Certificate → ℕ → Mark
mark_at c q = mark_in (slice_get c.locations q)

abbrev pub joined : {A : Type 0} → Option (Option A) → Option A
joined None = None
joined (Some v) = v

abbrev pub target_in : Option Location → ℕ → Option ℕ
target_in None a = None
target_in (Some l) a = joined (field_at l.rounds a)

-- where a letter leads, if it is legal
abbrev pub target_at : Certificate → ℕ → ℕ → Option ℕ
target_at c q a = target_in (slice_get c.locations q) a

abbrev pub choice_in : Option Location → ℕ → Option Choice
choice_in None x = None
choice_in (Some l) x = joined (field_at l.choices x)

-- what is chosen for a decision, unless the move is `illegal`
abbrev pub choice_at : Certificate → ℕ → ℕ → Option Choice
choice_at c q x = choice_in (slice_get c.locations q) x

abbrev pub place_in : Option ℕ → ℕ
place_in None = 0
place_in (Some t) = t

-- the answers that lines give to what is shown, if there are lines
abbrev pub table_of : List (Entry ℕ) → Option (ℕ → ℕ)
table_of [] = None
table_of (e ∷ es) = Some (λ y. place_in (field_at (e ∷ es) y))

abbrev pub table_in : Option Location → Option (ℕ → ℕ)
table_in None = None
table_in (Some l) = table_of l.answers

-- the answer to what the environment is shown, if the location has answers
abbrev pub answers_at : Certificate → ℕ → Option (ℕ → ℕ)
answers_at c q = table_in (slice_get c.locations q)

-- a decision: agent first the empty one, environment first each input whose move is not `illegal`
abbrev pub IsDecisionOf : Mover → Certificate → ℕ → ℕ → Type 0
IsDecisionOf Agent c q x = x ≡ 0
IsDecisionOf Environment c q x = (x < 2 ^ c.parts.inputs) × IsSome (choice_at c q x)

-- the game of a certificate
abbrev pub board : (c : Certificate) → Board c.parts
board c = record {
  Place = ℕ;
  after = λ q a. place_in (target_at c q a);
  IsMet = λ q. mark_at c q ≡ Goal;
  IsBroken = λ q. mark_at c q ≡ LostIn 0;
  IsLegal = λ q a. IsSome (target_at c q a);
  IsDecision = IsDecisionOf c.parts.first c;
  has_duty = c.has_duty;
}

-- there is a duty
abbrev pub HasDuty : Certificate → Type 0
HasDuty c = c.has_duty ≡ true

-- the moves of a certificate
abbrev pub moves_of : Certificate → ℕ → ℕ → ℕ
moves_of c q x = output_of_choice (choice_at c q x)

-- x is a decision at q, with this mark and this move
pub record Decides (c : Certificate) (q x : ℕ) (m : Mark) (y : ℕ) : Type 0 where
  pub decision : (board c).IsDecision q x
  pub chosen : choice_at c q x ≡ Some (record { mark = m; output = y })
