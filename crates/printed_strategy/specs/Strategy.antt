-- What a strategy text says, as plain data, and where it leads along a history.
use Rattle.std.specs.Prelude.{ℕ, Bool, true, false, [], ◌∷◌, Option, Some, None, if◌then◌else◌}
use Rattle.forms.specs.Word.{Word}
use Rattle.game.specs.Board.{Partition}
use Rattle.game.specs.Marks.{Mark, Goal, Win, Pending, Lost, Held, LostIn}

-- the mark of a decision, and the output that is played
pub record Choice : Type 0 where
  pub mark : Mark
  pub output : ℕ

-- Who moves how, and whether there is a duty; the number of rounds within which the goal is forced, where it can be; so
-- many locations; the mark of each; where a letter leads from it, but for an illegal one; what is chosen for a decision,
-- but for an illegal one; and the table of the inputs that answer what is shown, where there is one.
pub record Strategy : Type 0 where
  pub parts : Partition
  pub has_duty : Bool
  pub verdict : Option ℕ
  pub size : ℕ
  pub mark : ℕ → Mark
  pub target : ℕ → ℕ → Option ℕ
  pub choice : ℕ → ℕ → Option Choice
  pub answers : ℕ → Option (ℕ → ℕ)

abbrev pub is_goal : Mark → Bool
is_goal Goal = true
is_goal (Win n) = false
is_goal (Pending n) = false
is_goal Lost = false
is_goal Held = false
is_goal (LostIn n) = false

-- the location after one round; none where the goal was met, and where the round is illegal
abbrev pub step : Strategy → ℕ → ℕ → Option ℕ
step t at a = if is_goal (t.mark at) then None else t.target at a

-- the location to which a word leads from a location, if it leads to one
abbrev pub location_from : Strategy → Option ℕ → Word → Option ℕ
location_from t None w = None
location_from t (Some at) [] = Some at
location_from t (Some at) (a ∷ w) = location_from t (step t at a) w

-- the location of a history, if it has one
abbrev pub location_after : Strategy → Word → Option ℕ
location_after t h = location_from t (Some 0) h

-- what is chosen for a decision at the location, if one is
abbrev pub choice_from : Strategy → Option ℕ → ℕ → Option Choice
choice_from t None x = None
choice_from t (Some at) x = t.choice at x

abbrev pub output_of_choice : Option Choice → ℕ
output_of_choice None = 0
output_of_choice (Some c) = c.output

-- the output that the strategy plays after a history, for a decision; 0 where it has none
abbrev pub move_at : Strategy → Word → ℕ → ℕ
move_at t h x = output_of_choice (choice_from t (location_after t h) x)

abbrev pub answers_from : Strategy → Option ℕ → Option (ℕ → ℕ)
answers_from t None = None
answers_from t (Some at) = t.answers at

-- the inputs with which the environment answers what it is shown after a history, where it has a table of answers
abbrev pub answers_at : Strategy → Word → Option (ℕ → ℕ)
answers_at t h = answers_from t (location_after t h)
