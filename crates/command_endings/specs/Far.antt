-- How far the input was read, where a run ends with an answer.
use Rattle.std.specs.Prelude.{◌≡◌, ◌≢◌, ℕ, ◌<◌, ◌⊎◌, Bool, false, IsTrue, List, [], ◌++◌, length, Some}
use Rattle.command_endings.specs.declared.endings.Ending.TheVariants.{Positive}
use Rattle.command_endings.specs.Replies.{Reply}
use Rattle.command_endings.specs.Worlds.{World}
use Rattle.command_endings.specs.Streams.{AreWholeLines, IsOneLine}

-- an input that tells its rest was read to its end
abbrev pub ReadsAll : World → World → Type 0
ReadsAll before after = (rest : List ℕ) → before.left ≡ Some rest → after.left ≡ Some []

-- A command that reads the input to its end has read it so after each answer; one that stops at its goal has, after the
-- answer that the goal wasn't met.
pub record ReadsFar (reads to_end : Bool) (before after : World) (number : ℕ) : Type 0 where
  pub whole : IsTrue reads → IsTrue to_end → number < 2 → ReadsAll before after
  pub to_goal : IsTrue reads → to_end ≡ false → number ≡ 1 → ReadsAll before after

-- The input was read to the line that met the goal, and fewer than 4,097 bytes past it; or nothing was read, where the
-- goal is met before the first line.
pub record StopsAtGoal (replies : List ℕ → Reply → Type 0) (rest : List ℕ) (after : World) : Type 0 where
  pub earlier : List ℕ
  pub needed : List ℕ
  pub further : List ℕ
  pub later : List ℕ
  pub split : rest ≡ earlier ++ (needed ++ (further ++ later))
  pub left : after.left ≡ Some later
  pub few : length further < 4097
  pub reply : Reply
  pub due : replies (earlier ++ needed) reply
  pub met : reply.ending ≡ Positive
  pub needs : ((earlier ≡ []) × (needed ≡ []) × (further ≡ []))
      ⊎ (AreWholeLines earlier × IsOneLine needed (further ++ later) × ((r : Reply) × replies earlier r × (r.ending ≢ Positive)))

-- a command that stops at its goal has read the input so far where the goal was met
abbrev pub ReadsToGoal : Bool → Bool → (List ℕ → Reply → Type 0) → List ℕ → World → ℕ → Type 0
ReadsToGoal reads to_end replies rest after number = IsTrue reads → to_end ≡ false → number ≡ 0 → StopsAtGoal replies rest after
