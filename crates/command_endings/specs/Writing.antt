-- What a command makes of its output: in which calls, and where none is made.
use Rattle.std.specs.Prelude.{◌≡◌, ℕ, ◌<◌, IsTrue, false, List}
use Rattle.command_endings.specs.Calls.{IsPutOnce, PutsReply, PutsLines}
use Rattle.command_endings.specs.Tasks.{Task, Tells, NoOutputIsDue}
use Rattle.command_endings.specs.Worlds.{Contents, World}

-- The output stays where none is due, where memory ran out, and, but for a command that writes as it reads, where the
-- input's count of faults rose. Such a command puts each line in one call; any other puts its whole output in one call at
-- most, that of what is asked for, and after the status of an answer it was put.
pub record Writes {O : Type 0} (put : O → List ℕ → O → Type 0) (task : Task) (before after : World) (old new : O) (number : ℕ) : Type 0 where
  pub silent : (files : Contents) (rest : List ℕ) → Tells task before files rest → NoOutputIsDue (task.answers files rest) → new ≡ old
  pub nothing : number ≡ 8 → new ≡ old
  pub unwritten : task.streams ≡ false → before.input_faults < after.input_faults → new ≡ old
  pub once : task.streams ≡ false → IsPutOnce put old new
  pub written : (files : Contents) (rest : List ℕ) → Tells task before files rest → task.streams ≡ false → PutsReply put (task.answers files rest) old new number
  pub lines : IsTrue task.streams → PutsLines put old new
