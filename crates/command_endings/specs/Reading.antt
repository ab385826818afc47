-- What a command makes of its input: in which calls, and where none is made.
use Rattle.std.specs.Prelude.{◌≡◌, ℕ, IsTrue, false, List, Some}
use Rattle.bes_io.specs.Asking.{IsAsked}
use Rattle.command_endings.specs.Endings.{IsUnread}
use Rattle.command_endings.specs.Tasks.{Task, TellsFiles}
use Rattle.command_endings.specs.Worlds.{Contents, World}

-- The input stays where the command reads none, where it doesn't come to be asked, at the statuses that come before it is
-- asked, and, of a command that writes as it reads, where memory ran out. At those statuses it doesn't come to be asked.
-- Else it goes through calls of `take` of which each but the last left the count of faults as it was: an input that failed
-- is not asked again.
pub record Reads {S : Type 0} (faults : S → ℕ) (taken : S → ℕ → List ℕ → S → Type 0) (task : Task) (before : World) (old new : S) (number : ℕ) : Type 0 where
  pub never : task.reads ≡ false → new ≡ old
  pub unread : ¬ task.may_read before.contents → new ≡ old
  pub untouched : IsUnread number → new ≡ old
  pub early : (files : Contents) → TellsFiles task before files → IsUnread number → ¬ task.may_read (Some files)
  pub asked_in_turn : IsAsked faults taken old new
  pub served : IsTrue task.streams → number ≡ 8 → new ≡ old
