-- What the top call leaves, by its status.
use Rattle.std.specs.Prelude.{◌≡◌, ◌≢◌, ℕ, ◌<◌, ◌⊎◌, List, [], take, Option, Some, None}
use Rattle.std.specs.Io.KnownBytes.{append_known}
use Rattle.bes_io.specs.Causes.{Rose}
use Rattle.command_endings.specs.declared.endings.Ending.{Ending}
use Rattle.command_endings.specs.declared.endings.Ending.TheVariants.{OutsideFault, NoMemory}
use Rattle.command_endings.specs.Calls.{Asks}
use Rattle.command_endings.specs.Endings.{status_of, message_of}
use Rattle.command_endings.specs.Far.{ReadsFar, ReadsToGoal}
use Rattle.command_endings.specs.Replies.{Reply}
use Rattle.command_endings.specs.Runs.{Finishes}
use Rattle.command_endings.specs.Streams.{Streams}
use Rattle.command_endings.specs.Tasks.{Task, Tells, AddsPrefix, HasFault}
use Rattle.command_endings.specs.Worlds.{Contents, World, IfNeeded, FileFailed, Gains, KeepsCounts}

-- The run gave what a reply asks for: its output, its message and its status.
pub record Gave (replies : Reply → Type 0) (before after : World) (err told : Option (List ℕ)) (number : ℕ) : Type 0 where
  pub reply : Reply
  pub asked : replies reply
  pub status : number ≡ status_of reply.ending
  pub output : after.held ≡ append_known before.held reply.output
  pub message : told ≡ append_known err (message_of reply.ending)

-- where the outside tells what the task needs of it, each status but 7 and 8 is that of the reply
abbrev pub IsAnswered : Task → World → World → Option (List ℕ) → Option (List ℕ) → ℕ → Type 0
IsAnswered task before after err told number = (files : Contents) (rest : List ℕ) → Tells task before files rest →
    number ≢ 7 → number ≢ 8 → Gave (task.answers files rest) before after err told number

-- the task asks for one thing
abbrev pub AsksForOne : Task → Type 0
AsksForOne task = (files : Contents) (rest : List ℕ) (c d : Reply) → task.answers files rest c → task.answers files rest d → c ≡ d

-- what is accepted is answered, where no fault has a cause: the status is 0 or 1, with the output of the reply, or memory ran
-- out
abbrev pub IsComplete : Task → World → World → Option (List ℕ) → Option (List ℕ) → ℕ → ℕ → ℕ → Type 0
IsComplete task before after err told was now number = (files : Contents) (rest : List ℕ) → Tells task before files rest →
    task.accepts files rest → ¬ HasFault task before after → ¬ Rose was now →
    (number ≡ 8) ⊎ ((number < 2) × Gave (task.answers files rest) before after err told number)

-- A fault has its cause: the input where it came to be asked, the output, the named file, or the place for messages, and
-- that alone only where a message was asked for.
pub record HasFaultCause (task : Task) (before after : World) (was now number : ℕ) : Type 0 where
  pub cause : number ≡ 7 → HasFault task before after ⊎ Rose was now
  pub heard : (files : Contents) (rest : List ℕ) → Tells task before files rest → number ≡ 7 →
      HasFault task before after ⊎ (Rose was now × ((reply : Reply) × task.answers files rest reply × (message_of reply.ending ≢ [])))

-- where no fault is answered no count of the input, the output or the files rose, nor, where memory was found, that of
-- the place for messages
pub record CountsStand (before after : World) (was now number : ℕ) : Type 0 where
  pub outside : number ≢ 7 → KeepsCounts before after
  pub messages : number ≢ 7 → number ≢ 8 → now ≡ was

-- after a fault of the outside the output has gained a prefix of what it was to gain
abbrev pub IsPartial : Task → World → World → ℕ → Type 0
IsPartial task before after number = (files : Contents) (rest : List ℕ) → Tells task before files rest → number ≡ 7 →
    AddsPrefix (task.answers files rest) before after

-- where the outside failed, a command that writes as it reads has put what is due for what it took of an input that tells
-- its rest
abbrev pub IsStreamed : Task → World → World → Type 0
IsStreamed task before after = IfNeeded task.streams
    ((files : Contents) (rest : List ℕ) → Tells task before files rest → before.left ≡ Some rest → Streams (task.answers files) rest before after)

-- the message of this ending was put, or at a fault a prefix of one message
abbrev pub PutsMessage : Ending → Option (List ℕ) → Option (List ℕ) → ℕ → ℕ → Type 0
PutsMessage ending err told was now = (told ≡ append_known err (message_of ending))
    ⊎ (Rose was now × ((e : Ending) × (n : ℕ) × (told ≡ append_known err (take n (message_of e)))))

-- The run has an ending, whose status it answers and whose message it puts in one call, or makes none where there is no
-- message. After 7 and 8 the message of the status was put, or, where the place for messages failed, a prefix of one
-- message; after 0 and 1 none was put.
pub record PutsMessages {E : Type 0} (put : E → List ℕ → E → Type 0) (old new : E) (err told : Option (List ℕ)) (was now number : ℕ) : Type 0 where
  pub ending : Ending
  pub finishes : Finishes ending err was told now number
  pub asks : Asks put (message_of ending) old new
  pub fault : number ≡ 7 → PutsMessage OutsideFault err told was now
  pub memory : number ≡ 8 → PutsMessage NoMemory err told was now
  pub quiet : number < 2 → new ≡ old

-- the names that failed gain the named file at most, the files stay where none is named, and the input does where the named
-- file failed
pub record KeepsFiles {F S : Type 0} (task : Task) (before after : World) (old new : F) (old_input new_input : S) : Type 0 where
  pub gains : Gains task.file before.failed after.failed
  pub unopened : task.file ≡ None → new ≡ old
  pub unread : FileFailed task.file before.failed after.failed → new_input ≡ old_input

-- how far the input was read, where the run ends with an answer: to its end, or, where the command stops at its goal and the
-- input tells its rest, to the line that met it
pub record IsReadSoFar (task : Task) (before after : World) (number : ℕ) : Type 0 where
  pub answered : ReadsFar task.reads task.to_end before after number
  pub at_goal : (files : Contents) (rest : List ℕ) → Tells task before files rest → before.left ≡ Some rest →
      ReadsToGoal task.reads task.to_end (task.answers files) rest after number
