-- A command as data, and what one does to the files, the input and the output.
use Rattle.std.specs.Prelude.{◌≡◌, ℕ, ◌⊎◌, Bool, List, [], take, Option, Some}
use Rattle.std.specs.Io.KnownBytes.{append_known}
use Rattle.bes_io.specs.Causes.{Rose}
use Rattle.command_endings.specs.declared.endings.Ending.{Ending}
use Rattle.command_endings.specs.declared.endings.Ending.TheVariants.{OutsideFault, NoMemory}
use Rattle.command_endings.specs.Endings.{status_of}
use Rattle.command_endings.specs.Replies.{Reply}
use Rattle.command_endings.specs.Worlds.{Contents, World, IfNeeded, is_needed, FileFailed, KeepsCounts, Gains}
use Rattle.command_endings.specs.Streams.{Streams}
use Rattle.command_endings.specs.Far.{ReadsFar, ReadsToGoal}

-- What a command line asks for: the file that is read, whether the input is read, and if so always to its end; whether
-- each line of output is written as soon as the lines of input that it needs are there; when the input comes to be asked,
-- over files that tell what they hold or don't; which files and input are accepted; and the one reply over each.
pub record Task : Type 1 where
  pub file : Option (List ℕ)
  pub reads : Bool
  pub to_end : Bool
  pub streams : Bool
  pub may_read : Option Contents → Type 0
  pub accepts : Contents → List ℕ → Type 0
  pub answers : Contents → List ℕ → Reply → Type 0

-- these files are what is told, where the task reads a file
abbrev pub TellsFiles : Task → World → Contents → Type 0
TellsFiles task world files = IfNeeded (is_needed task.file) (world.contents ≡ Some files)

-- the files tell what the task needs of them, and the input does, where it comes to be asked
pub record Tells (task : Task) (world : World) (files : Contents) (rest : List ℕ) : Type 0 where
  pub told_files : TellsFiles task world files
  pub told_input : task.may_read (Some files) → world.left ≡ Some rest

-- no output is due: that of each reply that holds is empty
abbrev pub NoOutputIsDue : (Reply → Type 0) → Type 0
NoOutputIsDue replies = (reply : Reply) → replies reply → reply.output ≡ []

-- the reply holds: its output was added, and this is how it ends
pub record Gives (replies : Reply → Type 0) (before after : World) (ending : Ending) : Type 0 where
  pub reply : Reply
  pub asked : replies reply
  pub added : after.held ≡ append_known before.held reply.output
  pub ends : ending ≡ reply.ending

-- a fault of the outside: nothing was added, or a prefix of the output of a reply that holds
abbrev pub AddsPrefix : (Reply → Type 0) → World → World → Type 0
AddsPrefix replies before after = (after.held ≡ before.held)
    ⊎ ((reply : Reply) × replies reply × (n : ℕ) × (after.held ≡ append_known before.held (take n reply.output)))

-- what the output gained
abbrev pub Adds : (Reply → Type 0) → World → World → Ending → Type 0
Adds replies before after OutsideFault = AddsPrefix replies before after
Adds replies before after NoMemory = Unit {0}
Adds replies before after ending = Gives replies before after ending

-- a fault has its cause: the input where it came to be asked, the output, or the named file
abbrev pub HasFault : Task → World → World → Type 0
HasFault task before after = (task.may_read before.contents × Rose before.input_faults after.input_faults)
    ⊎ (Rose before.output_faults after.output_faults ⊎ FileFailed task.file before.failed after.failed)

-- a fault has its cause, and else no count rose
abbrev pub Counts : Task → World → World → Ending → Type 0
Counts task before after OutsideFault = HasFault task before after
Counts task before after ending = KeepsCounts before after

-- What a command does to the world, whatever it is, and how the run ends: what the output gained, that a fault has its
-- cause, which file failed, how far the input was read, and, of a command that writes as it reads, what it has read and
-- written where the outside fails. What is left of the input is spoken of only where the input tells its rest.
pub record Performs (task : Task) (before after : World) (ending : Ending) : Type 0 where
  pub adds : (files : Contents) (rest : List ℕ) → Tells task before files rest → Adds (task.answers files rest) before after ending
  pub counts : Counts task before after ending
  pub gains : Gains task.file before.failed after.failed
  pub far : ReadsFar task.reads task.to_end before after (status_of ending)
  pub at_goal : (files : Contents) (rest : List ℕ) → Tells task before files rest → before.left ≡ Some rest → ReadsToGoal task.reads task.to_end (task.answers files) rest after (status_of ending)
  pub streams : IfNeeded task.streams ((files : Contents) (rest : List ℕ) → Tells task before files rest → before.left ≡ Some rest → Streams (task.answers files) rest before after)

-- One put of a whole output: it was added and the run ends as it was to end, or a prefix was added at a fault.
abbrev pub PutsAll : List ℕ → Ending → Option (List ℕ) → ℕ → Option (List ℕ) → ℕ → Ending → Type 0
PutsAll text ending old before new now result = ((result ≡ ending) × (new ≡ append_known old text) × (now ≡ before))
    ⊎ ((result ≡ OutsideFault) × ((n : ℕ) × (new ≡ append_known old (take n text))) × Rose before now)
