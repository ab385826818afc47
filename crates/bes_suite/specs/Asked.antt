-- What the words ask for: one line a command.
use Rattle.std.specs.Prelude.{◌≡◌, ℕ, List, false, None}
use Rattle.command_endings.specs.declared.endings.Refusal.TheVariants as refusal
use Rattle.command_endings.specs.Replies.{refusing}
use Rattle.command_endings.specs.Tasks.{Task}
use Rattle.judge_command.specs.Judge.{judge_task}
use Rattle.forms_command.specs.Showing.{forms_task}
use Rattle.translate_command.specs.Translation.{translate_task}
use Rattle.monitor_command.specs.Monitoring.{monitor_task}
use Rattle.synth_command.specs.Synthesis.{synth_task}
use Rattle.bes_suite.specs.declared.commands.Command.{Command}
use Rattle.bes_suite.specs.declared.commands.Command.TheVariants.{Usage, Judge, Forms, Translate, Monitor, Synth}
use Rattle.bes_suite.specs.Commands.{command_of, word_at}

-- words that are none of the listed forms are refused, and nothing is accepted
abbrev pub usage_task : Task
usage_task = record {
  file = None;
  reads = false;
  to_end = false;
  streams = false;
  may_read = λ contents. ⊥;
  accepts = λ files rest. ⊥;
  answers = λ files rest reply. reply ≡ refusing refusal.Usage;
}

-- the task of a command, with these words
abbrev pub task_as : Command → List (List ℕ) → Task
task_as Usage words = usage_task
task_as (Judge dialect) words = judge_task dialect (word_at words 2)
task_as (Forms dialect) words = forms_task dialect (word_at words 2)
task_as (Translate dialect) words = translate_task dialect (word_at words 2)
task_as (Monitor dialect) words = monitor_task dialect (word_at words 2)
task_as Synth words = synth_task (word_at words 1)

-- the task of the words
abbrev pub task_of : List (List ℕ) → Task
task_of words = task_as (command_of words) words
