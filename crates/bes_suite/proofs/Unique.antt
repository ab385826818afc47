-- The words, the named file and the input ask for one thing, and what is accepted is answered.
use Rattle.std.proofs.Common.{◌<◌, ℕ, List, sym, ◌∙◌}
use Rattle.command_endings.specs.Endings.{status_of}
use Rattle.command_endings.specs.Replies.{Reply}
use Rattle.command_endings.specs.Tasks.{Task}
use Rattle.command_endings.specs.Worlds.{Contents}
use Rattle.judge_command.proofs.OneJudgement.{one-judgement, answered-trace}
use Rattle.forms_command.proofs.ShowingLemmas.{one-showing, shown}
use Rattle.translate_command.proofs.OneTranslation.{one-translation, answered-formula}
use Rattle.monitor_command.proofs.OneMonitoring.{one-monitoring, answered-input}
use Rattle.synth_command.proofs.OneSynth.{one-synth, answered-specification}
use Rattle.bes_suite.specs.declared.commands.Command.{Command}
use Rattle.bes_suite.specs.declared.commands.Command.TheVariants.{Usage, Judge, Forms, Translate, Monitor, Synth}
use Rattle.bes_suite.specs.Commands.{command_of, word_at}
use Rattle.bes_suite.specs.Asked.{task_as, task_of}
use Rattle.bes_suite.specs.Results.{AsksForOne}

one-as : (command : Command) (words : List (List ℕ)) → AsksForOne (task_as command words)
one-as Usage words files rest c d p q = p ∙ sym q
one-as (Judge dialect) words files rest c d p q = one-judgement p q
one-as (Forms dialect) words files rest c d p q = one-showing p q
one-as (Translate dialect) words files rest c d p q = one-translation p q
one-as (Monitor dialect) words files rest c d p q = one-monitoring p q
one-as Synth words files rest c d p q = one-synth (word_at words 1) files rest c d p q

-- the words, the files and the input ask for one thing
pub one-reply : (words : List (List ℕ)) → AsksForOne (task_of words)
one-reply words = one-as (command_of words) words

-- what a task accepts, it answers
abbrev pub AnswersAll : Task → Type 0
AnswersAll task = (files : Contents) (rest : List ℕ) (reply : Reply) → task.accepts files rest → task.answers files rest reply → status_of reply.ending < 2

all-as : (command : Command) (words : List (List ℕ)) → AnswersAll (task_as command words)
all-as Usage words files rest reply accepted asked = absurd accepted
all-as (Judge dialect) words files rest reply accepted asked = answered-trace accepted asked
all-as (Forms dialect) words files rest reply accepted asked = shown accepted asked
all-as (Translate dialect) words files rest reply accepted asked = answered-formula accepted asked
all-as (Monitor dialect) words files rest reply accepted asked = answered-input accepted asked
all-as Synth words files rest reply accepted asked = answered-specification (word_at words 1) files rest reply accepted asked

-- what the words accept is answered
pub all-answered : (words : List (List ℕ)) → AnswersAll (task_of words)
all-answered words = all-as (command_of words) words
