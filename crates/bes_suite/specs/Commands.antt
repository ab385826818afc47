-- The commands, by the words of the command line.
use Rattle.std.specs.Prelude.{ℕ, ◌==◌, if◌then◌else◌, List, [], length, codes, Option, Some, None}
use Rattle.std.specs.List.{slice_index_or}
use Rattle.std.specs.Str.{bytes_eq}
use Rattle.form_tokens.specs.declared.dialect.Dialect.{Dialect}
use Rattle.form_tokens.specs.declared.dialect.Dialect.TheVariants.{Ltlf, Ldlf}
use Rattle.bes_suite.specs.declared.commands.Command.{Command}
use Rattle.bes_suite.specs.declared.commands.Command.TheVariants.{Usage, Judge, Forms, Translate, Monitor, Synth}

-- a word of the command line, counted from 0
abbrev pub word_at : List (List ℕ) → ℕ → List ℕ
word_at words i = slice_index_or words i []

-- the dialect that a word names
abbrev pub dialect_of : List ℕ → Option Dialect
dialect_of word = if bytes_eq word (codes "ltlf") then Some Ltlf else if bytes_eq word (codes "ldlf") then Some Ldlf else None

-- the command that a word names, in a dialect
abbrev pub command_in : List ℕ → Dialect → Command
command_in word dialect = if bytes_eq word (codes "judge") then Judge dialect
    else if bytes_eq word (codes "forms") then Forms dialect
    else if bytes_eq word (codes "translate") then Translate dialect
    else if bytes_eq word (codes "monitor") then Monitor dialect
    else Usage

-- the same, where the dialect may be none
abbrev pub command_with : List ℕ → Option Dialect → Command
command_with word None = Usage
command_with word (Some dialect) = command_in word dialect

-- the command that a word names, on a file
abbrev pub command_on : List ℕ → Command
command_on word = if bytes_eq word (codes "synth") then Synth else Usage

-- what so many words ask for, of which these are the first two: two are a command and a file, three a command, a dialect and
-- a formula
abbrev pub command_named : ℕ → List ℕ → List ℕ → Command
command_named count first second = if count == 2 then command_on first
    else if count == 3 then command_with first (dialect_of second)
    else Usage

-- what the words ask for
abbrev pub command_of : List (List ℕ) → Command
command_of words = command_named (length words) (word_at words 0) (word_at words 1)
