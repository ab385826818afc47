-- Why a text is no specification file: the first fault, in the order in which faults are sought.
use Rattle.std.specs.Prelude.{ℕ, ◌+◌, ◌++◌, ◌==◌, nat_lt, List, [], ◌∷◌, Option, Some, None, if◌then◌else◌, map, length}
use Rattle.std.specs.Option.{option_map}
use Rattle.forms.specs.declared.partition.Mover.{Mover}
use Rattle.forms.specs.declared.partition.Mover.TheVariants.{Agent}
use Rattle.form_tokens.specs.declared.dialect.Dialect.{Dialect}
use Rattle.form_tokens.specs.declared.dialect.Dialect.TheVariants.{Ltlf}
use Rattle.form_tokens.specs.declared.name_fault.NameFault.{NameFault}
use Rattle.form_tokens.specs.declared.name_fault.NameFault.TheVariants as name_faults
use Rattle.form_reader.specs.declared.fault.FormFault.{FormFault}
use Rattle.form_reader.specs.declared.fault.FormFault.TheVariants as form_faults
use Rattle.form_tokens.specs.Names.{Table, name_refusal}
use Rattle.form_reader.specs.Reading.{refusal}
use Rattle.spec_lines.specs.Lines.{TextLine, counted_lines}
use Rattle.spec_lines.specs.Keywords.{keyword_of, heading_of, most_lines, lines_with, values_of, count_of}
use Rattle.spec_lines.specs.declared.keywords.Keyword.{Keyword}
use Rattle.spec_lines.specs.declared.keywords.Keyword.TheVariants as key
use Rattle.spec_lines.specs.declared.keywords.Heading.{Heading}
use Rattle.spec_lines.specs.Values.{dialect_of, mover_of, empty_of, limit_of, most_limit, words_of}
use Rattle.spec_reader.specs.declared.spec.Key.{Key}
use Rattle.spec_reader.specs.declared.spec.Key.TheVariants as missing
use Rattle.spec_reader.specs.declared.spec.SpecFault.{SpecFault}
use Rattle.spec_reader.specs.declared.spec.SpecFault.TheVariants as fault
use Rattle.spec_reader.specs.Shared.{longest_text, first_names, table_of}

-- a fault, or else a later one
abbrev pub or_else : Option SpecFault → Option SpecFault → Option SpecFault
or_else None later = later
or_else (Some e) later = Some e

-- the fault of a key on a line with this number, where so many lines before have the key, of so many that may
abbrev pub count_fault : ℕ → ℕ → ℕ → Option SpecFault
count_fault number count most =
    if most == 0 then Some (fault.UnknownKey number)
    else if nat_lt count most then None
    else if most == 1 then Some (fault.Repeated number)
    else Some (fault.TooManyLines number)

-- the fault of a line's key, by the lines before it
abbrev pub key_fault : Heading → List TextLine → ℕ → Option Keyword → Option SpecFault
key_fault heading before number None = Some (fault.UnknownKey number)
key_fault heading before number (Some k) = count_fault number (count_of k before) (most_lines heading k)

-- the fault of a value that stands for nothing
abbrev pub unless_read : {A : Type 0} → ℕ → Option A → Option SpecFault
unless_read number None = Some (fault.BadValue number)
unless_read number (Some x) = None

-- the fault of a name that isn't added to a table
abbrev pub named : ℕ → NameFault → SpecFault
named number name_faults.Bad = fault.BadName number
named number name_faults.Twice = fault.NameTwice number
named number name_faults.TooMany = fault.TooManyNames number
named number name_faults.Memory = fault.Memory

-- the fault of a word as a name, or else a later one
abbrev pub name_or_else : ℕ → Option NameFault → Option SpecFault → Option SpecFault
name_or_else number None later = later
name_or_else number (Some e) later = Some (named number e)

-- the first fault of the words as names, where these are given already
abbrev pub names_fault : ℕ → List (List ℕ) → List (List ℕ) → Option SpecFault
names_fault number given [] = None
names_fault number given (word ∷ later) =
    name_or_else number (name_refusal given word) (names_fault number (given ++ word ∷ []) later)

-- the fault of a line's value, where these names are given before it
abbrev pub value_fault : Heading → List (List ℕ) → TextLine → Option Keyword → Option SpecFault
value_fault heading given line (Some key.Inputs) = names_fault line.number given (words_of line.value)
value_fault heading given line (Some key.Outputs) = names_fault line.number given (words_of line.value)
value_fault heading given line (Some key.Dialect) = unless_read line.number (dialect_of line.value)
value_fault heading given line (Some key.First) = unless_read line.number (mover_of line.value)
value_fault heading given line (Some key.Limit) = unless_read line.number (limit_of (most_limit heading) line.value)
value_fault heading given line (Some key.Empty) = unless_read line.number (empty_of line.value)
value_fault heading given line k = None

-- the names that a line gives, after those given before
abbrev pub given_with : List (List ℕ) → TextLine → Option Keyword → List (List ℕ)
given_with given line (Some key.Inputs) = given ++ words_of line.value
given_with given line (Some key.Outputs) = given ++ words_of line.value
given_with given line k = given

-- the first fault of the lines: at each its key, by the lines before it, and then its value, by the names given before
abbrev pub lines_fault : Heading → List TextLine → List (List ℕ) → List TextLine → Option SpecFault
lines_fault heading before given [] = None
lines_fault heading before given (line ∷ later) =
    let k = keyword_of line.key in
    or_else (key_fault heading before line.number k)
    (or_else (value_fault heading given line k)
    (lines_fault heading (before ++ line ∷ []) (given_with given line k) later))

-- a key without a value, as no line has it
abbrev pub absence : Key → List (List ℕ) → Option SpecFault
absence k [] = Some (fault.Missing k)
absence k (value ∷ later) = None

-- the first key that is missing
abbrev pub missing_fault : List TextLine → Option SpecFault
missing_fault lines =
    or_else (absence missing.Inputs (values_of key.Inputs lines))
    (or_else (absence missing.Outputs (values_of key.Outputs lines))
    (or_else (absence missing.First (values_of key.First lines))
    (absence missing.Goal (values_of key.Goal lines))))

-- a fault of a formula with so many bytes of the line before it: its place counts from the line's first byte
abbrev pub moved : ℕ → FormFault → FormFault
moved before (form_faults.BadByte at) = form_faults.BadByte (before + at)
moved before (form_faults.Unexpected at) = form_faults.Unexpected (before + at)
moved before form_faults.Unfinished = form_faults.Unfinished
moved before (form_faults.TooDeep at) = form_faults.TooDeep (before + at)
moved before (form_faults.TooManyTokens at) = form_faults.TooManyTokens (before + at)
moved before (form_faults.TooManyNames at) = form_faults.TooManyNames (before + at)
moved before (form_faults.Undeclared at) = form_faults.Undeclared (before + at)
moved before form_faults.Memory = form_faults.Memory

-- the fault of a line's formula
abbrev pub form_fault : Dialect → Table → TextLine → Option SpecFault
form_fault d names line = option_map (λ e. fault.Form line.number (moved line.before e)) (refusal d names line.value)

-- the first fault of the lines' formulas
abbrev pub forms_fault : Dialect → Table → List TextLine → Option SpecFault
forms_fault d names [] = None
forms_fault d names (line ∷ later) = or_else (form_fault d names line) (forms_fault d names later)

-- what the first of the values stands for, or else what is meant
abbrev pub said_or : {A : Type 0} → A → List (Option A) → A
said_or default [] = default
said_or default (None ∷ later) = default
said_or default (Some x ∷ later) = x

-- the words of the first of the values
abbrev pub said_words : List (List ℕ) → List (List ℕ)
said_words [] = []
said_words (value ∷ later) = words_of value

-- the dialect of the lines
abbrev pub said_dialect : List TextLine → Dialect
said_dialect lines = said_or Ltlf (map dialect_of (values_of key.Dialect lines))

-- the first mover of the lines
abbrev pub said_first : List TextLine → Mover
said_first lines = said_or Agent (map mover_of (values_of key.First lines))

-- the names of the lines, those of the first mover first
abbrev pub said_names : List TextLine → List (List ℕ)
said_names lines = first_names (said_first lines) (said_words (values_of key.Inputs lines)) (said_words (values_of key.Outputs lines))

-- the first fault of the formulas: the assumptions', then the goals', then the duties'
abbrev pub formulas_fault : Dialect → Table → List TextLine → Option SpecFault
formulas_fault d names lines =
    or_else (forms_fault d names (lines_with key.Assume lines))
    (or_else (forms_fault d names (lines_with key.Goal lines))
    (forms_fault d names (lines_with key.Duty lines)))

-- the faults of lines each of which is good by itself: a missing key, then the formulas'
abbrev pub later_fault : List TextLine → Option SpecFault
later_fault lines =
    or_else (missing_fault lines) (formulas_fault (said_dialect lines) (table_of (said_names lines)) lines)

-- the faults of lines with a heading: each line's, then the others
abbrev pub headed_fault : Heading → List TextLine → Option SpecFault
headed_fault heading lines = or_else (lines_fault heading [] [] lines) (later_fault lines)

-- the number of the leading line
abbrev pub leading_number : List TextLine → ℕ
leading_number [] = 0
leading_number (line ∷ later) = line.number

-- the first fault of lines with this heading: a leading `version` line that says no version is one
abbrev pub after_heading : Option Heading → List TextLine → Option SpecFault
after_heading None lines = Some (fault.BadValue (leading_number lines))
after_heading (Some heading) lines = headed_fault heading lines

-- the first fault of the text
abbrev pub first_refusal : List ℕ → Option SpecFault
first_refusal text =
    if nat_lt longest_text (length text) then Some fault.TooLong
    else after_heading (heading_of (counted_lines text)) (counted_lines text)

-- the fault has the cause, unless memory ran out
abbrev pub Blames : SpecFault → Type 0 → Type 0
Blames fault.Memory cause = Unit {0}
Blames e cause = cause
