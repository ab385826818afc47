-- What the specification of a text and its first refusal share beside lines, keys and values.
use Rattle.std.specs.Prelude.{ℕ, ◌++◌, List, true}
use Rattle.forms.specs.declared.partition.Mover.{Mover}
use Rattle.forms.specs.declared.partition.Mover.TheVariants.{Agent, Environment}
use Rattle.form_tokens.specs.Names.{Table}

-- how many bytes a specification file may have
abbrev pub longest_text : ℕ
longest_text = 65536

-- the names of the first mover, and then those of the other
abbrev pub first_names : Mover → List (List ℕ) → List (List ℕ) → List (List ℕ)
first_names Agent inputs outputs = outputs ++ inputs
first_names Environment inputs outputs = inputs ++ outputs

-- the table of names that formulas are read with
abbrev pub table_of : List (List ℕ) → Table
table_of names = record { names = names; closed = true }
