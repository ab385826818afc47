-- What the values of a specification file stand for.
use Rattle.std.specs.Prelude.{ℕ, ◌==◌, ◌&&◌, not, nat_le, List, Bool, true, false, Option, Some, None, if◌then◌else◌, length, filter, codes, slice_index}
use Rattle.std.specs.List.{slice_split}
use Rattle.std.specs.Str.{bytes_eq, all_ascii_digits}
use Rattle.std.specs.Str.Parse.{digits_value}
use Rattle.forms.specs.declared.partition.Mover.{Mover}
use Rattle.forms.specs.declared.partition.Mover.TheVariants as mover
use Rattle.form_tokens.specs.declared.dialect.Dialect.{Dialect}
use Rattle.form_tokens.specs.declared.dialect.Dialect.TheVariants as dialect
use Rattle.form_tokens.specs.Words.{is_blank}
use Rattle.spec_lines.specs.declared.keywords.Heading.{Heading}
use Rattle.spec_lines.specs.declared.keywords.Heading.TheVariants.{Two}

-- the dialect of a value
abbrev pub dialect_of : List ℕ → Option Dialect
dialect_of value =
    if bytes_eq value (codes "ltlf") then Some dialect.Ltlf
    else if bytes_eq value (codes "ldlf") then Some dialect.Ldlf
    else None

-- the mover of a value
abbrev pub mover_of : List ℕ → Option Mover
mover_of value =
    if bytes_eq value (codes "agent") then Some mover.Agent
    else if bytes_eq value (codes "environment") then Some mover.Environment
    else None

-- whether the empty history may meet the goal
abbrev pub empty_of : List ℕ → Option Bool
empty_of value =
    if bytes_eq value (codes "yes") then Some true
    else if bytes_eq value (codes "no") then Some false
    else None

-- the greatest limit under this heading
abbrev pub most_limit : Heading → ℕ
most_limit Two = 4096
most_limit heading = 1024

-- the limit of a value: decimal digits of which the first is no `0`, for a number that isn't too great
abbrev pub limit_of : ℕ → List ℕ → Option ℕ
limit_of most value =
    if all_ascii_digits value && not (slice_index value 0 == 48) && nat_le 1 (digits_value 10 value) && nat_le (digits_value 10 value) most
    then Some (digits_value 10 value) else None

-- the words of a value, between blanks
abbrev pub words_of : List ℕ → List (List ℕ)
words_of value = filter (λ word. not (length word == 0)) (slice_split is_blank value)
