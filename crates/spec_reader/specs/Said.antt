-- What lines say beside what the first refusal asks of them.
use Rattle.std.specs.Prelude.{ℕ, List, Bool, true, false, map}
use Rattle.std.specs.Option.{is_some}
use Rattle.spec_lines.specs.Lines.{TextLine}
use Rattle.spec_lines.specs.Keywords.{values_of}
use Rattle.spec_lines.specs.declared.keywords.Keyword.{Keyword}
use Rattle.spec_lines.specs.declared.keywords.Keyword.TheVariants as key
use Rattle.spec_lines.specs.declared.keywords.Heading.{Heading}
use Rattle.spec_lines.specs.Values.{dialect_of, mover_of, empty_of, limit_of, most_limit}
use Rattle.spec_reader.specs.Refusal.{said_or}

-- whether the value is one that the key may have; names and formulas are tried elsewhere
abbrev pub is_read : Heading → List ℕ → Keyword → Bool
is_read heading value key.Dialect = is_some (dialect_of value)
is_read heading value key.First = is_some (mover_of value)
is_read heading value key.Limit = is_some (limit_of (most_limit heading) value)
is_read heading value key.Empty = is_some (empty_of value)
is_read heading value k = true

-- the limit of the lines
abbrev pub said_limit : Heading → List TextLine → ℕ
said_limit heading lines = said_or 1024 (map (limit_of (most_limit heading)) (values_of key.Limit lines))

-- whether the lines say that the empty history may meet the goal
abbrev pub said_empty : List TextLine → Bool
said_empty lines = said_or false (map empty_of (values_of key.Empty lines))
