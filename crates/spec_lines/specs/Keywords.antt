-- The keys of a specification file, and on how many lines each may stand.
use Rattle.std.specs.Prelude.{ℕ, List, [], ◌∷◌, Bool, Option, Some, None, if◌then◌else◌, map, filter, count_by, codes}
use Rattle.std.specs.Str.{bytes_eq}
use Rattle.spec_lines.specs.declared.keywords.Keyword.{Keyword}
use Rattle.spec_lines.specs.declared.keywords.Keyword.TheVariants.{Version, Dialect, Inputs, Outputs, First, Assume, Goal, Limit, Empty, Duty}
use Rattle.spec_lines.specs.declared.keywords.Heading.{Heading}
use Rattle.spec_lines.specs.declared.keywords.Heading.TheVariants.{Unsaid, One, Two}
use Rattle.spec_lines.specs.Lines.{TextLine}

-- the word of a key
unfoldable pub word_of : Keyword → List ℕ
word_of Version = codes "version"
word_of Dialect = codes "dialect"
word_of Inputs = codes "inputs"
word_of Outputs = codes "outputs"
word_of First = codes "first"
word_of Assume = codes "assume"
word_of Goal = codes "goal"
word_of Limit = codes "limit"
word_of Empty = codes "empty"
word_of Duty = codes "duty"

-- every key
unfoldable pub keywords : List Keyword
keywords = Version ∷ Dialect ∷ Inputs ∷ Outputs ∷ First ∷ Assume ∷ Goal ∷ Limit ∷ Empty ∷ Duty ∷ []

-- the first of the keys that has this word
abbrev pub keyword_among : List Keyword → List ℕ → Option Keyword
keyword_among [] word = None
keyword_among (k ∷ ks) word = if bytes_eq word (word_of k) then Some k else keyword_among ks word

-- the key that has this word
abbrev pub keyword_of : List ℕ → Option Keyword
keyword_of word = keyword_among keywords word

-- whether a line has this key
abbrev pub is_of : Keyword → TextLine → Bool
is_of k line = bytes_eq line.key (word_of k)

-- the lines with this key
abbrev pub lines_with : Keyword → List TextLine → List TextLine
lines_with k lines = filter (is_of k) lines

-- their values
abbrev pub values_of : Keyword → List TextLine → List (List ℕ)
values_of k lines = map (λ line. line.value) (lines_with k lines)

-- how many lines have this key
abbrev pub count_of : Keyword → List TextLine → ℕ
count_of k lines = count_by (is_of k) lines

-- On how many lines a key may stand under this heading. A key that may stand on none is unknown.
abbrev pub most_lines : Heading → Keyword → ℕ
most_lines Unsaid Version = 0
most_lines One Version = 1
most_lines Two Version = 1
most_lines Two Assume = 64
most_lines Two Goal = 64
most_lines Two Duty = 64
most_lines Two Empty = 1
most_lines One Empty = 0
most_lines Unsaid Empty = 0
most_lines One Duty = 0
most_lines Unsaid Duty = 0
most_lines heading k = 1

-- the heading that a `version` line gives
abbrev pub heading_of_value : List ℕ → Option Heading
heading_of_value value =
    if bytes_eq value (codes "1") then Some One
    else if bytes_eq value (codes "2") then Some Two
    else None

-- The heading of a file, from the leading one of the lines that count: a `version` line says it, and where another line
-- or none leads, the file has version 1. A `version` line with another value gives none.
abbrev pub heading_of : List TextLine → Option Heading
heading_of [] = Some Unsaid
heading_of (line ∷ later) = if is_of Version line then heading_of_value line.value else Some Unsaid
