-- The text of a strategy.
use Rattle.std.specs.Prelude.{ℕ, zero, suc, ◌-◌, ◌^◌, Bool, true, false, List, [], ◌∷◌, ◌++◌, take, drop, codes, decimal, nat_lt, Option, Some, None, if◌then◌else◌}
use Rattle.game.specs.Board.{Mover, Agent, Environment, Partition, width}
use Rattle.game.specs.Marks.{Mark, Goal, Win, Pending, Lost, Held, LostIn}
use Rattle.printed_strategy.specs.Strategy.{Strategy, Choice, is_goal}
use Rattle.printed_strategy.specs.Printed.{answer_in}
use Rattle.printed_strategy.specs.CubeLines.{function_lines}

-- the bits of a number, the highest first
abbrev pub bits_of : ℕ → ℕ → List ℕ
bits_of zero n = []
bits_of (suc k) n = if nat_lt n (2 ^ k) then 48 ∷ bits_of k n else 49 ∷ bits_of k (n - 2 ^ k)

-- the same, `.` where there is none
abbrev pub bits_text : ℕ → ℕ → List ℕ
bits_text zero n = codes "."
bits_text (suc k) n = bits_of (suc k) n

abbrev pub mark_text : Mark → List ℕ
mark_text Goal = codes "goal"
mark_text (Win n) = codes "win " ++ decimal n
mark_text (Pending n) = codes "open " ++ decimal n
mark_text Lost = codes "lost"
mark_text Held = codes "held"
mark_text (LostIn n) = codes "lost " ++ decimal n

abbrev pub target_text : Option ℕ → List ℕ
target_text None = codes "illegal"
target_text (Some at) = decimal at

abbrev pub choice_text : ℕ → Option Choice → List ℕ
choice_text outputs None = codes "illegal"
choice_text outputs (Some c) = mark_text c.mark ++ codes " " ++ bits_text outputs c.output

abbrev pub answer_text : ℕ → Option ℕ → List ℕ
answer_text inputs None = []
answer_text inputs (Some x) = bits_text inputs x

-- so many propositions has a decision: environment first its inputs
abbrev pub decision_width : Mover → Partition → ℕ
decision_width Agent parts = 0
decision_width Environment parts = parts.inputs

-- so many has what the environment is shown: agent first the outputs
abbrev pub shown_width : Mover → Partition → ℕ
shown_width Agent parts = parts.outputs
shown_width Environment parts = 0

-- a location has answers where it is neither met nor won
abbrev pub has_answers : Mark → Bool
has_answers Goal = false
has_answers (Win n) = false
has_answers (Pending n) = true
has_answers Lost = true
has_answers Held = true
has_answers (LostIn n) = true

-- the lines of where rounds lead, of what is chosen, and of what is answered
abbrev pub round_lines : Strategy → ℕ → List ℕ
round_lines t at = function_lines (codes "round") (width t.parts) (λ a. target_text (t.target at a))

abbrev pub move_lines : Strategy → ℕ → List ℕ
move_lines t at = function_lines (codes "move") (decision_width t.parts.first t.parts) (λ x. choice_text t.parts.outputs (t.choice at x))

abbrev pub answer_lines : Strategy → ℕ → List ℕ
answer_lines t at = function_lines (codes "answer") (shown_width t.parts.first t.parts) (λ y. answer_text t.parts.inputs (answer_in (t.answers at) y))

-- what stands below a location's line
abbrev pub lines_below : Strategy → ℕ → List ℕ
lines_below t at = if is_goal (t.mark at) then []
    else round_lines t at ++ move_lines t at ++ (if has_answers (t.mark at) then answer_lines t at else [])

abbrev pub location_text : Strategy → ℕ → List ℕ
location_text t at = codes "location " ++ decimal at ++ codes " " ++ mark_text (t.mark at) ++ codes "\n" ++ lines_below t at

-- the first so many locations
abbrev pub location_texts : Strategy → ℕ → List ℕ
location_texts t zero = []
location_texts t (suc n) = location_texts t n ++ location_text t n

abbrev pub version_line : Bool → List ℕ
version_line false = codes "strategy 1\n"
version_line true = codes "strategy 2\n"

abbrev pub verdict_line : Option ℕ → List ℕ
verdict_line None = codes "verdict unrealisable\n"
verdict_line (Some n) = codes "verdict realisable " ++ decimal n ++ codes "\n"

abbrev pub first_line : Mover → List ℕ
first_line Agent = codes "first agent\n"
first_line Environment = codes "first environment\n"

-- names, with a space before each
abbrev pub spaced : List (List ℕ) → List ℕ
spaced [] = []
spaced (name ∷ names) = codes " " ++ name ++ spaced names

-- the first mover's names come first
abbrev pub input_names : Mover → Partition → List (List ℕ) → List (List ℕ)
input_names Agent parts names = drop parts.outputs names
input_names Environment parts names = take parts.inputs names

abbrev pub output_names : Mover → Partition → List (List ℕ) → List (List ℕ)
output_names Agent parts names = take parts.outputs names
output_names Environment parts names = drop parts.inputs names

abbrev pub head_text : List (List ℕ) → Strategy → List ℕ
head_text names t = version_line t.has_duty ++ verdict_line t.verdict ++ first_line t.parts.first
    ++ codes "inputs" ++ spaced (input_names t.parts.first t.parts names) ++ codes "\n"
    ++ codes "outputs" ++ spaced (output_names t.parts.first t.parts names) ++ codes "\n"
    ++ codes "locations " ++ decimal t.size ++ codes "\n"

-- the whole text, over these names
unfoldable pub strategy_text : List (List ℕ) → Strategy → List ℕ
strategy_text names t = head_text names t ++ location_texts t t.size ++ codes "end\n"
