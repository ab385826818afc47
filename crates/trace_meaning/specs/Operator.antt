-- The operators at one position, from their operands there and from what the next position hands on.
use Rattle.std.specs.Prelude.{Bool, true, false, ◌&&◌, ◌||◌, not}
use Rattle.forms.specs.Operators.{agree}
use Rattle.trace_meaning.specs.declared.operator.Unary as unary
use Rattle.trace_meaning.specs.declared.operator.Unary.TheVariants.{Not, Next, WeakNext, Eventually, Always}
use Rattle.trace_meaning.specs.declared.operator.Binary as binary
use Rattle.trace_meaning.specs.declared.operator.Binary.TheVariants.{And, Or, Implies, Iff, Until, Release}

-- the value at a position, `later` being what the next one hands on
abbrev pub unary_now : unary.Unary → Bool → Bool → Bool
unary_now Not x later = not x
unary_now Next x later = later
unary_now WeakNext x later = later
unary_now Eventually x later = x || later
unary_now Always x later = x && later

-- what a position hands on: its value, and of the operand of a next that operand's value
abbrev pub unary_handed_on : unary.Unary → Bool → Bool → Bool
unary_handed_on Not x later = not x
unary_handed_on Next x later = x
unary_handed_on WeakNext x later = x
unary_handed_on Eventually x later = x || later
unary_handed_on Always x later = x && later

-- the value at the end of the word
abbrev pub unary_at_end : unary.Unary → Bool → Bool
unary_at_end Not x = not x
unary_at_end Next x = false
unary_at_end WeakNext x = true
unary_at_end Eventually x = false
unary_at_end Always x = true

-- the value at a position, `later` being the value at the next one
abbrev pub binary_now : binary.Binary → Bool → Bool → Bool → Bool
binary_now And x y later = x && y
binary_now Or x y later = x || y
binary_now Implies x y later = not x || y
binary_now Iff x y later = agree x y
binary_now Until x y later = y || x && later
binary_now Release x y later = y && (x || later)

-- the value at the end of the word
abbrev pub binary_at_end : binary.Binary → Bool → Bool → Bool
binary_at_end And x y = x && y
binary_at_end Or x y = x || y
binary_at_end Implies x y = not x || y
binary_at_end Iff x y = agree x y
binary_at_end Until x y = false
binary_at_end Release x y = true
