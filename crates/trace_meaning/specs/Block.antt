-- A block of letters: what is found of a formula at each of them, and what is kept of it before them,
-- from what is kept after them.
use Rattle.std.specs.Prelude.{List, Bool, true, false, length, replicate}
use Rattle.forms.specs.Word.{Word}
use Rattle.trace_meaning.specs.declared.operator.Unary.TheVariants as unary
use Rattle.trace_meaning.specs.Column.{handed, changed, first, column, bits_of}
use Rattle.trace_meaning.specs.Leads.{both, one_of, through, rest_of, first_lead}
use Rattle.trace_meaning.specs.Star.{first_or, turns_further, turns_followed}
use Rattle.trace_meaning.specs.State.{State, PathState, Fixed, Atom, Unary, Binary, Diamond, Step, Test, Choice, Seq, Star}

abbrev mutual
  -- the value at each letter
  pub values : Word → State → List Bool
  values w (Fixed b) = replicate (length w) b
  values w (Atom bit) = bits_of bit w
  values w (Unary op f later) = changed op later (values w f)
  values w (Binary op f g later) = column op later (values w f) (values w g)
  values w (Diamond p f later) =
      through (further_column w (changed unary.Next later (values w f)) p) (stays w p) (values w f)

  -- what is kept before the block
  pub moved : Word → State → State
  moved w (Fixed b) = Fixed b
  moved w (Atom bit) = Atom bit
  moved w (Unary op f later) = Unary op (moved w f) (handed op later (values w f))
  moved w (Binary op f g later) = Binary op (moved w f) (moved w g) (first op later (values w f) (values w g))
  moved w (Diamond p f later) =
      Diamond (path_moved w (changed unary.Next later (values w f)) p) (moved w f) (handed unary.Next later (values w f))

  -- whether the path leads further to a good position from each letter, `later` saying of each whether
  -- the next position is good
  pub further_column : Word → List Bool → PathState → List Bool
  further_column w later (Step f xs) = both (values w f) later
  further_column w later (Test f xs) = replicate (length w) false
  further_column w later (Choice p q) = one_of (further_column w later p) (further_column w later q)
  further_column w later (Seq p q next) =
      one_of (further_column w (rest_of next (further_column w later q) (stays w q) later) p) (both (further_column w later q) (stays w p))
  further_column w later (Star p next) = turns_further next later (marked w p)

  -- whether the path leads from each letter to itself
  pub stays : Word → PathState → List Bool
  stays w (Step f xs) = replicate (length w) false
  stays w (Test f xs) = values w f
  stays w (Choice p q) = one_of (stays w p) (stays w q)
  stays w (Seq p q next) = both (stays w p) (stays w q)
  stays w (Star p next) = replicate (length w) true

  -- what is kept of the path before the block
  pub path_moved : Word → List Bool → PathState → PathState
  path_moved w later (Step f xs) = Step (moved w f) xs
  path_moved w later (Test f xs) = Test (moved w f) xs
  path_moved w later (Choice p q) = Choice (path_moved w later p) (path_moved w later q)
  path_moved w later (Seq p q next) =
      Seq (path_moved w (rest_of next (further_column w later q) (stays w q) later) p) (path_moved w later q)
      (first_lead next (further_column w later q) (stays w q))
  path_moved w later (Star p next) =
      Star (turns_followed next later (marked w p)) (first_or next (turns_further next later (marked w p)))

  -- a path within a star, its formulas having read the block and the path itself not yet
  pub marked : Word → PathState → PathState
  marked w (Step f xs) = Step (moved w f) (values w f)
  marked w (Test f xs) = Test (moved w f) (values w f)
  marked w (Choice p q) = Choice (marked w p) (marked w q)
  marked w (Seq p q next) = Seq (marked w p) (marked w q) next
  marked w (Star p next) = Star (marked w p) next
