-- Columns: the values of an operator over a block of positions, from the columns of its operands.
use Rattle.std.specs.Prelude.{ℕ, ◌%◌, ◌==◌, map, List, [], ◌∷◌, Bool, false}
use Rattle.std.specs.Int.{bit_at}
use Rattle.trace_meaning.specs.declared.operator.Unary.{Unary}
use Rattle.trace_meaning.specs.declared.operator.Binary.{Binary}
use Rattle.trace_meaning.specs.Operator.{unary_now, unary_handed_on, binary_now}

-- what the first position hands on, b being handed to the last one
abbrev pub handed : Unary → Bool → List Bool → Bool
handed op b [] = b
handed op b (x ∷ xs) = unary_handed_on op x (handed op b xs)

-- the column of an operator of one operand
abbrev pub changed : Unary → Bool → List Bool → List Bool
changed op b [] = []
changed op b (x ∷ xs) = unary_now op x (handed op b xs) ∷ changed op b xs

-- the value at the first position of an operator of two operands, b being that after the last one
abbrev pub first : Binary → Bool → List Bool → List Bool → Bool
first op b [] ys = b
first op b (x ∷ xs) [] = b
first op b (x ∷ xs) (y ∷ ys) = binary_now op x y (first op b xs ys)

-- the column of an operator of two operands
abbrev pub column : Binary → Bool → List Bool → List Bool → List Bool
column op b [] ys = []
column op b (x ∷ xs) [] = []
column op b (x ∷ xs) (y ∷ ys) = binary_now op x y (first op b xs ys) ∷ column op b xs ys

-- which of the letters have the bit
unfoldable pub bits_of : ℕ → List ℕ → List Bool
bits_of bit letters = map (λ a. bit_at a (bit % 64) == 1) letters

-- the last value, or false if there is none
abbrev pub last : List Bool → Bool
last [] = false
last (x ∷ []) = x
last (x ∷ y ∷ ys) = last (y ∷ ys)

-- the values before the last
abbrev pub without_last : List Bool → List Bool
without_last [] = []
without_last (x ∷ []) = []
without_last (x ∷ y ∷ ys) = x ∷ without_last (y ∷ ys)
