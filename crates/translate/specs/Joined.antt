-- Truth values joined by an operation of diagrams, and what an operator says that asks itself again at the next position.
use Rattle.std.specs.Prelude.{Bool, false, [], ◌∷◌, ◌&&◌, ◌||◌}
use Rattle.forms.specs.Word.{Claim, is_empty}
use Rattle.forms.specs.Operators.{agree}
use Rattle.diagrams.specs.declared.work.Op.{Op}
use Rattle.diagrams.specs.declared.work.Op.TheVariants.{And, Or, Iff, Least, Greatest, Pair}

-- the operation joins truth values
abbrev pub IsJoin : Op → Type 0
IsJoin And = Unit {0}
IsJoin Or = Unit {0}
IsJoin Iff = Unit {0}
IsJoin Least = ⊥
IsJoin Greatest = ⊥
IsJoin (Pair w) = ⊥

-- what an operation says of two truth values, where it joins them
abbrev pub joined : Op → Bool → Bool → Bool
joined And x y = x && y
joined Or x y = x || y
joined Iff x y = agree x y
joined Least x y = false
joined Greatest x y = false
joined (Pair w) x y = false

-- f here joined with the same at the next position; a constant at the end
abbrev pub repeated : Op → Bool → Claim → Claim
repeated op ends f [] = ends
repeated op ends f (a ∷ w) = joined op (f (a ∷ w)) (repeated op ends f w)

-- g here joined with what joins f here and the same at the next position; a constant at the end
abbrev pub awaited : Op → Op → Bool → Claim → Claim → Claim
awaited outer inner ends f g [] = ends
awaited outer inner ends f g (a ∷ w) = joined outer (g (a ∷ w)) (joined inner (f (a ∷ w)) (awaited outer inner ends f g w))

-- the word is empty, or for false it is not
abbrev pub ended : Bool → Claim
ended value w = agree value (is_empty w)

-- whether the next position is the end joined with f there; a constant at the end
abbrev pub stepped : Op → Bool → Claim → Claim
stepped op ends f [] = ends
stepped op ends f (a ∷ w) = joined op (ended ends w) (f w)
