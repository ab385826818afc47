-- The file of a name, place by place.
use Rattle.std.proofs.Common.{◌≡◌, ℕ, ◌+◌, ◌<◌, List, [], length, drop, get_or, arith, cond, Some, add-one, drop-cons}
use Rattle.std.proofs.lemmas.Grind.{common_steps}
use Rattle.std.specs.Str.{bytes_eq}
use Rattle.bes_io.specs.Forms.{file_at}

-- the file from a place on is that of the place, or of those after it
pub file_at-drop : (names contents : List (List ℕ)) (name : List ℕ) (i : ℕ) → i < length names → length names ≡ length contents
    → file_at (drop i names) (drop i contents) name ≡ cond (bytes_eq (get_or names i []) name) (Some (get_or contents i [])) (file_at (drop (i + 1) names) (drop (i + 1) contents) name)
file_at-drop names contents name i lt same =
    let lt' : i < length contents = omega arith in
    rw (add-one, drop-cons names i [], drop-cons contents i [])

-- an item with any default is the item with the empty one
pub same-item : (names : List (List ℕ)) (i : ℕ) (item : List ℕ) → i < length names → item ≡ get_or names i item → get_or names i [] ≡ item
same-item names i item lt is = grind (arith, common_steps)
