use Rattle.std.proofs.Common.{◌≡◌, ◌++◌, take}
use Rattle.strategy.specs.Listing.{key_of, fields_of, cube_lines}
use Rattle.strategy.proofs.printing.print_cubes.Given as goal

abbrev pub invariant-loop-i : goal.invariant-loop-i
invariant-loop-i l = l.text ≡ l.fn.text ++ cube_lines (key_of l.list) (fields_of l.strategy l.list) (take l.i l.cubes)
