use Rattle.std.proofs.Common.{◌≡◌, ◌∷◌, take}
use Rattle.distinguish.proofs.telling.preceded.Given as goal

abbrev pub invariant-loop-next : goal.invariant-loop-next
invariant-loop-next l = l.longer ≡ l.letter ∷ take l.next-index l.next-items
