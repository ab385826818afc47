-- Relations on the locations of an automaton, and what rows keep of them.
use Rattle.std.specs.Prelude.{◌≡◌, ℕ, ◌<◌, ◌+◌, ◌*◌, ◌==◌, ◌&&◌, ◌||◌, nat_lt, Bool, true, false, if◌then◌else◌, List, slice_index_or, Contains}
use Rattle.std.specs.HashSet as set
use Rattle.std.specs.HashSet.{HashSet}
use Rattle.diagrams.specs.declared.top.Id.{Id}
use Rattle.diagrams.specs.Tree.{Assignment}
use Rattle.diagrams.specs.Eval.{Diagrams, eval}
use Rattle.diagrams.specs.Live.{IsLive}
use Rattle.automata.specs.Table.{Table, size_of, mark_of, row_of}
use Rattle.obligations.specs.declared.simulation.Compared.{Compared}
use Rattle.obligations.specs.contracts.simulation.ComparedPartialEq.TheImpl as compared_eq
use Rattle.obligations.specs.Inclusion.{accepts_from, all_accept, AllBelow, AllSimulate}

-- a square of so many locations, row by row
pub record Pairs : Type 0 where
  pub size : ℕ
  pub pairs : List Bool

-- whether one location is related to another
abbrev pub related : Pairs → ℕ → ℕ → Bool
related r x y = nat_lt x r.size && nat_lt y r.size && slice_index_or r.pairs (x * r.size + y) false

-- a live diagram whose terminals are below a number
pub record LeadsBelow (s : Diagrams) (size : ℕ) (f : Id) : Type 0 where
  pub live : IsLive s f
  pub below : (a : Assignment) → eval s f a < size

-- the values of one diagram are related to those of another
abbrev pub LeadsWithin : Diagrams → (ℕ → ℕ → Bool) → Id → Id → Type 0
LeadsWithin s R f g = (a : Assignment) → R (eval s f a) (eval s g a) ≡ true

-- whether two pairs of diagrams are the same
abbrev pub same_compared : Compared → Compared → Bool
same_compared = (compared_eq.ghosts).eq

-- each pair of diagrams in the set has related values
abbrev pub IsKnown : {S : Type 0} → Diagrams → (ℕ → ℕ → Bool) → HashSet Compared S → Type 0
IsKnown {S = S} s R known = (pair : Compared) → set.contains same_compared known pair ≡ true → LeadsWithin s R pair.lower pair.upper

-- the set with one more pair
abbrev pub IsNoted : {S : Type 0} → HashSet Compared S → HashSet Compared S → Compared → Type 0
IsNoted {S = S} old new pair = (other : Compared) → set.contains same_compared new other ≡ (if same_compared pair other then true else set.contains same_compared old other)

-- a location has the mark 1 where another has it, and leads to locations that are related to those of the other
pub record IsSimulated (s : Diagrams) (t : Table) (R : ℕ → ℕ → Bool) (x y : ℕ) : Type 0 where
  pub marks : (mark_of t x == 1) ≡ true → (mark_of t y == 1) ≡ true
  pub rows : LeadsWithin s R (row_of t x) (row_of t y)

-- those of the first so many locations that are related to x simulate it
abbrev pub AreSimulated : Diagrams → Table → (ℕ → ℕ → Bool) → ℕ → ℕ → Type 0
AreSimulated s t R x count = (y : ℕ) → y < count → R x y ≡ true → IsSimulated s t R x y

-- whether a location is the same or is related
abbrev pub or_same : (ℕ → ℕ → Bool) → ℕ → ℕ → Bool
or_same R x y = x == y || R x y

-- locations to which x is related, or itself; it is among them
pub record AreSimulators (R : ℕ → ℕ → Bool) (size x : ℕ) (list : List ℕ) : Type 0 where
  pub within : AllBelow size list
  pub each : AllSimulate (or_same R) x list
  pub itself : Contains list x

-- a location accepts every word
abbrev pub AcceptsAll : Diagrams → Table → ℕ → Type 0
AcceptsAll s t at = (w : List ℕ) → accepts_from s t at w ≡ true

-- locations that all accept exactly where one does
pub record IsWiderAt (s : Diagrams) (t : Table) (at : ℕ) (list : List ℕ) : Type 0 where
  pub within : AllBelow (size_of t) list
  pub same : (w : List ℕ) → all_accept s t w list ≡ accepts_from s t at w
