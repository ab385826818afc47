-- Live ids: canonical stores, and what stays as a store grows.
use Rattle.std.specs.Prelude.{◌↔◌, ◌≡◌, ◌≢◌, ℕ, ◌<◌, ◌≤◌, List, length, IsSome, is_some, Option, Some, None}
use Rattle.std.specs.List.{count_by}
use Rattle.diagrams.specs.declared.top.Id.{Id}
use Rattle.diagrams.specs.declared.top.Look.{Look}
use Rattle.diagrams.specs.declared.top.Look.TheVariants.{Terminal, Node}
use Rattle.diagrams.specs.Tree.{Assignment, truths}
use Rattle.diagrams.specs.Eval.{Diagrams, top_of, limit, eval}

-- the id names a diagram
abbrev pub IsLive : Diagrams → Id → Type 0
IsLive s i = IsSome (top_of s i)

-- a diagram with this top has all its variables above v
abbrev pub IsTopAbove : ℕ → Option Look → Type 0
IsTopAbove v None = ⊥
IsTopAbove v (Some (Terminal t)) = Unit {0}
IsTopAbove v (Some (Node w lo hi)) = v < w

-- the id is live, and all its variables are above v
abbrev pub StandsAbove : Diagrams → ℕ → Id → Type 0
StandsAbove s v i = IsTopAbove v (top_of s i)

-- a variable and children that make a node: the children stand above it and differ
pub record IsNode (s : Diagrams) (v : ℕ) (lo hi : Id) : Type 0 where
  pub small : v < limit
  pub lo_above : StandsAbove s v lo
  pub hi_above : StandsAbove s v hi
  pub differ : lo ≢ hi

-- variables rise on each path, no node has two equal children, and no two nodes are equal
pub record IsCanonical (s : Diagrams) : Type 0 where
  pub nodes : (i : Id) (v : ℕ) (lo hi : Id) → top_of s i ≡ Some (Node v lo hi) → IsNode s v lo hi
  pub unique : (i j : Id) (n : Look) → top_of s i ≡ Some n → top_of s j ≡ Some n → i ≡ j

-- each live id stays live, with its diagram
pub record Extends (old new : Diagrams) : Type 0 where
  pub props : new.props ≡ old.props
  pub tops : (i : Id) (n : Look) → top_of old i ≡ Some n → top_of new i ≡ Some n

-- how many ids are live
abbrev pub live_count : Diagrams → ℕ
live_count s = count_by is_some s.tops

-- no slot goes, and where there are more of them than before as many ids are live as there are slots
pub record Fills (old new : Diagrams) : Type 0 where
  pub slots : length old.tops ≤ length new.tops
  pub full : length old.tops < length new.tops → live_count new ≡ length new.tops

-- the store was canonical and is so still, and each live id means what it meant
pub record Keeps (old new : Diagrams) : Type 0 where
  pub was : IsCanonical old
  pub now : IsCanonical new
  pub extends : Extends old new

-- the id is live, and names the function f
pub record Means (s : Diagrams) (i : Id) (f : Assignment → ℕ) : Type 0 where
  pub live : IsLive s i
  pub value : (a : Assignment) → eval s i a ≡ f a

-- the id is live, and its terminals are 0 and 1
pub record IsTruth (s : Diagrams) (i : Id) : Type 0 where
  pub live : IsLive s i
  pub truth : (a : Assignment) → eval s i a < 2

-- live ids are equal exactly where they have one value at every finite set of true variables
abbrev pub HasCanonicalIds : Diagrams → Type 0
HasCanonicalIds s = (i j : Id) → IsLive s i → IsLive s j → (i ≡ j) ↔ ((xs : List ℕ) → eval s i (truths xs) ≡ eval s j (truths xs))
