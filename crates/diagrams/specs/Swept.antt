-- What a sweep keeps.
use Rattle.std.specs.Prelude.{◌≡◌, ℕ, ◌<◌, ◌⊎◌, List, length, Some}
use Rattle.std.proofs.Common.{zero, suc}
use Rattle.diagrams.specs.declared.top.Id.{Id}
use Rattle.diagrams.specs.declared.top.Look.TheVariants.{Node}
use Rattle.diagrams.specs.Tree.{Assignment}
use Rattle.diagrams.specs.Eval.{Diagrams, top_of, eval, id_at}
use Rattle.diagrams.specs.Live.{IsLive, IsCanonical}

-- the id is a child of another
pub record IsChild (s : Diagrams) (f i : Id) : Type 0 where
  pub var : ℕ
  pub lo : Id
  pub hi : Id
  pub top : top_of s f ≡ Some (Node var lo hi)
  pub one : (i ≡ lo) ⊎ (i ≡ hi)

-- the id is reached from another in so many steps
abbrev pub IsReachedIn : ℕ → Diagrams → Id → Id → Type 0
IsReachedIn zero s f i = i ≡ f
IsReachedIn (suc n) s f i = (p : Id) × IsReachedIn n s f p × IsChild s p i

-- the id is reached from one of a list
abbrev pub IsReached : Diagrams → List Id → Id → Type 0
IsReached s roots i = (k : ℕ) × (k < length roots) × ((n : ℕ) × IsReachedIn n s (id_at roots k) i)

-- just the ids that are reached from the roots stay live, with what they meant
pub record IsSwept (old new : Diagrams) (roots : List Id) : Type 0 where
  pub was : IsCanonical old
  pub now : IsCanonical new
  pub props : new.props ≡ old.props
  pub slots : length new.tops ≡ length old.tops
  pub tops : (i : Id) → IsReached old roots i → top_of new i ≡ top_of old i
  pub live : (i : Id) → IsReached old roots i → IsLive new i
  pub value : (i : Id) → IsReached old roots i → (a : Assignment) → eval new i a ≡ eval old i a
  pub ended : (i : Id) → IsLive new i → IsReached old roots i
