-- The bodies of obligations that stand for locations.
use Rattle.std.specs.Prelude.{◌≡◌, ℕ, ◌<◌, ◌≤◌, ◌+◌, ◌==◌, List, length, slice_index_or}
use Rattle.diagrams.specs.declared.top.Id.{Id}
use Rattle.diagrams.specs.Tree.{Assignment}
use Rattle.diagrams.specs.Eval.{Diagrams, DependsOn, eval}
use Rattle.diagrams.specs.Live.{IsLive, Means}
use Rattle.diagrams.specs.Eval.{id_at}
use Rattle.automata.specs.Table.{Table, mark_of, row_of, IsRow}
use Rattle.obligations.specs.declared.cells.Obligation.{Obligation}
use Rattle.obligations.specs.Table.{missing, ends_of, body_of}
use Rattle.obligations.specs.Value.{IsClaim}
use Rattle.obligations.specs.Inclusion.{all_later}

-- a claim over so many obligations from base on: whether those of some locations are all asked of the next position
pub record Asks (s : Diagrams) (base size : ℕ) (ats : List ℕ) (f : Id) : Type 0 where
  pub claim : IsClaim s (base + size) f
  pub value : (a : Assignment) → (eval s f a == 1) ≡ all_later s base a ats

-- for each of the first so many locations the diagram of those that go with it
pub record AllAsk (s : Diagrams) (base size : ℕ) (wider : ℕ → List ℕ) (items : List Id) (count : ℕ) : Type 0 where
  pub number : length items ≡ count
  pub each : (at : ℕ) → at < count → Asks s base size (wider at) (id_at items at)

-- the id is live, and depends on obligations alone
pub record IsLater (s : Diagrams) (f : Id) : Type 0 where
  pub live : IsLive s f
  pub over : DependsOn s f (λ v. s.props ≤ v)

-- each item is live, and depends on obligations alone
abbrev pub AllAreLater : Diagrams → List Id → Type 0
AllAreLater s items = (at : ℕ) → at < length items → IsLater s (id_at items at)

-- the value of the item to which a row leads
abbrev pub entered_value : Diagrams → List Id → Id → Assignment → ℕ
entered_value s items row a = eval s (id_at items (eval s row a)) a

-- in n the id has the value of the item to which a row leads
abbrev pub Enters : Diagrams → Diagrams → List Id → Id → Id → Type 0
Enters s n items row id = Means n id (entered_value s items row)

-- a row, and the id that has the value of the item to which it leads
pub record IsEntered (s : Diagrams) (items : List Id) (row id : Id) : Type 0 where
  pub row_fits : IsRow s (length items) row
  pub enters : Enters s s items row id

-- the table ends with obligations for the first so many locations, each with the mark as its end value
pub record HasEnds (c : List Obligation) (t : Table) (base count : ℕ) : Type 0 where
  pub number : length c ≡ base + count
  pub ends : (at : ℕ) → at < count → ends_of c (base + at) ≡ (mark_of t at == 1)

-- d is c, but for the bodies from base on
pub record HasOtherBodies (base : ℕ) (c d : List Obligation) : Type 0 where
  pub number : length d ≡ length c
  pub ends : (j : ℕ) → ends_of d j ≡ ends_of c j
  pub before : (j : ℕ) → j < base → slice_index_or d j missing ≡ slice_index_or c j missing

-- the bodies from base on have the values of the items to which the rows of the first so many locations lead
abbrev pub AllEnter : Diagrams → List Obligation → Table → ℕ → List Id → ℕ → Type 0
AllEnter s c t base items count = (at : ℕ) → at < count → Enters s s items (row_of t at) (body_of c (base + at))
