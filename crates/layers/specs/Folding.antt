-- Rows folded over the outputs.
use Rattle.std.specs.Prelude.{◌≡◌, ◌<◌, ◌≤◌, ◌+◌, ◌^◌, ◌==◌, ℕ, suc, nat_lt, if◌then◌else◌, List, slice_index, Option, Some}
use Rattle.diagrams.specs.declared.top.Id.{Id}
use Rattle.diagrams.specs.Tree.{Assignment}
use Rattle.diagrams.specs.Eval.{Diagrams, eval, DependsOn}
use Rattle.diagrams.specs.Live.{IsLive}
use Rattle.diagrams.specs.Kept.{AllKept}
use Rattle.diagrams.specs.Transformed.{item_value, same_id}
use Rattle.attractor.specs.Graph.{number_at}
use Rattle.layers.specs.declared.folding.Below.{Below}
use Rattle.layers.specs.declared.folding.Below.TheVariants.{Item, Place, Sink}
use Rattle.layers.specs.declared.folding.Folding.{Folding}

-- x is the least of the table's items at the values of f
pub record IsLeastItem (s : Diagrams) (table : List ℕ) (f : Id) (x : ℕ) : Type 0 where
  pub bounds : (a : Assignment) → x ≤ item_value s table f a
  pub taken : (a : Assignment) × (item_value s table f a ≡ x)

-- the number is kept for one diagram more
abbrev pub IsFound : List (Option ℕ) → List (Option ℕ) → Id → ℕ → Type 0
IsFound old new f x = (k : ℕ) → number_at new k ≡ (if k == f.0 then Some x else number_at old k)

-- a live diagram and its least item
pub record IsLeastFound (s : Diagrams) (table : List ℕ) (f : Id) (x : ℕ) : Type 0 where
  pub live : IsLive s f
  pub least : IsLeastItem s table f x

-- each number that is kept is the least item of its diagram
abbrev pub AllLeast : Diagrams → List ℕ → List (Option ℕ) → Type 0
AllLeast s table found = (f : Id) (x : ℕ) → number_at found f.0 ≡ Some x → IsLeastFound s table f x

-- the numbers of locations and those of numbers are terminals
abbrev pub HasRoom : Below → Type 0
HasRoom Item = Unit {0}
HasRoom (Place size) = size + size + 1 < 2 ^ 32
HasRoom (Sink sink) = Unit {0}

-- what is put in place of the value t where y is the least item
abbrev pub instead_of : Below → ℕ → ℕ → ℕ
instead_of Item y t = y
instead_of (Place size) y t = if nat_lt y (suc size) then suc size + y else t
instead_of (Sink sink) y t = if y == 0 then sink else t

-- the id is put in place of f, by its least item
pub record IsInstead (s n : Diagrams) (below : Below) (table : List ℕ) (f id : Id) : Type 0 where
  pub item : ℕ
  pub least : IsLeastItem s table f item
  pub live : IsLive n id
  pub value : (a : Assignment) → eval n id a ≡ instead_of below item (eval s f a)

-- the variables before one have the same values
abbrev pub AgreeBefore : ℕ → Assignment → Assignment → Type 0
AgreeBefore inputs a b = (v : ℕ) → v < inputs → b v ≡ a v

-- x is the least value of h where the variables from one on may change
pub record IsLeastAfter (inputs : ℕ) (h : Assignment → ℕ) (a : Assignment) (x : ℕ) : Type 0 where
  pub bounds : (b : Assignment) → AgreeBefore inputs a b → x ≤ h b
  pub taken : (b : Assignment) × AgreeBefore inputs a b × (h b ≡ x)

-- the value is put in place of that of h, by the least item of h
abbrev pub IsFoldedValue : Below → ℕ → List ℕ → (Assignment → ℕ) → Assignment → ℕ → Type 0
IsFoldedValue below inputs table h a x = (y : ℕ) × IsLeastAfter inputs (λ b. slice_index table (h b)) a y × (x ≡ instead_of below y (h a))

-- in n the row has, at each assignment, what is put in place of the value of f
pub record IsFoldedRow (s n : Diagrams) (below : Below) (inputs : ℕ) (table : List ℕ) (f row : Id) : Type 0 where
  pub live : IsLive n row
  pub value : (a : Assignment) → IsFoldedValue below inputs table (eval s f) a (eval n row a)
  pub above : (v : ℕ) → DependsOn s f (λ w. v < w) → DependsOn n row (λ w. v < w)

-- a live diagram and the row that is made of it
pub record IsFolded (s : Diagrams) (below : Below) (inputs : ℕ) (table : List ℕ) (f row : Id) : Type 0 where
  pub live : IsLive s f
  pub row_is : IsFoldedRow s s below inputs table f row

-- what was found is right
pub record IsRightFor (s : Diagrams) (below : Below) (inputs : ℕ) (table : List ℕ) (folding : Folding) : Type 0 where
  pub found : AllLeast s table folding.found.items
  pub made : AllKept same_id (IsFolded s below inputs table) folding.made
