-- The value of obligations on words.
use Rattle.std.specs.Prelude.{ℕ, ◌<◌, ◌+◌, ◌-◌, ◌==◌, nat_lt, Bool, false, if◌then◌else◌, List, [], ◌∷◌, length}
use Rattle.diagrams.specs.declared.top.Id.{Id}
use Rattle.diagrams.specs.Tree.{Assignment}
use Rattle.diagrams.specs.Eval.{Diagrams, eval, DependsOn, letter_truth}
use Rattle.diagrams.specs.Live.{IsLive}
use Rattle.diagrams.specs.Composed.{IsObligation}
use Rattle.obligations.specs.declared.cells.Obligation.{Obligation}
use Rattle.obligations.specs.Table.{ends_of, body_of}

-- the propositions by a letter, and obligation j, which is variable p + j, by a value for each
abbrev pub joint : ℕ → ℕ → (ℕ → Bool) → Assignment
joint p letter values = λ v. if nat_lt v p then letter_truth p letter v else values (v - p)

-- the obligations alone, by a value for each
abbrev pub by_values : ℕ → (ℕ → Bool) → Assignment
by_values p values = λ v. if nat_lt v p then false else values (v - p)

-- whether obligation j holds on a word
abbrev pub cell : Diagrams → List Obligation → List ℕ → ℕ → Bool
cell s c [] j = ends_of c j
cell s c (letter ∷ word) j = eval s (body_of c j) (joint s.props letter (cell s c word)) == 1

-- whether a diagram over obligations holds on a word
abbrev pub holds : Diagrams → List Obligation → Id → List ℕ → Bool
holds s c f word = eval s f (by_values s.props (cell s c word)) == 1

-- a diagram over obligations of a table, with the terminals 0 and 1
pub record IsClaim (s : Diagrams) (count : ℕ) (f : Id) : Type 0 where
  pub live : IsLive s f
  pub over : DependsOn s f (IsObligation s.props count)
  pub truth : (a : Assignment) → eval s f a < 2

-- a body: a diagram over propositions and obligations of a table, with the terminals 0 and 1
pub record IsBody (s : Diagrams) (count : ℕ) (f : Id) : Type 0 where
  pub live : IsLive s f
  pub over : DependsOn s f (λ v. v < s.props + count)
  pub truth : (a : Assignment) → eval s f a < 2

-- the table fits the store
abbrev pub FitsCells : Diagrams → List Obligation → Type 0
FitsCells s c = (j : ℕ) → j < length c → IsBody s (length c) (body_of c j)
