-- What contracts see of a table of obligations.
use Rattle.std.specs.Prelude.{ℕ, Bool, false, List, slice_index_or, slice_set}
use Rattle.diagrams.specs.declared.top.Id.{Id}
use Rattle.obligations.specs.declared.cells.Obligation.{Obligation}

-- what stands where there is no obligation
abbrev pub missing : Obligation
missing = record { ends = false; body = record { 0 = 0 } }

-- the end value of an obligation
abbrev pub ends_of : List Obligation → ℕ → Bool
ends_of c j = (slice_index_or c j missing).ends

-- the body of an obligation
abbrev pub body_of : List Obligation → ℕ → Id
body_of c j = (slice_index_or c j missing).body

-- the table with another body for one obligation
abbrev pub with_body : List Obligation → ℕ → Id → List Obligation
with_body c j body = slice_set c j (record { ends = ends_of c j; body = body })
