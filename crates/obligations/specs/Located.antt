-- Locations that stand for diagrams over obligations.
use Rattle.std.specs.Prelude.{◌≡◌, ℕ, ◌<◌, ◌≤◌, ◌-◌, ◌==◌, List, length, slice_index}
use Rattle.diagrams.specs.declared.top.Id.{Id}
use Rattle.diagrams.specs.Tree.{Assignment}
use Rattle.diagrams.specs.Eval.{Diagrams, DependsOn, eval}
use Rattle.diagrams.specs.Live.{IsLive, Keeps}
use Rattle.diagrams.specs.Eval.{id_at}
use Rattle.automata.specs.Table.{Table, size_of, mark_of, row_of, IsRow}
use Rattle.obligations.specs.declared.cells.Obligation.{Obligation}
use Rattle.obligations.specs.Table.{ends_of, body_of}
use Rattle.obligations.specs.Value.{by_values, IsClaim}

-- each obligation is replaced by the value of its body
abbrev pub by_bodies : Diagrams → List Obligation → Assignment → Assignment
by_bodies s c a = λ v. eval s (body_of c (v - s.props)) a == 1

-- the row leads to locations that stand for what is left of a claim after the letter
pub record LeadsToRest (s : Diagrams) (c : List Obligation) (claims : List Id) (claim row : Id) : Type 0 where
  pub fits : IsRow s (length claims) row
  pub left : (a : Assignment) → eval s (id_at claims (eval s row a)) a ≡ eval s claim (by_bodies s c a)

-- a location's mark is what its claim says of the empty word, and its row leads to what is left
pub record IsLocated (s : Diagrams) (c : List Obligation) (claims : List Id) (claim row : Id) (mark : ℕ) : Type 0 where
  pub sound : IsClaim s (length c) claim
  pub leads : LeadsToRest s c claims claim row
  pub end : mark ≡ eval s claim (by_values s.props (ends_of c))

-- each location of a table stands for a claim
pub record AllLocated (s : Diagrams) (c : List Obligation) (claims : List Id) (t : Table) : Type 0 where
  pub size : size_of t ≡ length claims
  pub each : (at : ℕ) → at < length claims → IsLocated s c claims (id_at claims at) (row_of t at) (mark_of t at)

-- the list goes on, with each item where it was
pub record Grows (old new : List Id) : Type 0 where
  pub longer : length old ≤ length new
  pub same : (at : ℕ) → at < length old → id_at new at ≡ id_at old at

-- each item is a claim over so many obligations
abbrev pub AllClaims : Diagrams → ℕ → List Id → Type 0
AllClaims s count claims = (at : ℕ) → at < length claims → IsClaim s count (id_at claims at)

-- in n the row leads, under each letter, to the claim that is left of f
pub record Cuts (s n : Diagrams) (claims : List Id) (f row : Id) : Type 0 where
  pub fits : IsRow n (length claims) row
  pub left : (a : Assignment) → eval n (id_at claims (eval n row a)) a ≡ eval s f a
  pub above : (v : ℕ) → DependsOn s f (λ w. v < w) → DependsOn n row (λ w. v < w)

-- a live diagram and the row that is cut from it
pub record IsCut (s : Diagrams) (claims : List Id) (f row : Id) : Type 0 where
  pub live : IsLive s f
  pub cuts : Cuts s s claims f row

-- the first n bodies of a table, in order
pub record HasFirst (c : List Obligation) (bodies : List Id) (n : ℕ) : Type 0 where
  pub count : length bodies ≡ n
  pub each : (j : ℕ) → j < n → id_at bodies j ≡ body_of c j

-- the bodies of a table, in order
abbrev pub HasBodies : List Obligation → List Id → Type 0
HasBodies c bodies = HasFirst c bodies (length c)

-- what stands while locations are explored: those before at are done
pub record IsExploring (s0 s : Diagrams) (c : List Obligation) (start : Id) (claims rows : List Id) (marks : List ℕ) (at : ℕ) : Type 0 where
  pub keeps : Keeps s0 s
  pub sound : AllClaims s (length c) claims
  pub some : 0 < length claims
  pub first : id_at claims 0 ≡ start
  pub row_count : length rows ≡ at
  pub mark_count : length marks ≡ at
  pub within : at ≤ length claims
  pub each : (k : ℕ) → k < at → IsLocated s c claims (id_at claims k) (id_at rows k) (slice_index marks k)
