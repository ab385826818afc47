-- What a contract sees of the memory forms.
use Rattle.std.specs.Prelude.{◌≡◌, ℕ, ◌+◌, ◌-◌, ◌^◌, ◌<◌, ◌⊎◌, min, List, [], Contains, length, take, drop, Option, None, Some}
use Rattle.std.specs.Prelude.{◌∷◌, ◌++◌, if◌then◌else◌}
use Rattle.std.specs.Str.{bytes_eq}

-- a count that stands still at its type's end
abbrev pub counted : ℕ → ℕ
counted n = min (n + 1) (2 ^ 64 - 1)

-- a source over memory: its rest, the most bytes of a call, the calls that are to fail, the calls and the faults so far
pub record MemorySource : Type 0 where
  pub rest : List ℕ
  pub piece : ℕ
  pub fails : List ℕ
  pub calls : ℕ
  pub faults : ℕ

-- the next call of the source is to fail
abbrev pub SourceFails : MemorySource → Type 0
SourceFails s = Contains s.fails (counted s.calls)

-- how many bytes the next call gives
abbrev pub given : MemorySource → ℕ → ℕ
given s room = min s.piece (min room (length s.rest))

-- a call of `take` is counted and gives the first n bytes of the rest; the faults are these, and nothing else changes
pub record HasGiven (before : MemorySource) (n : ℕ) (faults : ℕ) (after : MemorySource) : Type 0 where
  pub rest_now : after.rest ≡ drop n before.rest
  pub faults_now : after.faults ≡ faults
  pub calls : after.calls ≡ counted before.calls
  pub piece : after.piece ≡ before.piece
  pub fails : after.fails ≡ before.fails

-- one call of `take` with this room gives the bytes that are due, or fails, and then gives none, and the fault is counted
abbrev pub IsMemTaken : MemorySource → ℕ → List ℕ → MemorySource → Type 0
IsMemTaken before room bytes after =
    ((¬ SourceFails before) × (bytes ≡ take (given before room) before.rest) × HasGiven before (given before room) before.faults after)
    ⊎ (SourceFails before × (bytes ≡ []) × HasGiven before 0 (counted before.faults) after)

-- a sink over memory: what it holds, its room, how much of its piece a call that fails still adds, the calls that are to
-- fail, the calls and the faults so far
pub record MemorySink : Type 0 where
  pub bytes : List ℕ
  pub room : ℕ
  pub partly : ℕ
  pub fails : List ℕ
  pub calls : ℕ
  pub faults : ℕ

-- the next call of the sink with this piece fails
abbrev pub SinkFails : MemorySink → List ℕ → Type 0
SinkFails s piece = Contains s.fails (counted s.calls) ⊎ (s.room < length s.bytes + length piece)

-- what a call that fails still adds: the front of the piece, as far as the room goes
abbrev pub added_partly : MemorySink → List ℕ → List ℕ
added_partly s piece = take (min s.partly (s.room - length s.bytes)) piece

-- a call of `put` is counted and adds these bytes; the faults are these, and nothing else changes
pub record HasAdded (before : MemorySink) (bytes : List ℕ) (faults : ℕ) (after : MemorySink) : Type 0 where
  pub bytes_now : after.bytes ≡ before.bytes ++ bytes
  pub faults_now : after.faults ≡ faults
  pub calls : after.calls ≡ counted before.calls
  pub room : after.room ≡ before.room
  pub partly : after.partly ≡ before.partly
  pub fails : after.fails ≡ before.fails

-- one call of `put` adds the whole piece, or fails, and then adds what a call that fails still adds, and the fault is counted
abbrev pub IsMemPut : MemorySink → List ℕ → MemorySink → Type 0
IsMemPut before piece after = ((¬ SinkFails before piece) × HasAdded before piece before.faults after)
    ⊎ (SinkFails before piece × HasAdded before (added_partly before piece) (counted before.faults) after)

-- the bytes of the file with this name
abbrev pub file_at : List (List ℕ) → List (List ℕ) → List ℕ → Option (List ℕ)
file_at (n ∷ names) (c ∷ contents) name = if bytes_eq n name then Some c else file_at names contents name
file_at names contents name = None

-- files over memory: the names with the contents, the calls that are to fail, the calls and the names that failed so far
pub record MemoryFiles : Type 0 where
  pub names : List (List ℕ)
  pub contents : List (List ℕ)
  pub fails : List ℕ
  pub calls : ℕ
  pub failed : List (List ℕ)

-- the next read of this name fails
abbrev pub FilesFail : MemoryFiles → List ℕ → Type 0
FilesFail s name = Contains s.fails (counted s.calls) ⊎ (file_at s.names s.contents name ≡ None)
