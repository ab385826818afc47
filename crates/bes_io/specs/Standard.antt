-- What contracts see of the real outside: how often it failed, and its reader or writer, of which the clauses `reads` and
-- `writes` pass on what std told.
use Rattle.std.specs.Prelude.{◌≡◌, ◌≤◌, ◌⊎◌, ℕ, List, [], length, Option, None}
use Rattle.std.specs.Io.KnownBytes.{Appends, Consumes, IsAtEnd, Keeps}
use Rattle.bes_io.specs.Forms.{counted}
use Rattle.bes_io.specs.declared.standard.StdSource.{StdSource}
use Rattle.bes_io.specs.declared.standard.StdSink.{StdSink}
use Rattle.bes_io.specs.declared.standard.StdFiles.{StdFiles}

-- how often the source has failed
abbrev pub source_faults : {R : Type 0} → StdSource R → ℕ
source_faults source = source.faults

-- how often the sink has failed
abbrev pub sink_faults : {W : Type 0} → StdSink W → ℕ
sink_faults sink = sink.faults

-- the names whose reads failed, in order
abbrev pub failed_names : {R : Type 0} → StdFiles R → List (List ℕ)
failed_names files = files.failed.items

-- the file system tells nothing of what its files hold
abbrev pub told_contents : {R : Type 0} → StdFiles R → Option (List ℕ → Option (List ℕ))
told_contents files = None

-- what the source reads from
abbrev pub reader_of : {R : Type 0} → StdSource R → R
reader_of source = source.reader

-- what the sink writes to
abbrev pub writer_of : {W : Type 0} → StdSink W → W
writer_of sink = sink.writer

-- the source tells nothing of what it has left
abbrev pub told_left : {R : Type 0} → StdSource R → Option (List ℕ)
told_left source = None

-- the sink tells nothing of what it holds
abbrev pub told_held : {W : Type 0} → StdSink W → Option (List ℕ)
told_held sink = None

-- the reader gave these bytes, of no more than the room, and none only at its end, by what readers tell; the faults stand
pub record HasRead {R : Type 0} (remaining : R → Option (List ℕ)) (before : StdSource R) (room : ℕ) (bytes : List ℕ) (after : StdSource R) : Type 0 where
  pub within : length bytes ≤ room
  pub given : Consumes (remaining before.reader) (remaining after.reader) bytes
  pub end : bytes ≡ [] → IsAtEnd (remaining after.reader)
  pub faults_now : after.faults ≡ before.faults

-- the reader gave nothing and lost nothing, by what readers tell, and one more fault is counted
pub record HasFailed {R : Type 0} (remaining : R → Option (List ℕ)) (before : StdSource R) (bytes : List ℕ) (after : StdSource R) : Type 0 where
  pub none : bytes ≡ []
  pub kept : Keeps (remaining before.reader) (remaining after.reader)
  pub faults_now : after.faults ≡ counted before.faults

-- one call of `take` with this room: the reader gave bytes, or failed
abbrev pub IsStdTaken : {R : Type 0} → (R → Option (List ℕ)) → StdSource R → ℕ → List ℕ → StdSource R → Type 0
IsStdTaken remaining before room bytes after = HasRead remaining before room bytes after ⊎ HasFailed remaining before bytes after

-- one call of `put`: the writer took the whole piece, by what writers tell, and the faults stand; or one more is counted
abbrev pub IsStdPut : {W : Type 0} → (W → Option (List ℕ)) → StdSink W → List ℕ → StdSink W → Type 0
IsStdPut contents before piece after = (Appends (contents before.writer) (contents after.writer) piece × (after.faults ≡ before.faults))
    ⊎ (after.faults ≡ counted before.faults)
