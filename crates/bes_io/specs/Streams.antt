-- What a source has left and a sink holds, where they tell it.
use Rattle.std.specs.Prelude.{◌∷◌, ◌≡◌, ℕ, List, [], take, Option, Some, Result, Ok, Err}
use Rattle.std.specs.Option.{option_map}
use Rattle.bes_io.specs.declared.outside.FileFault.{FileFault}
use Rattle.bes_io.specs.declared.outside.FileFault.TheVariants.{Failed, Memory}
use Rattle.std.specs.Io.KnownBytes.{prepend_known, append_known}

-- the bytes came from the front of what the source had left
abbrev pub Gives : Option (List ℕ) → List ℕ → Option (List ℕ) → Type 0
Gives old bytes new = old ≡ prepend_known bytes new

-- a call gave the first n bytes, and none only at the end; a failure took nothing
abbrev pub Takes : {E : Type 0} → Option (List ℕ) → Option (List ℕ) → Result ℕ E → List ℕ → Type 0
Takes old new (Ok n) into = Gives old (take n into) new × (n ≡ 0 → (rest : List ℕ) → new ≡ Some rest → rest ≡ [])
Takes old new (Err e) into = new ≡ old

-- a call added the whole piece; a failure added a prefix of it
abbrev pub Puts : {T E : Type 0} → Option (List ℕ) → Option (List ℕ) → Result T E → List ℕ → Type 0
Puts old new (Ok u) piece = new ≡ append_known old piece
Puts old new (Err e) piece = (n : ℕ) × (new ≡ append_known old (take n piece))

-- what a read of the name adds to the names that failed
abbrev pub failure : {T : Type 0} → Result T FileFault → List ℕ → List (List ℕ)
failure (Ok text) name = []
failure (Err Failed) name = name ∷ []
failure (Err Memory) name = []

-- the text is the front of the named file, or all of it where it is shorter
abbrev pub ReadsFile : {T : Type 0} → Option (List ℕ → Option (List ℕ)) → List ℕ → ℕ → Result T FileFault → (T → List ℕ) → Type 0
ReadsFile told name most (Ok text) items = (files : List ℕ → Option (List ℕ)) → told ≡ Some files → option_map (take most) (files name) ≡ Some (items text)
ReadsFile told name most (Err e) items = Unit {0}
