-- The files, the input and the output as one value, before and after a run.
use Rattle.std.specs.Prelude.{◌≡◌, ℕ, ◌⊎◌, Bool, true, false, List, [], ◌∷◌, ◌++◌, Option, Some, None}

-- what the files hold, by their names
abbrev pub Contents : Type 0
Contents = List ℕ → Option (List ℕ)

-- What the files hold, which of their names failed, what the input has left and what the output holds, where they tell
-- it, and the counts of faults of the input and the output.
pub record World : Type 0 where
  pub contents : Option Contents
  pub failed : List (List ℕ)
  pub left : Option (List ℕ)
  pub input_faults : ℕ
  pub held : Option (List ℕ)
  pub output_faults : ℕ

-- the world of these parts
abbrev pub world : Option Contents → List (List ℕ) → Option (List ℕ) → ℕ → Option (List ℕ) → ℕ → World
world contents failed left input_faults held output_faults =
    record { contents = contents; failed = failed; left = left; input_faults = input_faults; held = held; output_faults = output_faults }

-- a fact that is asked for only where it is needed
abbrev pub IfNeeded : Bool → Type 0 → Type 0
IfNeeded true fact = fact
IfNeeded false fact = Unit {0}

-- a file is needed
abbrev pub is_needed : Option (List ℕ) → Bool
is_needed None = false
is_needed (Some name) = true

-- the named file, and it alone, joined the names that failed
abbrev pub FileFailed : Option (List ℕ) → List (List ℕ) → List (List ℕ) → Type 0
FileFailed None before after = ⊥
FileFailed (Some name) before after = after ≡ before ++ name ∷ []

-- the names that failed gained nothing, or the file that is needed
abbrev pub Gains : Option (List ℕ) → List (List ℕ) → List (List ℕ) → Type 0
Gains file before after = (after ≡ before) ⊎ FileFailed file before after

-- no count rose
pub record KeepsCounts (before after : World) : Type 0 where
  pub input_faults : after.input_faults ≡ before.input_faults
  pub output_faults : after.output_faults ≡ before.output_faults
  pub failed : after.failed ≡ before.failed
