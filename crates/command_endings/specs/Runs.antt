-- How a run ends: its message is put once, and the status told.
use Rattle.std.specs.Prelude.{◌≡◌, ◌≢◌, ℕ, ◌≤◌, ◌⊎◌, List, [], take, Option}
use Rattle.std.specs.Io.KnownBytes.{append_known}
use Rattle.bes_io.specs.Causes.{Rose}
use Rattle.command_endings.specs.declared.endings.Ending.{Ending}
use Rattle.command_endings.specs.declared.endings.Ending.TheVariants.{NoMemory}
use Rattle.command_endings.specs.Endings.{status_of, message_of}

-- the status that stands where the message could not be put
abbrev pub unheard_status : Ending → ℕ
unheard_status NoMemory = 8
unheard_status ending = 7

-- the message was put, and the status is the ending's
pub record Told (ending : Ending) (old : Option (List ℕ)) (before : ℕ) (new : Option (List ℕ)) (now number : ℕ) : Type 0 where
  pub status : number ≡ status_of ending
  pub text : new ≡ append_known old (message_of ending)
  pub faults : now ≡ before

-- the message was not put, or in part
pub record Unheard (ending : Ending) (old : Option (List ℕ)) (before : ℕ) (new : Option (List ℕ)) (now number : ℕ) : Type 0 where
  pub status : number ≡ unheard_status ending
  pub some : message_of ending ≢ []
  pub part : (n : ℕ) × (new ≡ append_known old (take n (message_of ending)))
  pub later : before ≤ now
  pub rose : Rose before now

-- the message was put, or not whole
abbrev pub Finishes : Ending → Option (List ℕ) → ℕ → Option (List ℕ) → ℕ → ℕ → Type 0
Finishes ending old before new now number = Told ending old before new now number ⊎ Unheard ending old before new now number
