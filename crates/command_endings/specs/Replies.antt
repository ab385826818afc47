-- What a run is to add to the output, and how it is to end.
use Rattle.std.specs.Prelude.{ℕ, List, []}
use Rattle.command_endings.specs.declared.endings.Refusal.{Refusal}
use Rattle.command_endings.specs.declared.endings.Ending.{Ending}
use Rattle.command_endings.specs.declared.endings.Ending.TheVariants.{Refused}

-- an output, and how the run ends with it
pub record Reply : Type 0 where
  pub output : List ℕ
  pub ending : Ending

-- a refusal adds nothing to the output
abbrev pub refusing : Refusal → Reply
refusing refusal = record { output = []; ending = Refused refusal }
