-- What an opened monitor is, and where one is at a verdict.
use Rattle.std.specs.Prelude.{◌≡◌, ℕ, List, [], length, Option, Some, None}
use Rattle.forms.specs.Word.{Claim}
use Rattle.diagrams.specs.Eval.{Diagrams}
use Rattle.monitor.specs.declared.verdict.Verdict.{Verdict}
use Rattle.monitor.specs.Verdicts.{verdict_of}
use Rattle.monitor.specs.Configuration.{Configuration, IsReady, LeadsTo, IsClaimOf}
use Rattle.command_endings.specs.declared.endings.Ending.{Ending}
use Rattle.command_endings.specs.declared.endings.Ending.TheVariants.{Refused}
use Rattle.command_endings.specs.declared.endings.Refusal.TheVariants as refusal
use Rattle.monitor_command.specs.Monitoring.{ending_of}

-- a monitor of the claim, before the first letter
pub record IsOpened (s : Diagrams) (m : Configuration) (names : List (List ℕ)) (claimed : Claim) : Type 0 where
  pub ready : IsReady s m
  pub props : s.props ≡ length names
  pub claim : IsClaimOf s m.automaton claimed
  pub start : LeadsTo s m []

-- how a run ends at the end of the input, by the last verdict
abbrev pub ending_after : Option Verdict → Ending
ending_after None = Refused refusal.NoEvent
ending_after (Some v) = ending_of (verdict_of v)
