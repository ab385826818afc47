-- Verdicts as the claims' own.
use Rattle.forms.specs.Verdict as claims
use Rattle.monitor.specs.declared.verdict.Verdict.{Verdict}
use Rattle.monitor.specs.declared.verdict.Verdict.TheVariants.{PermTrue, PermFalse, TempTrue, TempFalse}

-- the verdict of the same name
abbrev pub verdict_of : Verdict → claims.Verdict
verdict_of PermTrue = claims.PermTrue
verdict_of PermFalse = claims.PermFalse
verdict_of TempTrue = claims.TempTrue
verdict_of TempFalse = claims.TempFalse
