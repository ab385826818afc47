-- The lines of verdicts.
use Rattle.std.proofs.Common.{◌≡◌, ℕ, List, Bool, false, refl, ap, Contains, codes}
use Rattle.std.specs.List.{list_any}
use Rattle.std.proofs.lemmas.List.Folds.{list_any_at}
use Rattle.bes_io.specs.Bytes.{is_lf}
use Rattle.forms.specs.Verdict.{Verdict, PermTrue, PermFalse, TempTrue, TempFalse}
use Rattle.command_endings.specs.Calls.{IsWholeLine}
use Rattle.monitor_command.specs.Monitoring.{verdict_line}

-- where no byte is an LF, there is none among them
no-lf : (text : List ℕ) → list_any is_lf text ≡ false → ¬ Contains text 10
no-lf text none (k, inside, at) = let some = list_any_at is_lf text k 10 inside (ap is_lf at) in cc

-- each verdict's line is a whole line
pub verdict-line : (v : Verdict) → IsWholeLine (verdict_line v)
verdict-line PermTrue = (codes "perm_true", refl, no-lf (codes "perm_true") refl)
verdict-line PermFalse = (codes "perm_false", refl, no-lf (codes "perm_false") refl)
verdict-line TempTrue = (codes "temp_true", refl, no-lf (codes "temp_true") refl)
verdict-line TempFalse = (codes "temp_false", refl, no-lf (codes "temp_false") refl)
