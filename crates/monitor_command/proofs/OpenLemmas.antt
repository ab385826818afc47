-- What an opened monitor answers is what `monitor` is asked for.
use Rattle.std.proofs.Common.{◌≡◌, ℕ, List, length, subst}
use Rattle.forms.specs.Tree.{Formula}
use Rattle.forms.specs.Satisfaction.{meets}
use Rattle.form_tokens.specs.declared.dialect.Dialect.{Dialect}
use Rattle.class_limit.specs.Limits.{AreFew}
use Rattle.command_endings.specs.Formulas.{IsFormula, names_of}
use Rattle.command_endings.specs.Replies.{Reply}
use Rattle.monitor_command.specs.Monitoring.{IsMonitored, MonitorAnswers, monitored}

-- what is monitored is what `monitor` answers
pub monitor-answers : (dialect : Dialect) (text : List ℕ) (names : List (List ℕ)) (f : Formula) → IsFormula dialect text f → names ≡ names_of dialect text → AreFew names f
    → (bytes : List ℕ) (reply : Reply) → IsMonitored names (λ w. meets (length names) f w) bytes reply → MonitorAnswers dialect text bytes reply
monitor-answers dialect text names f is same within bytes reply w =
    monitored is (subst (λ n. AreFew n f) same within) (subst (λ n. IsMonitored n (λ w. meets (length n) f w) bytes reply) same w)
