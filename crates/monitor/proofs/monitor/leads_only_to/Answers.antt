use Rattle.std.proofs.Common.{false, sym, ◌∙◌, eq-eqb}
use Rattle.std.proofs.lemmas.Bool.{eqb-true}
use Rattle.monitor.proofs.monitor.leads_only_to.Goals as goal

pub returns-in-Terminal : goal.returns-in-Terminal
returns-in-Terminal c =
    let shows = c.in-Terminal.ensures.expands in (
      λ h a. shows a ∙ eqb-true c.in-Terminal.next c.args.at h,
      λ same. eq-eqb c.in-Terminal.next c.args.at (sym (shows (λ _. false)) ∙ same (λ _. false)),
    )
