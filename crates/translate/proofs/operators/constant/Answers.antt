use Rattle.std.proofs.Common.{subst, length}
use Rattle.std.specs.Int.{from_bool}
use Rattle.diagrams.specs.Live.{Means}
use Rattle.translate.proofs.LeastLemmas.{least_same_ok}
use Rattle.translate.proofs.OperatorLemmas.{fits_none, constant_claim, constant_holds}
use Rattle.translate.proofs.operators.constant.Goals as goal

pub solved-requires : goal.solved-requires
solved-requires c =
    let m : Means c.terminal.new.self c.in_ok-start.start (λ _. from_bool c.args.value) = subst (λ v. Means c.terminal.new.self c.in_ok-start.start (λ _. v)) c.from.ensures c.in_ok-start.ensures.id in
    record { fits = fits_none c.terminal.new.self c.new-cells.result c.new-cells.ensures; start = constant_claim c.terminal.new.self (length c.new-cells.result) c.args.value c.in_ok-start.start m }

pub returns-clause-least : goal.returns-clause-least
returns-clause-least c =
    let m : Means c.terminal.new.self c.in_ok-start.start (λ _. from_bool c.args.value) = subst (λ v. Means c.terminal.new.self c.in_ok-start.start (λ _. v)) c.from.ensures c.in_ok-start.ensures.id in
    least_same_ok c.solved.result c.solved.new.store _ _ (constant_holds c.terminal.new.self c.new-cells.result c.args.value c.in_ok-start.start m) c.solved.ensures.least
