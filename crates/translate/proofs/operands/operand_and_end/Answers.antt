use Rattle.std.proofs.Common.{sym, subst}
use Rattle.std.specs.Prelude.{not}
use Rattle.std.specs.Int.{from_bool}
use Rattle.diagrams.specs.Live.{Means}
use Rattle.translate.specs.Exact.{accepted}
use Rattle.translate.specs.Joined.{ended}
use Rattle.translate.specs.Standing.{Stands}
use Rattle.translate.proofs.StandingLemmas.{goes_on_by, Stands-lasts, Stands-end, truth_body, fits_by}
use Rattle.translate.proofs.operands.operand_and_end.Goals as goal

pub returns-clause-cells : goal.returns-clause-cells
returns-clause-cells c =
    let m : Means c.terminal.new.self c.in_ok-body.body (λ _. from_bool (not c.args.ends)) = subst (λ v. Means c.terminal.new.self c.in_ok-body.body (λ _. v)) c.from.ensures c.in_ok-body.ensures.id in
    fits_by c.operand.new.store c.terminal.new.self c.operand.new.cells c.add.new.self _ c.terminal.ensures.keeps c.in_ok-first.ensures.cells (truth_body c.terminal.new.self _ (not c.args.ends) c.in_ok-body.body m) c.in_ok-second.ensures.ok

pub returns-clause-first : goal.returns-clause-first
returns-clause-first c =
    Stands-lasts c.operand.new.store c.terminal.new.self c.operand.new.cells c.add.new.self c.in_ok-first.first (accepted c.args.store.now c.args.automaton.now) c.terminal.ensures.keeps
    (goes_on_by c.operand.new.cells c.add.new.self _ c.in_ok-second.ensures.ok) c.in_ok-first.ensures.stands

pub returns-clause-second : goal.returns-clause-second
returns-clause-second c =
    let m : Means c.terminal.new.self c.in_ok-body.body (λ _. from_bool (not c.args.ends)) = subst (λ v. Means c.terminal.new.self c.in_ok-body.body (λ _. v)) c.from.ensures c.in_ok-body.ensures.id in
    subst (λ v. Stands c.terminal.new.self c.add.new.self v (ended c.args.ends)) (sym c.in_ok-second.ensures.number)
    (Stands-end c.terminal.new.self c.operand.new.cells c.add.new.self c.args.ends c.in_ok-body.body c.terminal.ensures.keeps.now m c.in_ok-second.ensures.ok)
