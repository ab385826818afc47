use Rattle.std.proofs.Common.{◌≤◌, ◌*◌, sym, subst}
use Rattle.std.specs.Option.{option_copied}
use Rattle.diagrams.proofs.Meaning.{Keeps_trans}
use Rattle.automata.specs.Table.{size_of}
use Rattle.arena.specs.Building.{assumed_count, duty_count}
use Rattle.arena.specs.Left.{locations_of}
use Rattle.strategy.specs.Plan.{plan_of}
use Rattle.synthesis.specs.Claims.{claims_of}
use Rattle.synthesis.proofs.FormulaLemmas.{right-fault-same, printed-in, kept-same}
use Rattle.synthesis.proofs.synthesis.synthesise.Goals as goal

pub returns-in_ok-strategy_of-in-Ok-clause-keeps : goal.returns-in_ok-strategy_of-in-Ok-clause-keeps
returns-in_ok-strategy_of-in-Ok-clause-keeps c =
    Keeps_trans c.args.store.now c.build.new.store c.strategy_of.new.store c.build.ensures.keeps c.strategy_of.ensures.keeps

pub returns-in_ok-strategy_of-in-Ok-clause-printed : goal.returns-in_ok-strategy_of-in-Ok-clause-printed
returns-in_ok-strategy_of-in-Ok-clause-printed c d agree =
    printed-in c.in-Ok.arena.partition c.args.partition c.in-Ok.ensures.partition
    (claims_of c.args.store.now c.args.goal.now (option_copied c.args.keep) (option_copied c.args.duty)) d (locations_of c.build.new.store c.in-Ok.arena)
    (plan_of c.strategy_of.new.store c.in_ok-strategy_of-in-Ok.field-0) c.in-Ok.arena.has_duty
    (c.in_ok-strategy_of-in-Ok.ensures.printed (claims_of c.args.store.now c.args.goal.now (option_copied c.args.keep) (option_copied c.args.duty)) d)
    agree (sym c.in-Ok.ensures.duty) c.in-Ok.ensures.arena c.in-Ok.ensures.kept

pub returns-in_ok-strategy_of-in-Ok-clause-few : goal.returns-in_ok-strategy_of-in-Ok-clause-few
returns-in_ok-strategy_of-in-Ok-clause-few c =
    subst (λ n. n ≤ size_of c.args.goal.now * assumed_count (option_copied c.args.keep) * duty_count (option_copied c.args.duty))
    (sym c.in_ok-strategy_of-in-Ok.ensures.size) c.in-Ok.ensures.few

pub returns-in_ok-strategy_of-in-Ok-clause-kept : goal.returns-in_ok-strategy_of-in-Ok-clause-kept
returns-in_ok-strategy_of-in-Ok-clause-kept c d agree =
    kept-same c.args.partition (claims_of c.args.store.now c.args.goal.now (option_copied c.args.keep) (option_copied c.args.duty)) d agree c.in-Ok.ensures.kept

pub returns-in-Err-clause-unkeepable : goal.returns-in-Err-clause-unkeepable
returns-in-Err-clause-unkeepable c d agree =
    right-fault-same c.args.partition (claims_of c.args.store.now c.args.goal.now (option_copied c.args.keep) (option_copied c.args.duty)) d agree c.in-Err.fault c.in-Err.ensures.unkeepable
