use Rattle.std.proofs.Common.{sym, subst}
use Rattle.std.specs.Option.{option_copied}
use Rattle.game.specs.Board.{width}
use Rattle.synthesis.specs.Formulas.{asked, claims_by, HasCause}
use Rattle.synthesis.proofs.FormulaLemmas.{formulas-agree, arena-cause, few-locations}
use Rattle.synthesis.proofs.formulas.synthesise_formulas.Goals as goal

pub returns-in-Ok-clause-printed : goal.returns-in-Ok-clause-printed
returns-in-Ok-clause-printed c =
    c.in-Ok.ensures.printed (claims_by (width c.args.partition) (asked c.args.formulas.now))
    (formulas-agree c.automata_of.new.store c.args.store.now.props (width c.args.partition) (asked c.args.formulas.now) c.in_ok-made.made
    (option_copied c.reference-keep.result) (option_copied c.reference-duty.result) c.in_ok-made.ensures.automata c.requires.width c.reference-keep.ensures c.reference-duty.ensures)

pub returns-in-Ok-clause-few : goal.returns-in-Ok-clause-few
returns-in-Ok-clause-few c =
    few-locations c.args.store.now.props (width c.args.partition) (asked c.args.formulas.now) c.in_ok-made.made (option_copied c.reference-keep.result)
    (option_copied c.reference-duty.result) _ c.in_ok-made.ensures.counts c.requires.width c.reference-keep.ensures c.reference-duty.ensures c.in-Ok.ensures.few

pub returns-in-Ok-clause-kept : goal.returns-in-Ok-clause-kept
returns-in-Ok-clause-kept c =
    c.in-Ok.ensures.kept (claims_by (width c.args.partition) (asked c.args.formulas.now))
    (formulas-agree c.automata_of.new.store c.args.store.now.props (width c.args.partition) (asked c.args.formulas.now) c.in_ok-made.made
    (option_copied c.reference-keep.result) (option_copied c.reference-duty.result) c.in_ok-made.ensures.automata c.requires.width c.reference-keep.ensures c.reference-duty.ensures)

pub returns-clause-cause : goal.returns-clause-cause
returns-clause-cause c =
    subst (HasCause c.args.limit c.args.partition (asked c.args.formulas.now)) (sym c.fault_of.ensures)
    (arena-cause c.args.limit c.args.partition (asked c.args.formulas.now) c.args.store.now.props c.in-Err.fault c.requires.width c.in_ok-made.ensures.within
    (c.in-Err.ensures.unkeepable (claims_by (width c.args.partition) (asked c.args.formulas.now))
    (formulas-agree c.automata_of.new.store c.args.store.now.props (width c.args.partition) (asked c.args.formulas.now) c.in_ok-made.made
    (option_copied c.reference-keep.result) (option_copied c.reference-duty.result) c.in_ok-made.ensures.automata c.requires.width c.reference-keep.ensures c.reference-duty.ensures)))
