use Rattle.distinguish.proofs.StepLemmas.{columns_long, step_tells}
use Rattle.distinguish.proofs.steps.least_step.Goals as goal

pub first_apart-rest-requires : goal.first_apart-rest-requires
first_apart-rest-requires c =
    let t = c.args.automaton.now in
    let g = c.args.refinement.now in
    rw (c.deref.ensures.value)
    (columns_long c.args.store.now t g.blocks.items g.words g.columns.items c.args.rows.now c.requires.fits c.requires.rows c.requires.refinement
    c.step-one_target.result c.step-other_target.result c.step-one_target.ensures.within c.step-other_target.ensures.within)

pub returns : goal.returns
returns c =
    let t = c.args.automaton.now in
    let g = c.args.refinement.now in
    let first = rw c.deref.ensures.value at c.first_apart-rest.ensures in
    step_tells c.args.store.now t g.blocks.items g.words g.columns.items c.args.rows.now c.requires.fits c.requires.rows c.requires.refinement
    c.args.one c.args.other c.requires.one c.requires.other c.requires.same c.least_difference-letter.result c.first_apart-rest.result
    c.step-one_target.result c.step-other_target.result c.least_difference-letter.ensures.least c.step-one_target.ensures.next c.step-other_target.ensures.next
    first.within first.before first.found
