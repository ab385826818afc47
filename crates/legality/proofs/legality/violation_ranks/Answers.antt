use Rattle.std.proofs.Common.{◌<◌, subst, true}
use Rattle.std.proofs.lemmas.Result.{IfOk-weaker}
use Rattle.automata.specs.Table.{size_of}
use Rattle.attractor.specs.Rows.{IsAttraction}
use Rattle.legality.proofs.ViolationLemmas.{violation_ranks, violation_small}
use Rattle.legality.proofs.legality.violation_ranks.Goals as goal

pub returns-clause-ranks : goal.returns-clause-ranks
returns-clause-ranks c =
    let t = c.args.automaton.now in
    IfOk-weaker c.attract.result _ _
    (λ numbers a. violation_ranks c.args.store.now c.args.partition.now t c.deref.result.now c.deref-2.result.now c.requires.width c.props.ensures.canonical c.requires.fits
    (subst (λ z. z < size_of t) c.first.ensures.first c.first.ensures.within) (rw (c.deref.ensures.value, c.deref-2.ensures.value) c.in_ok-made.ensures) numbers.items
    (subst (λ z. IsAttraction c.args.store.now z c.deref.result.now c.deref-2.result.now true numbers.items) c.sides_of.ensures a))
    c.attract.ensures

pub returns-clause-few : goal.returns-clause-few
returns-clause-few c =
    let t = c.args.automaton.now in
    IfOk-weaker c.attract.result _ _
    (λ numbers a. violation_small c.args.store.now c.args.partition.now t c.deref.result.now c.deref-2.result.now c.requires.width c.props.ensures.canonical c.requires.fits
    (subst (λ z. z < size_of t) c.first.ensures.first c.first.ensures.within) (rw (c.deref.ensures.value, c.deref-2.ensures.value) c.in_ok-made.ensures) numbers.items
    (subst (λ z. IsAttraction c.args.store.now z c.deref.result.now c.deref-2.result.now true numbers.items) c.sides_of.ensures a)
    (rw (← c.size.ensures.size) c.size.ensures.few))
    c.attract.ensures
