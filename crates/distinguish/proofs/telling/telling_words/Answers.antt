use Rattle.std.proofs.Common.{◌<◌, arith, subst}
use Rattle.diagrams.proofs.Meaning.{Keeps_trans}
use Rattle.automata.specs.Table.{size_of, row_of, moves_of}
use Rattle.automata.proofs.Lasts.{fits_lasts}
use Rattle.dividing.specs.Divisions.{AreBlockRows, targets_at}
use Rattle.dividing.proofs.DivisionLemmas.{rows_now, targets_last}
use Rattle.distinguish.proofs.Few.{needed_are_few}
use Rattle.distinguish.proofs.NextLemmas.{words_end, words_last}
use Rattle.distinguish.proofs.telling.telling_words.Goals as goal

pub round-init : goal.round-init
round-init c =
    let s = c.args.store.now in
    let n = c.block_rows.new.store in
    let t = c.args.automaton.now in
    let g = c.in_ok-refinement.refinement in
    let rows = c.in_ok-rows.rows.items in
    let k = c.in_ok-rows.ensures.keeps in
    record {
      keeps = k;
      refinement = words_last s n t g.blocks.items g.words g.columns.items k c.requires.fits c.in_ok-refinement.ensures;
      rows = rows_now s n t g.blocks.items rows k c.requires.fits (subst (λ bs. AreBlockRows s n t bs rows (size_of t)) c.deref.ensures.value c.in_ok-rows.ensures.rows);
    }

pub next_round-requires-clause-fits : goal.next_round-requires-clause-fits
next_round-requires-clause-fits c = fits_lasts c.args.store.now c.round.store c.round.invariant.keeps c.args.automaton.now c.requires.fits

pub next_round-requires-clause-targets : goal.next_round-requires-clause-targets
next_round-requires-clause-targets c = λ at h.
    let t = c.args.automaton.now in
    targets_last c.args.store.now c.round.store c.round.invariant.keeps (size_of t) (row_of t at) (targets_at c.in_ok-targets.targets at) (c.requires.fits at h).live (c.in_ok-targets.ensures at h)

pub returns-then-not-branch-clause-telling : goal.returns-then-not-branch-clause-telling
returns-then-not-branch-clause-telling c =
    let g = c.next_round.new.refinement in
    words_end c.args.store.now c.next_round.new.store c.args.automaton.now g.blocks.items g.words g.columns.items
    (Keeps_trans c.args.store.now c.round.store c.next_round.new.store c.round.invariant.keeps c.in_ok-next_round.ensures.keeps) c.requires.fits c.requires.least
    c.in_ok-next_round.ensures.refinement (c.in_ok-next_round.ensures.stable c.if-not-branch.true)

pub returns-then-not-branch-clause-few : goal.returns-then-not-branch-clause-few
returns-then-not-branch-clause-few c =
    let g = c.next_round.new.refinement in
    let n = c.next_round.new.store in
    let t = c.args.automaton.now in
    let some : 0 < size_of t = omega (arith, c.first.ensures.within) in
    needed_are_few n.props (moves_of n t) g.words some c.in_ok-next_round.ensures.refinement.order c.in_ok-next_round.ensures.refinement.needed

pub round-smaller : goal.round-smaller
round-smaller c =
    let g = c.round.refinement in
    let n = c.round.store in
    let t = c.args.automaton.now in
    let some : 0 < size_of t = omega (arith, c.first.ensures.within) in
    let few = needed_are_few n.props (moves_of n t) g.words some c.round.invariant.refinement.order c.round.invariant.refinement.needed in
    let more = c.in_ok-next_round.ensures.more c.if-not-branch.false in
    omega (arith, few, more)
