use Rattle.std.proofs.Common.{◌<◌, ◌≡◌, ◌-◌, ◌∙◌, sym, subst, arith}
use Rattle.diagrams.proofs.Meaning.{Keeps_refl, Keeps_trans}
use Rattle.automata.specs.Table.{size_of}
use Rattle.layers.specs.declared.folding.Below.TheVariants.{Sink}
use Rattle.layers.specs.Folding.{IsRightFor}
use Rattle.legality.proofs.LegalityLemmas.{restricted_row}
use Rattle.legality.proofs.RestrictLemmas.{row_in, restricted_none, restricted_more, restrict_steps, restrict_made}
use Rattle.legality.proofs.legality.restrict.Goals as goal

pub restricted-requires-clause-row : goal.restricted-requires-clause-row
restricted-requires-clause-row c =
    row_in c.args.store.now c.loop-at.store c.args.automaton.now c.deref.result.now c.in_ok-table.table.items c.loop-at.at c.row.result c.loop-at.invariant.keeps c.requires.fits
    (omega (arith, c.loop-at-test.true, c.size-size.ensures.size)) c.deref.ensures.value (c.in_ok-table.ensures.size ∙ c.size-size.ensures.size) c.row.ensures

pub restricted-requires-clause-right : goal.restricted-requires-clause-right
restricted-requires-clause-right c = rw (c.deref.ensures.value) (c.loop-at.invariant.right)

pub loop-at-init : goal.loop-at-init
loop-at-init c = record {
  keeps = Keeps_refl c.args.store.now c.props.ensures.canonical;
  made = restricted_none c.args.partition.now c.args.store.now c.args.automaton.now c.in_ok-table.table.items c.new-marks.result.items c.new-rows.result.items (c.size-size.result - 1) c.new-marks.ensures.items c.new-rows.ensures.items;
  right = c.new-folding.ensures c.args.store.now (Sink (c.size-size.result - 1)) c.telling_count-telling.result c.in_ok-table.table.items;
}

pub loop-at-preserved : goal.loop-at-preserved
loop-at-preserved c =
    let h : c.loop-at.at < size_of c.args.automaton.now = omega (arith, c.loop-at-test.true, c.size-size.ensures.size) in
    let k = c.loop-at.invariant.keeps in
    let grows = c.restricted.ensures.keeps in
    let row = row_in c.args.store.now c.loop-at.store c.args.automaton.now c.deref.result.now c.in_ok-table.table.items c.loop-at.at c.row.result k c.requires.fits h
    c.deref.ensures.value (c.in_ok-table.ensures.size ∙ c.size-size.ensures.size) c.row.ensures in
    let made = restricted_row c.args.partition.now c.loop-at.store c.restricted.new.store c.deref.result.now (c.size-size.result - 1) c.telling_count-telling.result c.row.result c.in_ok-restricted.field-0 grows
    (c.requires.width ∙ sym k.extends.props) c.telling_count-telling.ensures row c.in_ok-restricted.ensures.row in
    record {
      keeps = Keeps_trans c.args.store.now c.loop-at.store c.restricted.new.store k grows;
      made = rw (c.in_ok-push.ensures.items, c.in_ok-push-2.ensures.items)
          (restricted_more c.args.partition.now c.args.store.now c.loop-at.store c.restricted.new.store c.args.automaton.now c.in_ok-table.table.items c.deref.result.now c.loop-at.marks.items c.loop-at.rows.items
          (c.size-size.result - 1) c.loop-at.at c.mark.result c.row.result c.in_ok-restricted.field-0 k grows c.requires.fits h c.loop-at.invariant.made c.mark.ensures c.row.ensures c.deref.ensures.value made);
      right = subst (λ t. IsRightFor c.restricted.new.store (Sink (c.size-size.result - 1)) c.telling_count-telling.result t c.restricted.new.folding) c.deref.ensures.value c.in_ok-restricted.ensures.right;
    }

pub returns-clause-restricted : goal.returns-clause-restricted
returns-clause-restricted c =
    let t = c.args.automaton.now in
    let ea : c.loop-at.at ≡ size_of t = omega (arith, c.loop-at-test.false, c.size-size.ensures.size) in
    restrict_made c.args.partition.now c.args.store.now c.loop-at.store t c.new.result c.args.ranks.now c.in_ok-table.table.items c.loop-at.marks.items c.loop-at.rows.items (size_of t - 1)
    (restrict_steps c.args.partition.now c.args.store.now c.loop-at.store t c.new.result c.args.ranks.now c.in_ok-table.table.items c.loop-at.marks.items c.loop-at.rows.items c.first.result c.size-size.result c.loop-at.at _
    c.loop-at.invariant.keeps c.requires.fits c.requires.width c.size-size.ensures.size c.in_ok-table.ensures c.first.ensures.within c.size-size.ensures.size ea c.loop-at.invariant.made
    (c.new.ensures.first ∙ c.first-2.ensures.first) c.new.ensures.marks c.new.ensures.rows)
    c.requires.stays
