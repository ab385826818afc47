use Rattle.std.proofs.Common.{◌≡◌, ◌∙◌, subst, arith}
use Rattle.diagrams.proofs.Meaning.{Keeps_refl, Keeps_trans}
use Rattle.automata.specs.Table.{size_of}
use Rattle.automata.proofs.Lasts.{fits_lasts}
use Rattle.products.specs.Stops.{AreStopped}
use Rattle.products.proofs.StopLemmas.{stopped_none, stopped_more, stop_fits, stop_made}
use Rattle.products.proofs.stops.stopped.Goals as goal

pub loop-at-init : goal.loop-at-init
loop-at-init c = record {
  keeps = Keeps_refl c.args.store.now c.props.ensures.canonical;
  made = stopped_none c.args.store.now c.args.automaton.now c.new-marks.result.items c.new-rows.result.items c.new-marks.ensures.items c.new-rows.ensures.items;
}

pub loop-at-preserved : goal.loop-at-preserved
loop-at-preserved c = record {
  keeps = Keeps_trans c.args.store.now c.loop-at.store c.row_or_own.new.store c.loop-at.invariant.keeps c.row_or_own.ensures.keeps;
  made = rw (c.in_ok-push.ensures.items, c.in_ok-push-2.ensures.items)
      (stopped_more c.loop-at.store c.row_or_own.new.store c.args.automaton.now c.loop-at.marks.items c.loop-at.rows.items c.loop-at.at c.mark.result c.in_ok-row_or_own.field-0 c.row_or_own.ensures.keeps
      c.loop-at.invariant.made c.mark.ensures c.in_ok-row_or_own.ensures.row);
}

pub returns-clause-fits : goal.returns-clause-fits
returns-clause-fits c =
    let t = c.args.automaton.now in
    let ea : c.loop-at.at ≡ size_of t = omega (arith, c.loop-at-test.false, c.loop-at.auto.at-end, c.size-at-end.ensures.size) in
    stop_fits c.loop-at.store t c.new.result c.loop-at.marks.items c.loop-at.rows.items (record {
      fits = fits_lasts c.args.store.now c.loop-at.store c.loop-at.invariant.keeps t c.requires;
      made = subst (AreStopped c.loop-at.store t c.loop-at.marks.items c.loop-at.rows.items) ea c.loop-at.invariant.made;
      first = c.new.ensures.first ∙ c.first-2.ensures.first;
      all_marks = c.new.ensures.marks;
      all_rows = c.new.ensures.rows;
    })

pub returns-clause-stopped : goal.returns-clause-stopped
returns-clause-stopped c =
    let t = c.args.automaton.now in
    let ea : c.loop-at.at ≡ size_of t = omega (arith, c.loop-at-test.false, c.loop-at.auto.at-end, c.size-at-end.ensures.size) in
    stop_made c.loop-at.store t c.new.result c.loop-at.marks.items c.loop-at.rows.items (record {
      fits = fits_lasts c.args.store.now c.loop-at.store c.loop-at.invariant.keeps t c.requires;
      made = subst (AreStopped c.loop-at.store t c.loop-at.marks.items c.loop-at.rows.items) ea c.loop-at.invariant.made;
      first = c.new.ensures.first ∙ c.first-2.ensures.first;
      all_marks = c.new.ensures.marks;
      all_rows = c.new.ensures.rows;
    })
