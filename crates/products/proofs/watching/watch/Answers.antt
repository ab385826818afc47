use Rattle.std.proofs.Common.{◌≡◌, ◌<◌, ◌+◌, ◌++◌, [], ◌∷◌, refl, ◌∙◌, ap, subst, arith}
use Rattle.diagrams.specs.Kept.{AllKept}
use Rattle.diagrams.specs.Transformed.{IsTransformed, IsTableItem, same_id}
use Rattle.diagrams.proofs.Kept.{kept_none}
use Rattle.diagrams.proofs.Meaning.{Keeps_refl, Keeps_trans}
use Rattle.automata.specs.Table.{size_of, row_of}
use Rattle.products.proofs.WatchingLemmas.{watched_none, watched_more, table_fits, means_same, watch_steps, watch_made, watch_fits}
use Rattle.products.proofs.watching.watch.Goals as goal

pub map_terminals_with-requires-clause-fit : goal.map_terminals_with-requires-clause-fit
map_terminals_with-requires-clause-fit c =
    let h : c.loop-at.at < size_of c.args.automaton.now = omega (arith, c.loop-at-test.true, c.size-size.ensures.size) in
    table_fits c.args.store.now c.loop-at.store c.args.automaton.now c.in_ok-table.table.items c.deref.result.now c.loop-at.at c.row.result c.loop-at.invariant.keeps c.requires h
    c.in_ok-table.ensures.size c.deref.ensures.value c.row.ensures

pub map_terminals_with-requires-2-clause-fit : goal.map_terminals_with-requires-2-clause-fit
map_terminals_with-requires-2-clause-fit c =
    table_fits c.args.store.now c.loop-at.store c.args.automaton.now c.in_ok-table.table.items c.deref-2.result.now c.first-2.result c.row-begin.result c.loop-at.invariant.keeps c.requires c.first-2.ensures.within
    c.in_ok-table.ensures.size c.deref-2.ensures.value c.row-begin.ensures

pub map_terminals_with-requires-clause-right : goal.map_terminals_with-requires-clause-right
map_terminals_with-requires-clause-right c = rw (c.deref.ensures.value) (c.loop-at.invariant.right)

pub map_terminals_with-requires-2-clause-right : goal.map_terminals_with-requires-2-clause-right
map_terminals_with-requires-2-clause-right c = rw (c.deref-2.ensures.value) (c.loop-at.invariant.right)

pub loop-at-init : goal.loop-at-init
loop-at-init c = record {
  keeps = Keeps_refl c.args.store.now c.props.ensures.canonical;
  watched = watched_none c.args.store.now c.args.automaton.now c.in_ok-table.table.items c.new-marks.result.items c.new-rows.result.items c.new-marks.ensures.items c.new-rows.ensures.items;
  right = kept_none same_id (IsTransformed c.args.store.now (IsTableItem c.in_ok-table.table.items)) c.new-memo.result c.new-memo.ensures;
}

pub loop-at-preserved : goal.loop-at-preserved
loop-at-preserved c =
    let h : c.loop-at.at < size_of c.args.automaton.now = omega (arith, c.loop-at-test.true, c.size-size.ensures.size) in
    let k = c.loop-at.invariant.keeps in
    let grows = c.in_ok-map_terminals_with.ensures.keeps in
    record {
      keeps = Keeps_trans c.args.store.now c.loop-at.store c.map_terminals_with.new.self k grows;
      watched = rw (c.in_ok-push.ensures.items, c.in_ok-push-2.ensures.items)
          (watched_more c.args.store.now c.loop-at.store c.map_terminals_with.new.self c.args.automaton.now c.in_ok-table.table.items c.loop-at.marks.items c.loop-at.rows.items c.loop-at.at 0 c.in_ok-map_terminals_with.field-0
          k grows c.requires h c.loop-at.invariant.watched refl
          (means_same c.loop-at.store c.map_terminals_with.new.self c.in_ok-map_terminals_with.field-0 c.row.result (row_of c.args.automaton.now c.loop-at.at) c.deref.result.now c.in_ok-table.table.items c.deref.ensures.value c.row.ensures
          c.in_ok-map_terminals_with.ensures.id));
      right = subst (λ t. AllKept same_id (IsTransformed c.map_terminals_with.new.self (IsTableItem t)) c.map_terminals_with.new.memo) c.deref.ensures.value c.in_ok-map_terminals_with.ensures.right;
    }

pub returns-clause-watching : goal.returns-clause-watching
returns-clause-watching c =
    let t = c.args.automaton.now in
    let ea : c.loop-at.at ≡ size_of t = omega (arith, c.loop-at-test.false, c.size-size.ensures.size) in
    watch_made c.args.store.now c.terminal.new.self t c.new.result c.in_ok-table.table.items c.loop-at.marks.items c.loop-at.rows.items c.in_ok-map_terminals_with-2.field-0 c.in_ok-terminal.field-0 c.args.violated
    (watch_steps c.args.store.now c.loop-at.store c.map_terminals_with-2.new.self c.terminal.new.self t c.new.result c.in_ok-table.table.items c.deref-2.result.now c.loop-at.marks.items c.loop-at.rows.items
    c.in_ok-map_terminals_with-2.field-0 c.in_ok-terminal.field-0 c.row-begin.result c.args.violated c.size-size.result c.loop-at.at (c.size-size.result + 1) c.first-2.result
    c.loop-at.invariant.keeps c.map_terminals_with-2.ensures.keeps c.terminal.ensures.keeps c.requires c.first-2.ensures.first c.first-2.ensures.within c.in_ok-table.ensures refl c.size-size.ensures.size
    c.loop-at.invariant.watched ea c.in_ok-map_terminals_with-2.ensures.id c.deref-2.ensures.value c.row-begin.ensures c.in_ok-terminal.ensures.id c.new.ensures.first
    (c.new.ensures.marks ∙ c.in_ok-push-5.ensures.items ∙ ap (λ ms. ms ++ c.args.violated ∷ []) c.in_ok-push-3.ensures.items)
    (c.new.ensures.rows ∙ c.in_ok-push-6.ensures.items ∙ ap (λ rs. rs ++ c.in_ok-terminal.field-0 ∷ []) c.in_ok-push-4.ensures.items))

pub returns-clause-fits : goal.returns-clause-fits
returns-clause-fits c =
    let t = c.args.automaton.now in
    let ea : c.loop-at.at ≡ size_of t = omega (arith, c.loop-at-test.false, c.size-size.ensures.size) in
    watch_fits c.args.store.now c.terminal.new.self t c.new.result c.in_ok-table.table.items c.loop-at.marks.items c.loop-at.rows.items c.in_ok-map_terminals_with-2.field-0 c.in_ok-terminal.field-0 c.args.violated
    (watch_steps c.args.store.now c.loop-at.store c.map_terminals_with-2.new.self c.terminal.new.self t c.new.result c.in_ok-table.table.items c.deref-2.result.now c.loop-at.marks.items c.loop-at.rows.items
    c.in_ok-map_terminals_with-2.field-0 c.in_ok-terminal.field-0 c.row-begin.result c.args.violated c.size-size.result c.loop-at.at (c.size-size.result + 1) c.first-2.result
    c.loop-at.invariant.keeps c.map_terminals_with-2.ensures.keeps c.terminal.ensures.keeps c.requires c.first-2.ensures.first c.first-2.ensures.within c.in_ok-table.ensures refl c.size-size.ensures.size
    c.loop-at.invariant.watched ea c.in_ok-map_terminals_with-2.ensures.id c.deref-2.ensures.value c.row-begin.ensures c.in_ok-terminal.ensures.id c.new.ensures.first
    (c.new.ensures.marks ∙ c.in_ok-push-5.ensures.items ∙ ap (λ ms. ms ++ c.args.violated ∷ []) c.in_ok-push-3.ensures.items)
    (c.new.ensures.rows ∙ c.in_ok-push-6.ensures.items ∙ ap (λ rs. rs ++ c.in_ok-terminal.field-0 ∷ []) c.in_ok-push-4.ensures.items))
