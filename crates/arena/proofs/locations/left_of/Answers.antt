use Rattle.std.proofs.Common.{◌<◌, ◌≤◌, ◌≡◌, ◌∙◌, sym, subst, length, arith}
use Rattle.diagrams.specs.Kept.{AllKept}
use Rattle.diagrams.specs.Transformed.{IsTransformed, IsTableItem, same_id}
use Rattle.diagrams.proofs.Kept.{kept_none}
use Rattle.diagrams.proofs.Meaning.{Keeps_refl, Keeps_trans}
use Rattle.automata.specs.Table.{size_of, mark_of}
use Rattle.arena.specs.Left.{AreLeft}
use Rattle.arena.proofs.NumberedLemmas.{live_few}
use Rattle.legality.proofs.RestrictLemmas.{row_in}
use Rattle.arena.proofs.LeftOfLemmas.{left_none, left_more, left_less, left_fits, left_is}
use Rattle.arena.proofs.locations.left_of.Goals as goal
use Rattle.arena.proofs.locations.left_of.Goals.{then-mark-lt3+in_ok-push+in_ok-push-2+in_ok-left_row+in_ok-push-3, else-mark-lt3}

pub overflow_cast-own : goal.overflow_cast-own
overflow_cast-own c =
    let few = live_few (mark_of c.args.automaton.now) c.loop-at.at in
    omega (arith, few, c.loop-at.invariant.left.rows_count, c.loop-at-test.true, c.size-at-end.ensures.few, c.len-own.ensures, c.loop-at.rows.ok.0)

pub left_row-requires-clause-row : goal.left_row-requires-clause-row
left_row-requires-clause-row c =
    row_in c.args.store.now c.loop-at.store c.args.automaton.now c.deref.result.now c.in_ok-table.table.items c.loop-at.at c.row-row.result c.loop-at.invariant.keeps c.requires.fits
    (omega (arith, c.loop-at-test.true, c.size-at-end.ensures.size)) c.deref.ensures.value c.in_ok-table.ensures.count_is c.row-row.ensures

pub left_row-requires-clause-right : goal.left_row-requires-clause-right
left_row-requires-clause-right c = rw (c.deref.ensures.value) (c.loop-at.invariant.right)

pub loop-at-init : goal.loop-at-init
loop-at-init c = record {
  keeps = Keeps_refl c.args.store.now c.props.ensures.canonical;
  left = left_none c.args.store.now c.args.automaton.now c.in_ok-table.table.items c.new-goals.result.items c.new-broken.result.items c.new-rows.result.items c.new-goals.ensures.items c.new-broken.ensures.items c.new-rows.ensures.items;
  right = kept_none same_id (IsTransformed c.args.store.now (IsTableItem c.in_ok-table.table.items)) c.new-memo.result c.new-memo.ensures;
}

pub loop-at-preserved : goal.loop-at-preserved
loop-at-preserved c =
    let h : c.loop-at.at < size_of c.args.automaton.now = omega (arith, c.loop-at-test.true, c.size-at-end.ensures.size) in
    let k = c.loop-at.invariant.keeps in
    elim c.if-mark-lt3.branch [
      | then-mark-lt3+in_ok-push+in_ok-push-2+in_ok-left_row+in_ok-push-3 w ↦
          rw (w.store-is, w.memo-is, w.goals-is, w.broken-is, w.rows-is, w.in_ok-push.ensures.items, w.in_ok-push-2.ensures.items, w.in_ok-push-3.ensures.items) (record {
            keeps = Keeps_trans c.args.store.now c.loop-at.store w.left_row.new.store k w.left_row.ensures.keeps;
            left = left_more c.args.store.now c.loop-at.store w.left_row.new.store c.args.automaton.now c.in_ok-table.table.items w.deref.result.now c.loop-at.goals.items c.loop-at.broken.items c.loop-at.rows.items
                c.loop-at.at c.mark-mark.result w.len-own.result w.row-row.result w.in_ok-left_row.field-0 k w.left_row.ensures.keeps c.requires.fits h c.loop-at.invariant.left c.mark-mark.ensures w.row-row.ensures w.deref.ensures.value
                (w.len-own.ensures ∙ c.loop-at.rows.ok.0) (omega arith) w.in_ok-left_row.ensures.row;
            right = subst (λ t. AllKept same_id (IsTransformed w.left_row.new.store (IsTableItem t)) w.left_row.new.memo) w.deref.ensures.value w.left_row.ensures.right;
          })
      | else-mark-lt3 w ↦
          rw (w.store-is, w.memo-is, w.goals-is, w.broken-is, w.rows-is) (record {
            keeps = k;
            left = left_less c.args.store.now c.loop-at.store c.args.automaton.now c.in_ok-table.table.items c.loop-at.goals.items c.loop-at.broken.items c.loop-at.rows.items c.loop-at.at c.mark-mark.result c.loop-at.invariant.left c.mark-mark.ensures (omega arith);
            right = c.loop-at.invariant.right;
          })
    ]

pub invariant_of-result : goal.invariant_of-result
invariant_of-result c =
    let few = live_few (mark_of c.args.automaton.now) c.loop-at.at in
    let l : length c.loop-at.rows.items ≤ 4294967294 = omega (arith, few, c.loop-at.invariant.left.rows_count, c.size-at-end.ensures.few, c.loop-at-test.false, c.loop-at.auto.at-end) in
    (c.loop-at.invariant.left.goals_count ∙ sym c.loop-at.invariant.left.rows_count, c.loop-at.invariant.left.broken_count ∙ sym c.loop-at.invariant.left.rows_count, l)

pub returns-clause-fits : goal.returns-clause-fits
returns-clause-fits c =
    let t = c.args.automaton.now in
    let ea : c.loop-at.at ≡ size_of t = omega (arith, c.loop-at-test.false, c.loop-at.auto.at-end, c.size-at-end.ensures.size) in
    left_fits c.args.store.now c.loop-at.store t c.in_ok-table.table.items (record { partition = c.args.partition; has_duty = c.args.has_duty; goals = c.loop-at.goals.items; broken = c.loop-at.broken.items; rows = c.loop-at.rows.items }) c.loop-at.invariant.keeps c.requires.fits c.in_ok-table.ensures
    (subst (AreLeft c.args.store.now c.loop-at.store t c.in_ok-table.table.items c.loop-at.goals.items c.loop-at.broken.items c.loop-at.rows.items) ea c.loop-at.invariant.left)

pub returns-clause-left : goal.returns-clause-left
returns-clause-left c =
    let t = c.args.automaton.now in
    let ea : c.loop-at.at ≡ size_of t = omega (arith, c.loop-at-test.false, c.loop-at.auto.at-end, c.size-at-end.ensures.size) in
    left_is c.args.store.now c.loop-at.store t c.in_ok-table.table.items (record { partition = c.args.partition; has_duty = c.args.has_duty; goals = c.loop-at.goals.items; broken = c.loop-at.broken.items; rows = c.loop-at.rows.items }) c.loop-at.invariant.keeps c.requires.fits c.in_ok-table.ensures
    (subst (AreLeft c.args.store.now c.loop-at.store t c.in_ok-table.table.items c.loop-at.goals.items c.loop-at.broken.items c.loop-at.rows.items) ea c.loop-at.invariant.left) c.requires.first (subst (λ z. z < size_of t) c.first.ensures.first c.first.ensures.within) c.requires.live
