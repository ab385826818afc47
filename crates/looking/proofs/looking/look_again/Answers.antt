use Rattle.std.proofs.Common.{◌≡◌, ◌≢◌, ◌<◌, ℕ, [], ◌∷◌, ◌++◌, true, refl, sym, ◌∙◌, ap, subst, arith, length, take}
use Rattle.std.specs.Prelude.{slice_index, slice_set}
use Rattle.std.proofs.lemmas.List.{take_more, take_all, get_or_read}
use Rattle.diagrams.specs.Eval.{id_at}
use Rattle.diagrams.specs.Transformed.{IsTransformed, IsTableItem, same_id}
use Rattle.diagrams.proofs.Kept.{kept_none}
use Rattle.diagrams.proofs.Meaning.{Keeps_refl, Keeps_trans}
use Rattle.automata.specs.Table.{size_of, row_of}
use Rattle.automata.proofs.Lasts.{row_lasts}
use Rattle.linked_blocks.specs.Lists.{holds, block_in}
use Rattle.class_laws.specs.Current.{AreRowsBy, AreChanges}
use Rattle.class_laws.proofs.Grouped.{ids-same, ids-differ}
use Rattle.class_laws.proofs.Looking.{IsLooking, looking_none, looking_same, looking_changed, looked_rows, looked_changes}
use Rattle.class_laws.proofs.ShiftAll.{holds-place}
use Rattle.looking.proofs.Looked.{within_both, looked_means}
use Rattle.looking.proofs.looking.look_again.Goals as goal
use Rattle.looking.proofs.looking.look_again.Goals.{then-ne+in_ok-push, else-ne}

pub loop-at-init : goal.loop-at-init
loop-at-init c = record {
  keeps = Keeps_refl c.args.store.now c.props.ensures.canonical;
  right = kept_none same_id (IsTransformed c.args.store.now (IsTableItem c.numbers-numbers.result.now)) c.new-memo.result c.new-memo.ensures;
  looking = rw c.new-changed.ensures.items (looking_none c.args.store.now c.args.automaton.now c.numbers-numbers.result.now c.args.rows.now.items);
}

pub row-requires : goal.row-requires
row-requires c =
    let touched = c.args.touched.now in
    let i = c.loop-at.at-index in
    c.requires.current.within (slice_index touched i) (holds-place touched i c.loop-at-test.true)

pub map_terminals_with-requires-clause-live : goal.map_terminals_with-requires-clause-live
map_terminals_with-requires-clause-live c =
    let t = c.args.automaton.now in
    let touched = c.args.touched.now in
    let at = slice_index touched c.loop-at.at-index in
    let h = c.requires.current.within at (holds-place touched c.loop-at.at-index c.loop-at-test.true) in
    rw (c.row.ensures) (row_lasts c.args.store.now c.loop-at.store c.loop-at.invariant.keeps (size_of t) (row_of t at) (c.requires.fits at h)).live

pub map_terminals_with-requires-clause-fit : goal.map_terminals_with-requires-clause-fit
map_terminals_with-requires-clause-fit c = λ a.
    let t = c.args.automaton.now in
    let touched = c.args.touched.now in
    let at = slice_index touched c.loop-at.at-index in
    let h = c.requires.current.within at (holds-place touched c.loop-at.at-index c.loop-at-test.true) in
    let r = row_lasts c.args.store.now c.loop-at.store c.loop-at.invariant.keeps (size_of t) (row_of t at) (c.requires.fits at h) in
    within_both (size_of t) (length c.numbers-numbers.result.now) c.args.blocks.now.lists c.requires.each c.numbers-numbers.ensures.size _ (rw (c.row.ensures) (r.targets a))

pub index-requires : goal.index-requires
index-requires c =
    let touched = c.args.touched.now in
    let i = c.loop-at.at-index in
    let h = c.requires.current.within (slice_index touched i) (holds-place touched i c.loop-at-test.true) in
    let long = c.loop-at.invariant.looking.long in
    let old = c.requires.current.long in
    let len = c.loop-at.rows.ok.0 in
    omega (arith, h, long, old, len)

pub index_mut-requires : goal.index_mut-requires
index_mut-requires c =
    let touched = c.args.touched.now in
    let i = c.loop-at.at-index in
    let h = c.requires.current.within (slice_index touched i) (holds-place touched i c.loop-at-test.true) in
    let long = c.loop-at.invariant.looking.long in
    let old = c.requires.current.long in
    let len = c.loop-at.rows.ok.0 in
    omega (arith, h, long, old, len)

pub loop-at-preserved : goal.loop-at-preserved
loop-at-preserved c =
    let s = c.args.store.now in
    let m = c.loop-at.store in
    let n = c.map_terminals_with.new.self in
    let t = c.args.automaton.now in
    let numbers = c.numbers-numbers.result.now in
    let touched = c.args.touched.now in
    let i = c.loop-at.at-index in
    let at = slice_index touched i in
    let old = c.args.rows.now.items in
    let rows = c.loop-at.rows.items in
    let changed = c.loop-at.changed.items in
    let row = c.in_ok-row.row in
    let v = c.loop-at.invariant in
    let k = c.in_ok-row.ensures.keeps in
    let h : at < size_of t = c.requires.current.within at (holds-place touched i c.loop-at-test.true) in
    let long = v.looking.long in
    let full = c.requires.current.long in
    let inside : at < length rows = omega (arith, h, long, full) in
    let means = looked_means s m n t numbers at c.row.result row v.keeps c.requires.fits h c.row.ensures c.in_ok-row.ensures.id in
    let more = take_more touched i 0 c.loop-at-test.true in
    let there : c.index.result.now ≡ id_at rows at = get_or_read rows at c.index.result.now inside c.index.ensures (record { 0 = 0 }) in
    let ne = c.ne.ensures in
    record {
      keeps = Keeps_trans s m n v.keeps k;
      right = c.in_ok-row.ensures.right;
      looking = rw (more) (elim c.if-ne.branch [
        | then-ne+in_ok-push w ↦
            let d : row ≢ id_at rows at = λ q. ids-differ row c.index.result.now (sym ne ∙ w.if-ne.true) (q ∙ sym there) in
            let rows-are = ap (λ z. z.items) w.rows-is in
            let changed-are = ap (λ z. z.items) w.changed-is ∙ w.in_ok-push.ensures.items in
            rw (rows-are, changed-are) (looking_changed s m n t numbers old rows (take i touched) changed at row k v.looking inside means d)
        | else-ne w ↦
            let d : row ≡ id_at rows at = ids-same row c.index.result.now (sym ne ∙ w.if-ne.false) ∙ there in
            let rows-are = ap (λ z. z.items) w.rows-is in
            let changed-are = ap (λ z. z.items) w.changed-is in
            rw (rows-are, changed-are) (looking_same s m n t numbers old rows (take i touched) changed at row k v.looking means d)
      ]);
    }

pub returns-clause-rows : goal.returns-clause-rows
returns-clause-rows c =
    let touched = c.args.touched.now in
    let a = c.loop-at-test.false in
    let numbers = c.numbers-numbers.result.now in
    let v = subst (λ xs. IsLooking c.args.store.now c.loop-at.store c.args.automaton.now numbers c.args.rows.now.items c.loop-at.rows.items xs c.loop-at.changed.items)
    (take_all c.loop-at.at-index touched a) c.loop-at.invariant.looking in
    looked_rows c.args.store.now c.loop-at.store c.args.automaton.now numbers c.args.blocks.now.lists c.args.rows.now.items c.loop-at.rows.items touched c.loop-at.changed.items
    c.loop-at.invariant.keeps c.requires.fits c.requires.each c.numbers-numbers.ensures.block c.requires.current v

pub returns-clause-changed : goal.returns-clause-changed
returns-clause-changed c =
    let touched = c.args.touched.now in
    let a = c.loop-at-test.false in
    let numbers = c.numbers-numbers.result.now in
    let v = subst (λ xs. IsLooking c.args.store.now c.loop-at.store c.args.automaton.now numbers c.args.rows.now.items c.loop-at.rows.items xs c.loop-at.changed.items)
    (take_all c.loop-at.at-index touched a) c.loop-at.invariant.looking in
    looked_changes c.args.store.now c.loop-at.store c.args.automaton.now numbers c.args.blocks.now.lists c.args.rows.now.items c.loop-at.rows.items touched c.loop-at.changed.items
    c.loop-at.invariant.keeps c.requires.fits c.requires.each c.numbers-numbers.ensures.block c.requires.current v

pub returns-clause-touched : goal.returns-clause-touched
returns-clause-touched c =
    let touched = c.args.touched.now in
    let a = c.loop-at-test.false in
    subst (λ xs. (at : ℕ) → holds c.loop-at.changed.items at ≡ true → holds xs at ≡ true) (take_all c.loop-at.at-index touched a) c.loop-at.invariant.looking.known
