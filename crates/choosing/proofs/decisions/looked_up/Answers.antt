use Rattle.std.proofs.Common.{◌∙◌, ap, arith, length}
use Rattle.std.specs.Prelude.{slice_index}
use Rattle.diagrams.specs.Transformed.{IsTransformed, IsTableItem, same_id}
use Rattle.diagrams.proofs.Kept.{kept_none}
use Rattle.diagrams.proofs.Meaning.{Keeps_refl, Keeps_trans, eval-lasts, live_lasts}
use Rattle.choosing.proofs.RowLemmas.{looked_more}
use Rattle.choosing.proofs.decisions.looked_up.Goals as goal

pub loop-at-init : goal.loop-at-init
loop-at-init c = record {
  keeps = Keeps_refl c.args.store.now c.props.ensures.canonical;
  right = kept_none same_id (IsTransformed c.args.store.now (IsTableItem c.args.numbers.now)) c.new-memo.result c.new-memo.ensures;
  rows = record {
    size = ap length c.new-made.ensures.items;
    live = λ k h. absurd (omega (arith, h));
    value = λ k h. absurd (omega (arith, h));
  };
}

pub map_terminals_with-requires : goal.map_terminals_with-requires
map_terminals_with-requires c =
    let k = c.loop-at.invariant.keeps in
    let live = c.requires.live c.loop-at.at (omega arith) in
    record {
      live = live_lasts c.args.store.now c.loop-at.store k.extends _ live;
      fit = λ a. rw (eval-lasts c.args.store.now c.loop-at.store k.was k.now k.extends _ live a) (c.requires.fit c.loop-at.at (omega arith) a);
      right = c.loop-at.invariant.right;
    }

pub loop-at-preserved : goal.loop-at-preserved
loop-at-preserved c =
    let s = c.args.store.now in
    let n = c.loop-at.store in
    let m = c.map_terminals_with.new.self in
    let k = c.loop-at.invariant.keeps in
    let made = c.in_ok-map_terminals_with.ensures.id in
    let live = c.requires.live c.loop-at.at (omega arith) in
    record {
      keeps = Keeps_trans s n m k c.in_ok-map_terminals_with.ensures.keeps;
      right = c.in_ok-map_terminals_with.ensures.right;
      rows = rw (c.in_ok-push.ensures.items)
          (looked_more s n m c.in_ok-map_terminals_with.ensures.keeps c.args.numbers.now c.args.rows.now c.loop-at.made.items c.loop-at.at c.in_ok-map_terminals_with.field-0 made.live
          (λ a. made.value a ∙ ap (slice_index c.args.numbers.now) (eval-lasts s n k.was k.now k.extends _ live a)) c.loop-at.invariant.rows);
    }
