use Rattle.std.proofs.Common.{◌≡◌, ◌<◌, ◌≤◌, ◌*◌, ◌+◌, ℕ, not, arith, sym, ◌∙◌, ap, subst, length, length-append}
use Rattle.std.specs.Prelude.{slice_index}
use Rattle.diagrams.specs.Eval.{id_at}
use Rattle.diagrams.specs.Transformed.{same_id}
use Rattle.linked_blocks.specs.Lists.{list_of, block_in, holds}
use Rattle.linked_blocks.proofs.ListLemmas.{once_short}
use Rattle.class_laws.specs.Shifts.{AreShifted, AreOf}
use Rattle.class_laws.proofs.Parting.{room, moves_small, full-after, paid-after, halved-after, parted-after, noted-after}
use Rattle.class_laws.proofs.Grouped.{on_ok, on_ok2, halved_none, ids-same, ids-differ, group-few, group-alone, group-of, in_block, from-there, rest, rest-of, rest-char, rest-count}
use Rattle.refinement.proofs.parting.part.Goals as goal

pub returns-then-group-count-clause-parted : goal.returns-then-group-count-clause-parted
returns-then-group-count-clause-parted c = group-alone (length c.args.rows.now) c.block_of-block.result c.args.blocks.now.lists (id_at c.args.rows.now) c.args.group.now c.requires.each c.requires.group c.block_of-block.ensures (c.if-group-count.true ∙ c.count-count.ensures)

pub shift_all-requires-clause-room : goal.shift_all-requires-clause-room
shift_all-requires-clause-room c =
    let few = group-few (length c.args.rows.now) c.block_of-block.result c.args.blocks.now.lists (id_at c.args.rows.now) c.args.group.now c.requires.each c.requires.group c.block_of-block.ensures in
    let some = c.requires.group.some in
    let number = c.count-count.ensures in
    room (length c.args.rows.now) c.args.blocks.now.lists c.block_of-block.result c.requires.each c.requires.full (from-there (length c.args.rows.now) c.block_of-block.result c.args.blocks.now.lists (id_at c.args.rows.now) c.args.group.now c.requires.each c.requires.group c.block_of-block.ensures) (omega (arith, few, some, number, c.if-group-count-2.true))

pub shift_all-requires-clause-moves : goal.shift_all-requires-clause-moves
shift_all-requires-clause-moves c =
    moves_small (length c.args.rows.now) c.args.blocks.now.lists c.args.blocks.now.moves (length c.args.group.now) c.requires.small c.requires.each c.requires.paid (once_short (length c.args.rows.now) c.args.group.now c.requires.group.once c.requires.group.within)

pub returns-then-group-count-2-clause-paid : goal.returns-then-group-count-2-clause-paid
returns-then-group-count-2-clause-paid c =
    let few = group-few (length c.args.rows.now) c.block_of-block.result c.args.blocks.now.lists (id_at c.args.rows.now) c.args.group.now c.requires.each c.requires.group c.block_of-block.ensures in
    let some = c.requires.group.some in
    let number = c.count-count.ensures in
    on_ok c.shift_all.result (AreShifted (length c.args.rows.now) c.block_of-block.result c.args.blocks.now c.shift_all.new.blocks c.args.group.now) _ (λ s. paid-after (length c.args.rows.now) c.block_of-block.result c.args.blocks.now c.shift_all.new.blocks c.args.group.now c.args.group.now c.args.shifted.now.items c.shift_all.new.shifted.items c.requires.each c.requires.full c.requires.paid (from-there (length c.args.rows.now) c.block_of-block.result c.args.blocks.now.lists (id_at c.args.rows.now) c.args.group.now c.requires.each c.requires.group c.block_of-block.ensures) (group-of (length c.args.rows.now) c.block_of-block.result c.args.blocks.now.lists (id_at c.args.rows.now) c.args.group.now c.requires.each c.requires.group c.block_of-block.ensures) (omega (arith, number, c.if-group-count-2.true)) some (in_block (length c.args.rows.now) c.block_of-block.result c.args.blocks.now.lists (id_at c.args.rows.now) c.args.group.now c.requires.each c.requires.group c.block_of-block.ensures) (λ i j h l a b. ((λ q. q), (λ q. q))) s) c.shift_all.ensures.moved

pub returns-then-group-count-2-clause-noted : goal.returns-then-group-count-2-clause-noted
returns-then-group-count-2-clause-noted c =
    let few = group-few (length c.args.rows.now) c.block_of-block.result c.args.blocks.now.lists (id_at c.args.rows.now) c.args.group.now c.requires.each c.requires.group c.block_of-block.ensures in
    let some = c.requires.group.some in
    let number = c.count-count.ensures in
    on_ok2 c.shift_all.result (AreShifted (length c.args.rows.now) c.block_of-block.result c.args.blocks.now c.shift_all.new.blocks c.args.group.now) _ _ (λ s e. noted-after (length c.args.rows.now) c.block_of-block.result c.args.blocks.now c.shift_all.new.blocks c.args.group.now c.args.group.now c.args.shifted.now.items c.shift_all.new.shifted.items c.requires.each c.requires.full c.requires.paid (from-there (length c.args.rows.now) c.block_of-block.result c.args.blocks.now.lists (id_at c.args.rows.now) c.args.group.now c.requires.each c.requires.group c.block_of-block.ensures) (group-of (length c.args.rows.now) c.block_of-block.result c.args.blocks.now.lists (id_at c.args.rows.now) c.args.group.now c.requires.each c.requires.group c.block_of-block.ensures) (omega (arith, number, c.if-group-count-2.true)) some (in_block (length c.args.rows.now) c.block_of-block.result c.args.blocks.now.lists (id_at c.args.rows.now) c.args.group.now c.requires.each c.requires.group c.block_of-block.ensures) (λ i j h l a b. ((λ q. q), (λ q. q))) s e) c.shift_all.ensures.moved c.shift_all.ensures.shifted

pub shift_all-requires-2-clause-moving : goal.shift_all-requires-2-clause-moving
shift_all-requires-2-clause-moving c =
    let moving = c.deref.result.now in
    let is : moving ≡ rest (length c.args.rows.now) c.block_of-block.result c.args.blocks.now.lists (id_at c.args.rows.now) c.args.group.now c.requires.each c.requires.group c.block_of-block.ensures (λ x. not (same_id (id_at c.args.rows.now x) (id_at c.args.rows.now (slice_index c.args.group.now 0)))) (λ x e. ids-same (id_at c.args.rows.now x) (id_at c.args.rows.now (slice_index c.args.group.now 0)) e) (λ x e. ids-differ (id_at c.args.rows.now x) (id_at c.args.rows.now (slice_index c.args.group.now 0)) e) = c.deref.ensures.value ∙ c.in_ok-moving.ensures in
    let of : AreOf (length c.args.rows.now) c.block_of-block.result c.args.blocks.now.lists moving = subst (AreOf (length c.args.rows.now) c.block_of-block.result c.args.blocks.now.lists) (sym is) (rest-of (length c.args.rows.now) c.block_of-block.result c.args.blocks.now.lists (id_at c.args.rows.now) c.args.group.now c.requires.each c.requires.group c.block_of-block.ensures (λ x. not (same_id (id_at c.args.rows.now x) (id_at c.args.rows.now (slice_index c.args.group.now 0)))) (λ x e. ids-same (id_at c.args.rows.now x) (id_at c.args.rows.now (slice_index c.args.group.now 0)) e) (λ x e. ids-differ (id_at c.args.rows.now x) (id_at c.args.rows.now (slice_index c.args.group.now 0)) e)) in
    let all : length moving + length c.args.group.now ≡ length (list_of c.args.blocks.now.lists c.block_of-block.result) = ap (λ z. length z + length c.args.group.now) is ∙ rest-count (length c.args.rows.now) c.block_of-block.result c.args.blocks.now.lists (id_at c.args.rows.now) c.args.group.now c.requires.each c.requires.group c.block_of-block.ensures (λ x. not (same_id (id_at c.args.rows.now x) (id_at c.args.rows.now (slice_index c.args.group.now 0)))) (λ x e. ids-same (id_at c.args.rows.now x) (id_at c.args.rows.now (slice_index c.args.group.now 0)) e) (λ x e. ids-differ (id_at c.args.rows.now x) (id_at c.args.rows.now (slice_index c.args.group.now 0)) e) in
    of

pub shift_all-requires-2-clause-room : goal.shift_all-requires-2-clause-room
shift_all-requires-2-clause-room c =
    let few = group-few (length c.args.rows.now) c.block_of-block.result c.args.blocks.now.lists (id_at c.args.rows.now) c.args.group.now c.requires.each c.requires.group c.block_of-block.ensures in
    let some = c.requires.group.some in
    let number = c.count-count.ensures in
    room (length c.args.rows.now) c.args.blocks.now.lists c.block_of-block.result c.requires.each c.requires.full (from-there (length c.args.rows.now) c.block_of-block.result c.args.blocks.now.lists (id_at c.args.rows.now) c.args.group.now c.requires.each c.requires.group c.block_of-block.ensures) (omega (arith, few, some, number, c.if-group-count.false, c.if-group-count-2.false))

pub shift_all-requires-2-clause-moves : goal.shift_all-requires-2-clause-moves
shift_all-requires-2-clause-moves c =
    let moving = c.deref.result.now in
    let is : moving ≡ rest (length c.args.rows.now) c.block_of-block.result c.args.blocks.now.lists (id_at c.args.rows.now) c.args.group.now c.requires.each c.requires.group c.block_of-block.ensures (λ x. not (same_id (id_at c.args.rows.now x) (id_at c.args.rows.now (slice_index c.args.group.now 0)))) (λ x e. ids-same (id_at c.args.rows.now x) (id_at c.args.rows.now (slice_index c.args.group.now 0)) e) (λ x e. ids-differ (id_at c.args.rows.now x) (id_at c.args.rows.now (slice_index c.args.group.now 0)) e) = c.deref.ensures.value ∙ c.in_ok-moving.ensures in
    let of : AreOf (length c.args.rows.now) c.block_of-block.result c.args.blocks.now.lists moving = subst (AreOf (length c.args.rows.now) c.block_of-block.result c.args.blocks.now.lists) (sym is) (rest-of (length c.args.rows.now) c.block_of-block.result c.args.blocks.now.lists (id_at c.args.rows.now) c.args.group.now c.requires.each c.requires.group c.block_of-block.ensures (λ x. not (same_id (id_at c.args.rows.now x) (id_at c.args.rows.now (slice_index c.args.group.now 0)))) (λ x e. ids-same (id_at c.args.rows.now x) (id_at c.args.rows.now (slice_index c.args.group.now 0)) e) (λ x e. ids-differ (id_at c.args.rows.now x) (id_at c.args.rows.now (slice_index c.args.group.now 0)) e)) in
    let all : length moving + length c.args.group.now ≡ length (list_of c.args.blocks.now.lists c.block_of-block.result) = ap (λ z. length z + length c.args.group.now) is ∙ rest-count (length c.args.rows.now) c.block_of-block.result c.args.blocks.now.lists (id_at c.args.rows.now) c.args.group.now c.requires.each c.requires.group c.block_of-block.ensures (λ x. not (same_id (id_at c.args.rows.now x) (id_at c.args.rows.now (slice_index c.args.group.now 0)))) (λ x e. ids-same (id_at c.args.rows.now x) (id_at c.args.rows.now (slice_index c.args.group.now 0)) e) (λ x e. ids-differ (id_at c.args.rows.now x) (id_at c.args.rows.now (slice_index c.args.group.now 0)) e) in
    moves_small (length c.args.rows.now) c.args.blocks.now.lists c.args.blocks.now.moves (length moving) c.requires.small c.requires.each c.requires.paid (once_short (length c.args.rows.now) moving of.once (λ x t. (of.within x t).0))

pub returns-clause-full : goal.returns-clause-full
returns-clause-full c =
    let moving = c.deref.result.now in
    let is : moving ≡ rest (length c.args.rows.now) c.block_of-block.result c.args.blocks.now.lists (id_at c.args.rows.now) c.args.group.now c.requires.each c.requires.group c.block_of-block.ensures (λ x. not (same_id (id_at c.args.rows.now x) (id_at c.args.rows.now (slice_index c.args.group.now 0)))) (λ x e. ids-same (id_at c.args.rows.now x) (id_at c.args.rows.now (slice_index c.args.group.now 0)) e) (λ x e. ids-differ (id_at c.args.rows.now x) (id_at c.args.rows.now (slice_index c.args.group.now 0)) e) = c.deref.ensures.value ∙ c.in_ok-moving.ensures in
    let of : AreOf (length c.args.rows.now) c.block_of-block.result c.args.blocks.now.lists moving = subst (AreOf (length c.args.rows.now) c.block_of-block.result c.args.blocks.now.lists) (sym is) (rest-of (length c.args.rows.now) c.block_of-block.result c.args.blocks.now.lists (id_at c.args.rows.now) c.args.group.now c.requires.each c.requires.group c.block_of-block.ensures (λ x. not (same_id (id_at c.args.rows.now x) (id_at c.args.rows.now (slice_index c.args.group.now 0)))) (λ x e. ids-same (id_at c.args.rows.now x) (id_at c.args.rows.now (slice_index c.args.group.now 0)) e) (λ x e. ids-differ (id_at c.args.rows.now x) (id_at c.args.rows.now (slice_index c.args.group.now 0)) e)) in
    let all : length moving + length c.args.group.now ≡ length (list_of c.args.blocks.now.lists c.block_of-block.result) = ap (λ z. length z + length c.args.group.now) is ∙ rest-count (length c.args.rows.now) c.block_of-block.result c.args.blocks.now.lists (id_at c.args.rows.now) c.args.group.now c.requires.each c.requires.group c.block_of-block.ensures (λ x. not (same_id (id_at c.args.rows.now x) (id_at c.args.rows.now (slice_index c.args.group.now 0)))) (λ x e. ids-same (id_at c.args.rows.now x) (id_at c.args.rows.now (slice_index c.args.group.now 0)) e) (λ x e. ids-differ (id_at c.args.rows.now x) (id_at c.args.rows.now (slice_index c.args.group.now 0)) e) in
    let few = group-few (length c.args.rows.now) c.block_of-block.result c.args.blocks.now.lists (id_at c.args.rows.now) c.args.group.now c.requires.each c.requires.group c.block_of-block.ensures in
    let some = c.requires.group.some in
    let number = c.count-count.ensures in
    let less : 2 * length moving ≤ length (list_of c.args.blocks.now.lists c.block_of-block.result) = omega (arith, all, number, c.if-group-count-2.false) in
    let more : 0 < length moving = omega (arith, all, number, c.if-group-count.false) in
    let char : (i j : ℕ) → i < (length c.args.rows.now) → j < (length c.args.rows.now) → block_in c.args.blocks.now.lists i ≡ c.block_of-block.result → block_in c.args.blocks.now.lists j ≡ c.block_of-block.result
    → (holds moving i ≡ holds moving j → holds c.args.group.now i ≡ holds c.args.group.now j) × (holds c.args.group.now i ≡ holds c.args.group.now j → holds moving i ≡ holds moving j) =
    λ i j h l a b. rw (is) (rest-char (length c.args.rows.now) c.block_of-block.result c.args.blocks.now.lists (id_at c.args.rows.now) c.args.group.now c.requires.each c.requires.group c.block_of-block.ensures (λ x. not (same_id (id_at c.args.rows.now x) (id_at c.args.rows.now (slice_index c.args.group.now 0)))) (λ x e. ids-same (id_at c.args.rows.now x) (id_at c.args.rows.now (slice_index c.args.group.now 0)) e) (λ x e. ids-differ (id_at c.args.rows.now x) (id_at c.args.rows.now (slice_index c.args.group.now 0)) e) i j h l a b) in
    on_ok c.shift_all-2.result (AreShifted (length c.args.rows.now) c.block_of-block.result c.args.blocks.now c.shift_all-2.new.blocks c.deref.result.now) _ (λ s. full-after (length c.args.rows.now) c.block_of-block.result c.args.blocks.now c.shift_all-2.new.blocks c.deref.result.now c.args.group.now c.args.shifted.now.items c.shift_all-2.new.shifted.items c.requires.each c.requires.full c.requires.paid (from-there (length c.args.rows.now) c.block_of-block.result c.args.blocks.now.lists (id_at c.args.rows.now) c.args.group.now c.requires.each c.requires.group c.block_of-block.ensures) of less more (in_block (length c.args.rows.now) c.block_of-block.result c.args.blocks.now.lists (id_at c.args.rows.now) c.args.group.now c.requires.each c.requires.group c.block_of-block.ensures) char s) c.shift_all-2.ensures.moved

pub returns-clause-paid : goal.returns-clause-paid
returns-clause-paid c =
    let moving = c.deref.result.now in
    let is : moving ≡ rest (length c.args.rows.now) c.block_of-block.result c.args.blocks.now.lists (id_at c.args.rows.now) c.args.group.now c.requires.each c.requires.group c.block_of-block.ensures (λ x. not (same_id (id_at c.args.rows.now x) (id_at c.args.rows.now (slice_index c.args.group.now 0)))) (λ x e. ids-same (id_at c.args.rows.now x) (id_at c.args.rows.now (slice_index c.args.group.now 0)) e) (λ x e. ids-differ (id_at c.args.rows.now x) (id_at c.args.rows.now (slice_index c.args.group.now 0)) e) = c.deref.ensures.value ∙ c.in_ok-moving.ensures in
    let of : AreOf (length c.args.rows.now) c.block_of-block.result c.args.blocks.now.lists moving = subst (AreOf (length c.args.rows.now) c.block_of-block.result c.args.blocks.now.lists) (sym is) (rest-of (length c.args.rows.now) c.block_of-block.result c.args.blocks.now.lists (id_at c.args.rows.now) c.args.group.now c.requires.each c.requires.group c.block_of-block.ensures (λ x. not (same_id (id_at c.args.rows.now x) (id_at c.args.rows.now (slice_index c.args.group.now 0)))) (λ x e. ids-same (id_at c.args.rows.now x) (id_at c.args.rows.now (slice_index c.args.group.now 0)) e) (λ x e. ids-differ (id_at c.args.rows.now x) (id_at c.args.rows.now (slice_index c.args.group.now 0)) e)) in
    let all : length moving + length c.args.group.now ≡ length (list_of c.args.blocks.now.lists c.block_of-block.result) = ap (λ z. length z + length c.args.group.now) is ∙ rest-count (length c.args.rows.now) c.block_of-block.result c.args.blocks.now.lists (id_at c.args.rows.now) c.args.group.now c.requires.each c.requires.group c.block_of-block.ensures (λ x. not (same_id (id_at c.args.rows.now x) (id_at c.args.rows.now (slice_index c.args.group.now 0)))) (λ x e. ids-same (id_at c.args.rows.now x) (id_at c.args.rows.now (slice_index c.args.group.now 0)) e) (λ x e. ids-differ (id_at c.args.rows.now x) (id_at c.args.rows.now (slice_index c.args.group.now 0)) e) in
    let few = group-few (length c.args.rows.now) c.block_of-block.result c.args.blocks.now.lists (id_at c.args.rows.now) c.args.group.now c.requires.each c.requires.group c.block_of-block.ensures in
    let some = c.requires.group.some in
    let number = c.count-count.ensures in
    let less : 2 * length moving ≤ length (list_of c.args.blocks.now.lists c.block_of-block.result) = omega (arith, all, number, c.if-group-count-2.false) in
    let more : 0 < length moving = omega (arith, all, number, c.if-group-count.false) in
    let char : (i j : ℕ) → i < (length c.args.rows.now) → j < (length c.args.rows.now) → block_in c.args.blocks.now.lists i ≡ c.block_of-block.result → block_in c.args.blocks.now.lists j ≡ c.block_of-block.result
    → (holds moving i ≡ holds moving j → holds c.args.group.now i ≡ holds c.args.group.now j) × (holds c.args.group.now i ≡ holds c.args.group.now j → holds moving i ≡ holds moving j) =
    λ i j h l a b. rw (is) (rest-char (length c.args.rows.now) c.block_of-block.result c.args.blocks.now.lists (id_at c.args.rows.now) c.args.group.now c.requires.each c.requires.group c.block_of-block.ensures (λ x. not (same_id (id_at c.args.rows.now x) (id_at c.args.rows.now (slice_index c.args.group.now 0)))) (λ x e. ids-same (id_at c.args.rows.now x) (id_at c.args.rows.now (slice_index c.args.group.now 0)) e) (λ x e. ids-differ (id_at c.args.rows.now x) (id_at c.args.rows.now (slice_index c.args.group.now 0)) e) i j h l a b) in
    on_ok c.shift_all-2.result (AreShifted (length c.args.rows.now) c.block_of-block.result c.args.blocks.now c.shift_all-2.new.blocks c.deref.result.now) _ (λ s. paid-after (length c.args.rows.now) c.block_of-block.result c.args.blocks.now c.shift_all-2.new.blocks c.deref.result.now c.args.group.now c.args.shifted.now.items c.shift_all-2.new.shifted.items c.requires.each c.requires.full c.requires.paid (from-there (length c.args.rows.now) c.block_of-block.result c.args.blocks.now.lists (id_at c.args.rows.now) c.args.group.now c.requires.each c.requires.group c.block_of-block.ensures) of less more (in_block (length c.args.rows.now) c.block_of-block.result c.args.blocks.now.lists (id_at c.args.rows.now) c.args.group.now c.requires.each c.requires.group c.block_of-block.ensures) char s) c.shift_all-2.ensures.moved

pub returns-clause-parted : goal.returns-clause-parted
returns-clause-parted c =
    let moving = c.deref.result.now in
    let is : moving ≡ rest (length c.args.rows.now) c.block_of-block.result c.args.blocks.now.lists (id_at c.args.rows.now) c.args.group.now c.requires.each c.requires.group c.block_of-block.ensures (λ x. not (same_id (id_at c.args.rows.now x) (id_at c.args.rows.now (slice_index c.args.group.now 0)))) (λ x e. ids-same (id_at c.args.rows.now x) (id_at c.args.rows.now (slice_index c.args.group.now 0)) e) (λ x e. ids-differ (id_at c.args.rows.now x) (id_at c.args.rows.now (slice_index c.args.group.now 0)) e) = c.deref.ensures.value ∙ c.in_ok-moving.ensures in
    let of : AreOf (length c.args.rows.now) c.block_of-block.result c.args.blocks.now.lists moving = subst (AreOf (length c.args.rows.now) c.block_of-block.result c.args.blocks.now.lists) (sym is) (rest-of (length c.args.rows.now) c.block_of-block.result c.args.blocks.now.lists (id_at c.args.rows.now) c.args.group.now c.requires.each c.requires.group c.block_of-block.ensures (λ x. not (same_id (id_at c.args.rows.now x) (id_at c.args.rows.now (slice_index c.args.group.now 0)))) (λ x e. ids-same (id_at c.args.rows.now x) (id_at c.args.rows.now (slice_index c.args.group.now 0)) e) (λ x e. ids-differ (id_at c.args.rows.now x) (id_at c.args.rows.now (slice_index c.args.group.now 0)) e)) in
    let all : length moving + length c.args.group.now ≡ length (list_of c.args.blocks.now.lists c.block_of-block.result) = ap (λ z. length z + length c.args.group.now) is ∙ rest-count (length c.args.rows.now) c.block_of-block.result c.args.blocks.now.lists (id_at c.args.rows.now) c.args.group.now c.requires.each c.requires.group c.block_of-block.ensures (λ x. not (same_id (id_at c.args.rows.now x) (id_at c.args.rows.now (slice_index c.args.group.now 0)))) (λ x e. ids-same (id_at c.args.rows.now x) (id_at c.args.rows.now (slice_index c.args.group.now 0)) e) (λ x e. ids-differ (id_at c.args.rows.now x) (id_at c.args.rows.now (slice_index c.args.group.now 0)) e) in
    let few = group-few (length c.args.rows.now) c.block_of-block.result c.args.blocks.now.lists (id_at c.args.rows.now) c.args.group.now c.requires.each c.requires.group c.block_of-block.ensures in
    let some = c.requires.group.some in
    let number = c.count-count.ensures in
    let less : 2 * length moving ≤ length (list_of c.args.blocks.now.lists c.block_of-block.result) = omega (arith, all, number, c.if-group-count-2.false) in
    let more : 0 < length moving = omega (arith, all, number, c.if-group-count.false) in
    let char : (i j : ℕ) → i < (length c.args.rows.now) → j < (length c.args.rows.now) → block_in c.args.blocks.now.lists i ≡ c.block_of-block.result → block_in c.args.blocks.now.lists j ≡ c.block_of-block.result
    → (holds moving i ≡ holds moving j → holds c.args.group.now i ≡ holds c.args.group.now j) × (holds c.args.group.now i ≡ holds c.args.group.now j → holds moving i ≡ holds moving j) =
    λ i j h l a b. rw (is) (rest-char (length c.args.rows.now) c.block_of-block.result c.args.blocks.now.lists (id_at c.args.rows.now) c.args.group.now c.requires.each c.requires.group c.block_of-block.ensures (λ x. not (same_id (id_at c.args.rows.now x) (id_at c.args.rows.now (slice_index c.args.group.now 0)))) (λ x e. ids-same (id_at c.args.rows.now x) (id_at c.args.rows.now (slice_index c.args.group.now 0)) e) (λ x e. ids-differ (id_at c.args.rows.now x) (id_at c.args.rows.now (slice_index c.args.group.now 0)) e) i j h l a b) in
    on_ok c.shift_all-2.result (AreShifted (length c.args.rows.now) c.block_of-block.result c.args.blocks.now c.shift_all-2.new.blocks c.deref.result.now) _ (λ s. parted-after (length c.args.rows.now) c.block_of-block.result c.args.blocks.now c.shift_all-2.new.blocks c.deref.result.now c.args.group.now c.args.shifted.now.items c.shift_all-2.new.shifted.items c.requires.each c.requires.full c.requires.paid (from-there (length c.args.rows.now) c.block_of-block.result c.args.blocks.now.lists (id_at c.args.rows.now) c.args.group.now c.requires.each c.requires.group c.block_of-block.ensures) of less more (in_block (length c.args.rows.now) c.block_of-block.result c.args.blocks.now.lists (id_at c.args.rows.now) c.args.group.now c.requires.each c.requires.group c.block_of-block.ensures) char s) c.shift_all-2.ensures.moved

pub returns-clause-noted : goal.returns-clause-noted
returns-clause-noted c =
    let moving = c.deref.result.now in
    let is : moving ≡ rest (length c.args.rows.now) c.block_of-block.result c.args.blocks.now.lists (id_at c.args.rows.now) c.args.group.now c.requires.each c.requires.group c.block_of-block.ensures (λ x. not (same_id (id_at c.args.rows.now x) (id_at c.args.rows.now (slice_index c.args.group.now 0)))) (λ x e. ids-same (id_at c.args.rows.now x) (id_at c.args.rows.now (slice_index c.args.group.now 0)) e) (λ x e. ids-differ (id_at c.args.rows.now x) (id_at c.args.rows.now (slice_index c.args.group.now 0)) e) = c.deref.ensures.value ∙ c.in_ok-moving.ensures in
    let of : AreOf (length c.args.rows.now) c.block_of-block.result c.args.blocks.now.lists moving = subst (AreOf (length c.args.rows.now) c.block_of-block.result c.args.blocks.now.lists) (sym is) (rest-of (length c.args.rows.now) c.block_of-block.result c.args.blocks.now.lists (id_at c.args.rows.now) c.args.group.now c.requires.each c.requires.group c.block_of-block.ensures (λ x. not (same_id (id_at c.args.rows.now x) (id_at c.args.rows.now (slice_index c.args.group.now 0)))) (λ x e. ids-same (id_at c.args.rows.now x) (id_at c.args.rows.now (slice_index c.args.group.now 0)) e) (λ x e. ids-differ (id_at c.args.rows.now x) (id_at c.args.rows.now (slice_index c.args.group.now 0)) e)) in
    let all : length moving + length c.args.group.now ≡ length (list_of c.args.blocks.now.lists c.block_of-block.result) = ap (λ z. length z + length c.args.group.now) is ∙ rest-count (length c.args.rows.now) c.block_of-block.result c.args.blocks.now.lists (id_at c.args.rows.now) c.args.group.now c.requires.each c.requires.group c.block_of-block.ensures (λ x. not (same_id (id_at c.args.rows.now x) (id_at c.args.rows.now (slice_index c.args.group.now 0)))) (λ x e. ids-same (id_at c.args.rows.now x) (id_at c.args.rows.now (slice_index c.args.group.now 0)) e) (λ x e. ids-differ (id_at c.args.rows.now x) (id_at c.args.rows.now (slice_index c.args.group.now 0)) e) in
    let few = group-few (length c.args.rows.now) c.block_of-block.result c.args.blocks.now.lists (id_at c.args.rows.now) c.args.group.now c.requires.each c.requires.group c.block_of-block.ensures in
    let some = c.requires.group.some in
    let number = c.count-count.ensures in
    let less : 2 * length moving ≤ length (list_of c.args.blocks.now.lists c.block_of-block.result) = omega (arith, all, number, c.if-group-count-2.false) in
    let more : 0 < length moving = omega (arith, all, number, c.if-group-count.false) in
    let char : (i j : ℕ) → i < (length c.args.rows.now) → j < (length c.args.rows.now) → block_in c.args.blocks.now.lists i ≡ c.block_of-block.result → block_in c.args.blocks.now.lists j ≡ c.block_of-block.result
    → (holds moving i ≡ holds moving j → holds c.args.group.now i ≡ holds c.args.group.now j) × (holds c.args.group.now i ≡ holds c.args.group.now j → holds moving i ≡ holds moving j) =
    λ i j h l a b. rw (is) (rest-char (length c.args.rows.now) c.block_of-block.result c.args.blocks.now.lists (id_at c.args.rows.now) c.args.group.now c.requires.each c.requires.group c.block_of-block.ensures (λ x. not (same_id (id_at c.args.rows.now x) (id_at c.args.rows.now (slice_index c.args.group.now 0)))) (λ x e. ids-same (id_at c.args.rows.now x) (id_at c.args.rows.now (slice_index c.args.group.now 0)) e) (λ x e. ids-differ (id_at c.args.rows.now x) (id_at c.args.rows.now (slice_index c.args.group.now 0)) e) i j h l a b) in
    on_ok2 c.shift_all-2.result (AreShifted (length c.args.rows.now) c.block_of-block.result c.args.blocks.now c.shift_all-2.new.blocks c.deref.result.now) _ _ (λ s e. noted-after (length c.args.rows.now) c.block_of-block.result c.args.blocks.now c.shift_all-2.new.blocks c.deref.result.now c.args.group.now c.args.shifted.now.items c.shift_all-2.new.shifted.items c.requires.each c.requires.full c.requires.paid (from-there (length c.args.rows.now) c.block_of-block.result c.args.blocks.now.lists (id_at c.args.rows.now) c.args.group.now c.requires.each c.requires.group c.block_of-block.ensures) of less more (in_block (length c.args.rows.now) c.block_of-block.result c.args.blocks.now.lists (id_at c.args.rows.now) c.args.group.now c.requires.each c.requires.group c.block_of-block.ensures) char s e) c.shift_all-2.ensures.moved c.shift_all-2.ensures.shifted

pub returns-then-group-count-clause-halved : goal.returns-then-group-count-clause-halved
returns-then-group-count-clause-halved c = halved_none (length c.args.rows.now) c.args.blocks.now.lists

pub returns-then-group-count-2-clause-halved : goal.returns-then-group-count-2-clause-halved
returns-then-group-count-2-clause-halved c =
    let few = group-few (length c.args.rows.now) c.block_of-block.result c.args.blocks.now.lists (id_at c.args.rows.now) c.args.group.now c.requires.each c.requires.group c.block_of-block.ensures in
    let some = c.requires.group.some in
    let number = c.count-count.ensures in
    on_ok c.shift_all.result (AreShifted (length c.args.rows.now) c.block_of-block.result c.args.blocks.now c.shift_all.new.blocks c.args.group.now) _ (λ s. halved-after (length c.args.rows.now) c.block_of-block.result c.args.blocks.now c.shift_all.new.blocks c.args.group.now c.args.group.now c.args.shifted.now.items c.shift_all.new.shifted.items c.requires.each c.requires.full c.requires.paid (from-there (length c.args.rows.now) c.block_of-block.result c.args.blocks.now.lists (id_at c.args.rows.now) c.args.group.now c.requires.each c.requires.group c.block_of-block.ensures) (group-of (length c.args.rows.now) c.block_of-block.result c.args.blocks.now.lists (id_at c.args.rows.now) c.args.group.now c.requires.each c.requires.group c.block_of-block.ensures) (omega (arith, number, c.if-group-count-2.true)) some (in_block (length c.args.rows.now) c.block_of-block.result c.args.blocks.now.lists (id_at c.args.rows.now) c.args.group.now c.requires.each c.requires.group c.block_of-block.ensures) (λ i j h l a b. ((λ q. q), (λ q. q))) s) c.shift_all.ensures.moved

pub returns-then-group-count-2-clause-moves : goal.returns-then-group-count-2-clause-moves
returns-then-group-count-2-clause-moves c =
    on_ok2 c.shift_all.result (AreShifted (length c.args.rows.now) c.block_of-block.result c.args.blocks.now c.shift_all.new.blocks c.args.group.now) _ _
    (λ s e. let m = s.moves in let l = ap length e ∙ length-append c.args.shifted.now.items c.args.group.now in omega (arith, m, l)) c.shift_all.ensures.moved c.shift_all.ensures.shifted

pub returns-clause-halved : goal.returns-clause-halved
returns-clause-halved c =
    let moving = c.deref.result.now in
    let is : moving ≡ rest (length c.args.rows.now) c.block_of-block.result c.args.blocks.now.lists (id_at c.args.rows.now) c.args.group.now c.requires.each c.requires.group c.block_of-block.ensures (λ x. not (same_id (id_at c.args.rows.now x) (id_at c.args.rows.now (slice_index c.args.group.now 0)))) (λ x e. ids-same (id_at c.args.rows.now x) (id_at c.args.rows.now (slice_index c.args.group.now 0)) e) (λ x e. ids-differ (id_at c.args.rows.now x) (id_at c.args.rows.now (slice_index c.args.group.now 0)) e) = c.deref.ensures.value ∙ c.in_ok-moving.ensures in
    let of : AreOf (length c.args.rows.now) c.block_of-block.result c.args.blocks.now.lists moving = subst (AreOf (length c.args.rows.now) c.block_of-block.result c.args.blocks.now.lists) (sym is) (rest-of (length c.args.rows.now) c.block_of-block.result c.args.blocks.now.lists (id_at c.args.rows.now) c.args.group.now c.requires.each c.requires.group c.block_of-block.ensures (λ x. not (same_id (id_at c.args.rows.now x) (id_at c.args.rows.now (slice_index c.args.group.now 0)))) (λ x e. ids-same (id_at c.args.rows.now x) (id_at c.args.rows.now (slice_index c.args.group.now 0)) e) (λ x e. ids-differ (id_at c.args.rows.now x) (id_at c.args.rows.now (slice_index c.args.group.now 0)) e)) in
    let all : length moving + length c.args.group.now ≡ length (list_of c.args.blocks.now.lists c.block_of-block.result) = ap (λ z. length z + length c.args.group.now) is ∙ rest-count (length c.args.rows.now) c.block_of-block.result c.args.blocks.now.lists (id_at c.args.rows.now) c.args.group.now c.requires.each c.requires.group c.block_of-block.ensures (λ x. not (same_id (id_at c.args.rows.now x) (id_at c.args.rows.now (slice_index c.args.group.now 0)))) (λ x e. ids-same (id_at c.args.rows.now x) (id_at c.args.rows.now (slice_index c.args.group.now 0)) e) (λ x e. ids-differ (id_at c.args.rows.now x) (id_at c.args.rows.now (slice_index c.args.group.now 0)) e) in
    let few = group-few (length c.args.rows.now) c.block_of-block.result c.args.blocks.now.lists (id_at c.args.rows.now) c.args.group.now c.requires.each c.requires.group c.block_of-block.ensures in
    let some = c.requires.group.some in
    let number = c.count-count.ensures in
    let less : 2 * length moving ≤ length (list_of c.args.blocks.now.lists c.block_of-block.result) = omega (arith, all, number, c.if-group-count-2.false) in
    let more : 0 < length moving = omega (arith, all, number, c.if-group-count.false) in
    let char : (i j : ℕ) → i < (length c.args.rows.now) → j < (length c.args.rows.now) → block_in c.args.blocks.now.lists i ≡ c.block_of-block.result → block_in c.args.blocks.now.lists j ≡ c.block_of-block.result
    → (holds moving i ≡ holds moving j → holds c.args.group.now i ≡ holds c.args.group.now j) × (holds c.args.group.now i ≡ holds c.args.group.now j → holds moving i ≡ holds moving j) =
    λ i j h l a b. rw (is) (rest-char (length c.args.rows.now) c.block_of-block.result c.args.blocks.now.lists (id_at c.args.rows.now) c.args.group.now c.requires.each c.requires.group c.block_of-block.ensures (λ x. not (same_id (id_at c.args.rows.now x) (id_at c.args.rows.now (slice_index c.args.group.now 0)))) (λ x e. ids-same (id_at c.args.rows.now x) (id_at c.args.rows.now (slice_index c.args.group.now 0)) e) (λ x e. ids-differ (id_at c.args.rows.now x) (id_at c.args.rows.now (slice_index c.args.group.now 0)) e) i j h l a b) in
    on_ok c.shift_all-2.result (AreShifted (length c.args.rows.now) c.block_of-block.result c.args.blocks.now c.shift_all-2.new.blocks c.deref.result.now) _ (λ s. halved-after (length c.args.rows.now) c.block_of-block.result c.args.blocks.now c.shift_all-2.new.blocks c.deref.result.now c.args.group.now c.args.shifted.now.items c.shift_all-2.new.shifted.items c.requires.each c.requires.full c.requires.paid (from-there (length c.args.rows.now) c.block_of-block.result c.args.blocks.now.lists (id_at c.args.rows.now) c.args.group.now c.requires.each c.requires.group c.block_of-block.ensures) of less more (in_block (length c.args.rows.now) c.block_of-block.result c.args.blocks.now.lists (id_at c.args.rows.now) c.args.group.now c.requires.each c.requires.group c.block_of-block.ensures) char s) c.shift_all-2.ensures.moved

pub returns-clause-moves : goal.returns-clause-moves
returns-clause-moves c =
    on_ok2 c.shift_all-2.result (AreShifted (length c.args.rows.now) c.block_of-block.result c.args.blocks.now c.shift_all-2.new.blocks c.deref.result.now) _ _
    (λ s e. let m = s.moves in let l = ap length e ∙ length-append c.args.shifted.now.items c.deref.result.now in omega (arith, m, l)) c.shift_all-2.ensures.moved c.shift_all-2.ensures.shifted
