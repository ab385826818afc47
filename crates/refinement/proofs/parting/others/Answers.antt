use Rattle.std.proofs.Common.{ℕ, Bool, true, false, cond, [], ◌∷◌, ◌++◌, ◌≡◌, ◌<◌, arith, sym, ◌∙◌, ap, length, take, not}
use Rattle.std.specs.Prelude.{slice_index}
use Rattle.std.specs.List.{filter}
use Rattle.std.proofs.lemmas.Option.{same_Some}
use Rattle.std.proofs.lemmas.List.{take_all, append-nil}
use Rattle.std.proofs.lemmas.List.Elements.{filter_more}
use Rattle.diagrams.specs.Eval.{id_at}
use Rattle.diagrams.specs.Transformed.{same_id}
use Rattle.linked_blocks.specs.Lists.{list_of, block_in}
use Rattle.class_laws.proofs.ShiftAll.{holds-place}
use Rattle.class_laws.proofs.Grouped.{get-at}
use Rattle.refinement.proofs.parting.others.Goals as goal
use Rattle.refinement.proofs.parting.others.Goals.{then-ne+in_ok-push, else-ne}

pub loop-k-init : goal.loop-k-init
loop-k-init c = record { here = c.first-at.ensures; found = c.new-found.ensures.items }

pub unreachable-requires : goal.unreachable-requires
unreachable-requires c =
    let list = list_of c.args.blocks.now.lists c.args.block in
    let k = c.loop-k._k in
    let l : k < length list = rw (← c.count-k-end.ensures) c.loop-k-test.true in
    c.in_default.not-Some (slice_index list k) (c.loop-k.invariant.here ∙ get-at list k l)

pub bounds-rows-here : goal.bounds-rows-here
bounds-rows-here c =
    let list = list_of c.args.blocks.now.lists c.args.block in
    let k = c.loop-k._k in
    let l : k < length list = rw (← c.count-k-end.ensures) c.loop-k-test.true in
    let is : c.in-Some.here ≡ slice_index list k = same_Some _ _ (sym c.in-Some.is ∙ c.loop-k.invariant.here ∙ get-at list k l) in
    rw (is) (c.requires.each.within c.args.block (slice_index list k) c.requires.block (holds-place list k l)).0

pub next-at-requires : goal.next-at-requires
next-at-requires c =
    let list = list_of c.args.blocks.now.lists c.args.block in
    let k = c.loop-k._k in
    let l : k < length list = rw (← c.count-k-end.ensures) c.loop-k-test.true in
    let is : c.in-Some.here ≡ slice_index list k = same_Some _ _ (sym c.in-Some.is ∙ c.loop-k.invariant.here ∙ get-at list k l) in
    let w = c.requires.each.within c.args.block (slice_index list k) c.requires.block (holds-place list k l) in
    rw (is) (c.requires.each.there (slice_index list k) w.0).0

pub loop-k-preserved : goal.loop-k-preserved
loop-k-preserved c =
    let list = list_of c.args.blocks.now.lists c.args.block in
    let k = c.loop-k._k in
    let l : k < length list = rw (← c.count-k-end.ensures) c.loop-k-test.true in
    let is : c.in-Some.here ≡ slice_index list k = same_Some _ _ (sym c.in-Some.is ∙ c.loop-k.invariant.here ∙ get-at list k l) in
    let w = c.requires.each.within c.args.block (slice_index list k) c.requires.block (holds-place list k l) in
    let b : block_in c.args.blocks.now.lists c.in-Some.here ≡ c.args.block = ap (block_in c.args.blocks.now.lists) is ∙ w.1 in
    let n = c.next-at.ensures k in
    let p : ℕ → Bool = λ x. not (same_id (id_at c.args.rows.now x) c.args.row) in
    let more = filter_more p list k 0 l in
    let ne = c.ne.ensures in
    record {
      here = rw (b) at n (sym c.loop-k.invariant.here ∙ c.in-Some.is);
      found = elim c.if-ne.branch [
        | then-ne+in_ok-push w ↦
            let q : p (slice_index list k) ≡ true = ap p (sym is) ∙ sym ne ∙ w.if-ne.true in
            ap (λ z. z.items) w.found-is ∙ w.in_ok-push.ensures.items ∙ ap (λ z. z ++ c.in-Some.here ∷ []) c.loop-k.invariant.found
            ∙ ap (λ z. filter p (take k list) ++ z ∷ []) is ∙ sym (more ∙ ap (λ b. filter p (take k list) ++ cond b (slice_index list k ∷ []) []) q)
        | else-ne w ↦
            let q : p (slice_index list k) ≡ false = ap p (sym is) ∙ sym ne ∙ w.if-ne.false in
            ap (λ z. z.items) w.found-is ∙ c.loop-k.invariant.found ∙ sym (append-nil (filter p (take k list)))
            ∙ sym (more ∙ ap (λ b. filter p (take k list) ++ cond b (slice_index list k ∷ []) []) q)
      ];
    }

pub returns : goal.returns
returns c =
    let list = list_of c.args.blocks.now.lists c.args.block in
    let e = c.count-k-end.ensures in
    let a = c.loop-k-test.false in
    c.loop-k.invariant.found ∙ ap (filter (λ x. not (same_id (id_at c.args.rows.now x) c.args.row))) (take_all c.loop-k._k list (omega (arith, e, a)))
