use Rattle.std.proofs.Common.{◌≡◌, ◌≢◌, ◌<◌, ◌≤◌, ◌-◌, ℕ, suc, [], arith, refl, sym, ◌∙◌, ap, subst, rules, length}
use Rattle.std.proofs.lemmas.Bool.{eqb-true, eqb-false}
use Rattle.diagrams.specs.Eval.{id_at}
use Rattle.diagrams.proofs.Meaning.{Keeps_trans}
use Rattle.automata.specs.Table.{size_of}
use Rattle.automata.proofs.Lasts.{fits_lasts}
use Rattle.linked_blocks.specs.Lists.{block_in, HoldEach}
use Rattle.class_laws.specs.Classes.{AreFull, IsPaid}
use Rattle.class_laws.specs.Splits.{IsSplit}
use Rattle.class_laws.specs.Shifts.{AreNoted}
use Rattle.class_laws.specs.Current.{LeadTo}
use Rattle.class_laws.proofs.Settling.{settled, settled_divided, goes_on, blocks_few}
use Rattle.looking.specs.Predecessors.{leaders}
use Rattle.looking.proofs.Leaders.{leaders_lead}
use Rattle.refinement.proofs.rounds.settle.Goals as goal

pub look_again-requires-clause-fits : goal.look_again-requires-clause-fits
look_again-requires-clause-fits c = fits_lasts c.args.store.now c.loop-touched.store c.loop-touched.invariant.keeps c.args.automaton.now c.requires.fits

pub returns-then-is_empty-clause-classes : goal.returns-then-is_empty-clause-classes
returns-then-is_empty-clause-classes c =
    let s = c.args.store.now in
    let m = c.loop-touched.store in
    let n = c.look_again.new.store in
    let t = c.args.automaton.now in
    let blocks = c.loop-touched.blocks in
    let after = c.split.new.blocks in
    let old = c.loop-touched.rows.items in
    let rows = c.look_again.new.rows.items in
    let touched = c.loop-touched.touched.items in
    let changed = c.in_ok-changed.changed.items in
    let shifted = c.in_ok-shifted.shifted.items in
    let v = c.loop-touched.invariant in
    let first : t.first < size_of t = subst (λ z. z < size_of t) c.first.ensures.first c.first.ensures.within in
    let value = c.deref-in-loop-touched.ensures.value in
    let k = c.in_ok-changed.ensures.keeps in
    let long : length rows ≡ size_of t = c.in_ok-changed.ensures.long in
    let size = ap length value ∙ long in
    let q : IsSplit (size_of t) (block_in blocks.lists) (block_in after.lists) (id_at rows) =
    subst (λ z. IsSplit z (block_in blocks.lists) (block_in after.lists) (id_at rows)) size
    (subst (λ xs. IsSplit (length c.deref-in-loop-touched.result.now) (block_in blocks.lists) (block_in after.lists) (id_at xs)) value c.in_ok-shifted.ensures.split) in
    let w : AreNoted (size_of t) blocks.lists after.lists [] shifted = subst (λ z. AreNoted z blocks.lists after.lists [] shifted) size c.in_ok-shifted.ensures.noted in
    let none : length shifted ≡ 0 = sym c.in_ok-shifted.shifted.ok.0 ∙ eqb-true _ _ (sym c.is_empty.ensures ∙ c.if-is_empty.true) in
    settled s m n t blocks after old rows touched changed shifted first c.requires.fits v k long c.in_ok-changed.ensures.rows q w none

pub returns-then-is_empty-clause-divided : goal.returns-then-is_empty-clause-divided
returns-then-is_empty-clause-divided c =
    let s = c.args.store.now in
    let m = c.loop-touched.store in
    let n = c.look_again.new.store in
    let t = c.args.automaton.now in
    let blocks = c.loop-touched.blocks in
    let after = c.split.new.blocks in
    let old = c.loop-touched.rows.items in
    let rows = c.look_again.new.rows.items in
    let touched = c.loop-touched.touched.items in
    let changed = c.in_ok-changed.changed.items in
    let shifted = c.in_ok-shifted.shifted.items in
    let v = c.loop-touched.invariant in
    let first : t.first < size_of t = subst (λ z. z < size_of t) c.first.ensures.first c.first.ensures.within in
    let value = c.deref-in-loop-touched.ensures.value in
    let k = c.in_ok-changed.ensures.keeps in
    let long : length rows ≡ size_of t = c.in_ok-changed.ensures.long in
    let size = ap length value ∙ long in
    let q : IsSplit (size_of t) (block_in blocks.lists) (block_in after.lists) (id_at rows) =
    subst (λ z. IsSplit z (block_in blocks.lists) (block_in after.lists) (id_at rows)) size
    (subst (λ xs. IsSplit (length c.deref-in-loop-touched.result.now) (block_in blocks.lists) (block_in after.lists) (id_at xs)) value c.in_ok-shifted.ensures.split) in
    let w : AreNoted (size_of t) blocks.lists after.lists [] shifted = subst (λ z. AreNoted z blocks.lists after.lists [] shifted) size c.in_ok-shifted.ensures.noted in
    let none : length shifted ≡ 0 = sym c.in_ok-shifted.shifted.ok.0 ∙ eqb-true _ _ (sym c.is_empty.ensures ∙ c.if-is_empty.true) in
    (suc v.words, settled_divided s m n t blocks after old rows touched changed shifted first c.requires.fits v k long c.in_ok-changed.ensures.rows q w none)

pub loop-touched-smaller : goal.loop-touched-smaller
loop-touched-smaller c =
    let s = c.args.store.now in
    let m = c.loop-touched.store in
    let n = c.look_again.new.store in
    let t = c.args.automaton.now in
    let blocks = c.loop-touched.blocks in
    let after = c.split.new.blocks in
    let old = c.loop-touched.rows.items in
    let rows = c.look_again.new.rows.items in
    let touched = c.loop-touched.touched.items in
    let changed = c.in_ok-changed.changed.items in
    let shifted = c.in_ok-shifted.shifted.items in
    let v = c.loop-touched.invariant in
    let first : t.first < size_of t = subst (λ z. z < size_of t) c.first.ensures.first c.first.ensures.within in
    let value = c.deref-in-loop-touched.ensures.value in
    let k = c.in_ok-changed.ensures.keeps in
    let long : length rows ≡ size_of t = c.in_ok-changed.ensures.long in
    let size = ap length value ∙ long in
    let q : IsSplit (size_of t) (block_in blocks.lists) (block_in after.lists) (id_at rows) =
    subst (λ z. IsSplit z (block_in blocks.lists) (block_in after.lists) (id_at rows)) size
    (subst (λ xs. IsSplit (length c.deref-in-loop-touched.result.now) (block_in blocks.lists) (block_in after.lists) (id_at xs)) value c.in_ok-shifted.ensures.split) in
    let w : AreNoted (size_of t) blocks.lists after.lists [] shifted = subst (λ z. AreNoted z blocks.lists after.lists [] shifted) size c.in_ok-shifted.ensures.noted in
    let some : length shifted ≢ 0 = λ z. eqb-false _ _ (sym c.is_empty.ensures ∙ c.if-is_empty.false) (c.in_ok-shifted.shifted.ok.0 ∙ z) in
    let more = w.more.1 (omega (arith, some)) in
    let each : HoldEach (size_of t) after.lists = subst (λ z. HoldEach z after.lists) size c.in_ok-shifted.ensures.each in
    let few = blocks_few (size_of t) after.lists each c.in_ok-shifted.ensures.full in
    let g : size_of t - length after.lists < size_of t - length blocks.lists = omega (arith, more, few) in
    g

pub loop-touched-preserved : goal.loop-touched-preserved
loop-touched-preserved c =
    let s = c.args.store.now in
    let m = c.loop-touched.store in
    let n = c.look_again.new.store in
    let t = c.args.automaton.now in
    let blocks = c.loop-touched.blocks in
    let after = c.split.new.blocks in
    let old = c.loop-touched.rows.items in
    let rows = c.look_again.new.rows.items in
    let touched = c.loop-touched.touched.items in
    let changed = c.in_ok-changed.changed.items in
    let shifted = c.in_ok-shifted.shifted.items in
    let v = c.loop-touched.invariant in
    let first : t.first < size_of t = subst (λ z. z < size_of t) c.first.ensures.first c.first.ensures.within in
    let value = c.deref-in-loop-touched.ensures.value in
    let k = c.in_ok-changed.ensures.keeps in
    let long : length rows ≡ size_of t = c.in_ok-changed.ensures.long in
    let size = ap length value ∙ long in
    let q : IsSplit (size_of t) (block_in blocks.lists) (block_in after.lists) (id_at rows) =
    subst (λ z. IsSplit z (block_in blocks.lists) (block_in after.lists) (id_at rows)) size
    (subst (λ xs. IsSplit (length c.deref-in-loop-touched.result.now) (block_in blocks.lists) (block_in after.lists) (id_at xs)) value c.in_ok-shifted.ensures.split) in
    let w : AreNoted (size_of t) blocks.lists after.lists [] shifted = subst (λ z. AreNoted z blocks.lists after.lists [] shifted) size c.in_ok-shifted.ensures.noted in
    let next = c.in_ok-touched.touched.items in
    let each : HoldEach (size_of t) after.lists = subst (λ z. HoldEach z after.lists) size c.in_ok-shifted.ensures.each in
    let paid : IsPaid (size_of t) after.lists after.moves = subst (λ z. IsPaid z after.lists after.moves) size c.in_ok-shifted.ensures.paid in
    let preds = c.args.predecessors.now in
    let is : next ≡ leaders preds shifted = c.in_ok-touched.ensures ∙ ap (leaders preds) c.deref-in-loop-touched-3.ensures.value in
    let lead : LeadTo n t shifted next = subst (LeadTo n t shifted) (sym is) (leaders_lead s n t preds shifted (Keeps_trans s m n v.keeps k) c.requires.fits c.requires.predecessors) in
    goes_on s m n t blocks after old rows touched changed shifted first c.requires.fits v k long c.in_ok-changed.ensures.rows q w next each c.in_ok-shifted.ensures.full paid lead
