use Rattle.std.proofs.Common.{◌≡◌, ◌<◌, ◌∷◌, ℕ, [], length, ◌+◌, arith, sym, ◌∙◌, ap, subst, replicate}
use Rattle.std.specs.List.{range_with_len}
use Rattle.std.proofs.lemmas.List.{length-replicate, get_or-replicate}
use Rattle.diagrams.specs.declared.top.Id.{Id}
use Rattle.diagrams.specs.Eval.{id_at}
use Rattle.diagrams.specs.Live.{Keeps, Means}
use Rattle.diagrams.proofs.Meaning.{Keeps_trans, means_lasts}
use Rattle.automata.specs.Table.{size_of, mark_of, moves_of}
use Rattle.automata.proofs.Lasts.{fits_lasts}
use Rattle.linked_blocks.specs.Lists.{block_in, HoldEach}
use Rattle.class_laws.specs.Classes.{AreClasses, AreFull, IsPaid, HasFewMoves}
use Rattle.class_laws.specs.Divided.{IsDivided}
use Rattle.class_laws.specs.Splits.{IsSplit}
use Rattle.class_laws.specs.Current.{AreChanges, IsRefining}
use Rattle.class_laws.proofs.Beginning.{each_first, full_first, paid_first, all_changes}
use Rattle.class_laws.proofs.Paid.{paid_few}
use Rattle.class_laws.proofs.Grouped.{on_ok, on_ok2}
use Rattle.refinement.proofs.Starting.{begun, divided_back, classes_back}
use Rattle.refinement.proofs.rounds.refine.Goals as goal

pub returns-in_err-marks-clause-each : goal.returns-in_err-marks-clause-each
returns-in_err-marks-clause-each c =
    let size = size_of c.args.automaton.now in
    let some : 0 < size = (let w = c.first.ensures.within in omega (arith, w)) in
    subst (HoldEach size) (sym c.requires.lists) (each_first size some)

pub returns-in_err-touched-clause-each : goal.returns-in_err-touched-clause-each
returns-in_err-touched-clause-each c =
    let size = size_of c.args.automaton.now in
    let some : 0 < size = (let w = c.first.ensures.within in omega (arith, w)) in
    subst (HoldEach size) (sym c.requires.lists) (each_first size some)

pub split-requires-clause-each : goal.split-requires-clause-each
split-requires-clause-each c =
    let size = size_of c.args.automaton.now in
    let some : 0 < size = (let w = c.first.ensures.within in omega (arith, w)) in
    let long : length c.deref.result.now ≡ size = ap length c.deref.ensures.value ∙ c.in_ok-marks.ensures.long in
    rw (long, c.requires.lists) (each_first size some)

pub split-requires-clause-full : goal.split-requires-clause-full
split-requires-clause-full c =
    let size = size_of c.args.automaton.now in
    let some : 0 < size = (let w = c.first.ensures.within in omega (arith, w)) in
    subst AreFull (sym c.requires.lists) (full_first size some)

pub split-requires-clause-paid : goal.split-requires-clause-paid
split-requires-clause-paid c =
    let size = size_of c.args.automaton.now in
    let some : 0 < size = (let w = c.first.ensures.within in omega (arith, w)) in
    let long : length c.deref.result.now ≡ size = ap length c.deref.ensures.value ∙ c.in_ok-marks.ensures.long in
    rw (long, c.requires.lists, c.requires.moves) (paid_first size some)

pub split-requires-clause-changed : goal.split-requires-clause-changed
split-requires-clause-changed c =
    let rows = c.deref.result.now in
    let block = block_in c.args.blocks.now.lists in
    let long : length rows ≡ size_of c.args.automaton.now = ap length c.deref.ensures.value ∙ c.in_ok-marks.ensures.long in
    let all : c.deref-2.result.now ≡ range_with_len 0 (length rows) =
    c.deref-2.ensures.value ∙ c.in_ok-touched.ensures ∙ ap (range_with_len 0) (c.size-2.ensures.size ∙ sym long) in
    subst (AreChanges (length rows) block (id_at rows)) (sym all) (all_changes (length rows) block (id_at rows))

pub new-requires : goal.new-requires
new-requires c =
    let s = c.args.store.now in
    let m = c.marks.new.store in
    let n = c.terminal.new.self in
    fits_lasts s n (Keeps_trans s m n c.in_ok-marks.ensures.keeps c.in_ok-constant.ensures.keeps) c.args.automaton.now c.requires.fits

pub settle-requires-clause-fits : goal.settle-requires-clause-fits
settle-requires-clause-fits c =
    let s = c.args.store.now in
    let m = c.marks.new.store in
    let n = c.terminal.new.self in
    fits_lasts s n (Keeps_trans s m n c.in_ok-marks.ensures.keeps c.in_ok-constant.ensures.keeps) c.args.automaton.now c.requires.fits

pub settle-requires-clause-refining : goal.settle-requires-clause-refining
settle-requires-clause-refining c =
    let m = c.marks.new.store in
    let n = c.terminal.new.self in
    let t = c.args.automaton.now in
    let old = c.args.blocks.now in
    let after = c.split.new.blocks in
    let marks = c.in_ok-marks.marks.items in
    let rows = c.in_ok-rows.rows.items in
    let constant = c.in_ok-constant.constant in
    let k = c.in_ok-constant.ensures.keeps in
    let some : 0 < size_of t = (let w = c.first.ensures.within in omega (arith, w)) in
    let value = c.deref.ensures.value in
    let size : length c.deref.result.now ≡ size_of t = ap length value ∙ c.in_ok-marks.ensures.long in
    let all : c.in_ok-touched.touched.items ≡ range_with_len 0 (size_of t) = c.in_ok-touched.ensures ∙ ap (range_with_len 0) c.size-2.ensures.size in
    let same : rows ≡ replicate c.size-3.result constant = c.in_ok-rows.ensures.items_if_clones_equal (λ y e. e) in
    let long : length rows ≡ size_of t = ap length same ∙ length-replicate c.size-3.result constant ∙ c.size-3.ensures.size in
    let q : IsSplit (size_of t) (block_in old.lists) (block_in after.lists) (id_at marks) =
    subst (λ z. IsSplit z (block_in old.lists) (block_in after.lists) (id_at marks)) size
    (subst (λ xs. IsSplit (length c.deref.result.now) (block_in old.lists) (block_in after.lists) (id_at xs)) value c.in_ok-split.ensures.split) in
    subst (IsRefining n n t after rows) (sym all)
    (begun n t old after marks rows constant k.now some c.requires.lists (λ at h. means_lasts m n k (id_at marks at) _ (c.in_ok-marks.ensures.marks at h))
    (subst (λ z. HoldEach z after.lists) size c.in_ok-split.ensures.each) c.in_ok-split.ensures.full
    (subst (λ z. IsPaid z after.lists after.moves) size c.in_ok-split.ensures.paid) q long
    (λ at h. ap (λ xs. id_at xs at) same ∙ get_or-replicate c.size-3.result at constant (record { 0 = 0 }) (rw (c.size-3.ensures.size) h)))

pub returns-clause-few : goal.returns-clause-few
returns-clause-few c =
    let size = size_of c.args.automaton.now in
    let after = c.settle.new.blocks in
    on_ok c.settle.result (IsPaid size after.lists after.moves) (HasFewMoves size after.moves) (paid_few size after.lists after.moves c.settle.ensures.each) c.settle.ensures.paid

pub returns-clause-classes : goal.returns-clause-classes
returns-clause-classes c =
    let s = c.args.store.now in
    let m = c.marks.new.store in
    let n = c.terminal.new.self in
    let t = c.args.automaton.now in
    let k : Keeps s n = Keeps_trans s m n c.in_ok-marks.ensures.keeps c.in_ok-constant.ensures.keeps in
    let block = block_in c.settle.new.blocks.lists in
    on_ok c.settle.result (AreClasses n.props (moves_of n t) block) (AreClasses s.props (moves_of s t) block) (classes_back s n t block k c.requires.fits) c.settle.ensures.classes

pub returns-clause-divided : goal.returns-clause-divided
returns-clause-divided c =
    let s = c.args.store.now in
    let m = c.marks.new.store in
    let n = c.terminal.new.self in
    let t = c.args.automaton.now in
    let k : Keeps s n = Keeps_trans s m n c.in_ok-marks.ensures.keeps c.in_ok-constant.ensures.keeps in
    let block = block_in c.settle.new.blocks.lists in
    on_ok c.settle.result ((w : ℕ) × IsDivided n.props (moves_of n t) w block) ((w : ℕ) × IsDivided s.props (moves_of s t) w block)
    (λ d. (d.0, divided_back s n t d.0 block k c.requires.fits d.1)) c.settle.ensures.divided
