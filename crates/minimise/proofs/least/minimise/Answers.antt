use Rattle.std.proofs.Common.{◌≡◌, ◌<◌, [], ◌∷◌, ◌∙◌, ap, subst}
use Rattle.std.specs.Prelude.{IfOk}
use Rattle.std.specs.List.{range_with_len}
use Rattle.diagrams.proofs.Meaning.{Keeps_trans}
use Rattle.automata.specs.Table.{size_of, moves_of}
use Rattle.automata.specs.Numbering.{IsNumbered}
use Rattle.automata.proofs.Lasts.{fits_lasts}
use Rattle.linked_blocks.specs.Lists.{block_in}
use Rattle.minimise.proofs.MergeLemmas.{quotient_back, classes_now, least_ok, marks_ok}
use Rattle.minimise.proofs.least.minimise.Goals as goal

pub refine-requires-clause-lists : goal.refine-requires-clause-lists
refine-requires-clause-lists c = c.in_ok-blocks.ensures.lists ∙ ap (λ z. range_with_len 0 z ∷ []) c.size-2.ensures.size

pub merge-requires-clause-fits : goal.merge-requires-clause-fits
merge-requires-clause-fits c = fits_lasts c.args.store.now c.refine.new.store c.in_ok-refine.ensures.keeps c.args.automaton c.requires.fits

pub merge-requires-clause-classes : goal.merge-requires-clause-classes
merge-requires-clause-classes c =
    classes_now c.args.store.now c.refine.new.store c.args.automaton (block_in c.refine.new.blocks.lists) c.in_ok-refine.ensures.keeps c.requires.fits c.in_ok-refine.ensures.classes

pub returns-in_err-merged-clause-keeps : goal.returns-in_err-merged-clause-keeps
returns-in_err-merged-clause-keeps c = Keeps_trans c.args.store.now c.refine.new.store c.merge.new.store c.in_ok-refine.ensures.keeps c.in_err-merged.ensures.keeps

pub returns : goal.returns
returns c =
    let s = c.args.store.now in
    let m = c.refine.new.store in
    let n = c.merge.new.store in
    let after = c.renumber.new.store in
    let t = c.args.automaton in
    let q = c.in_ok-merged.merged in
    let block = block_in c.refine.new.blocks.lists in
    let first : t.first < size_of t = subst (λ z. z < size_of t) c.first.ensures.first c.first.ensures.within in
    let last : q.first < size_of q = subst (λ z. z < size_of q) c.first-2.ensures.first c.first-2.ensures.within in
    let refined = c.in_ok-refine.ensures in
    let keeps = Keeps_trans s m n refined.keeps c.in_ok-merged.ensures.keeps in
    let quotient = quotient_back s m t (moves_of n q) block refined.keeps c.requires.fits c.in_ok-merged.ensures.quotient in
    record {
      keeps = Keeps_trans s n after keeps c.renumber.ensures.keeps;
      fits = c.renumber.ensures.fits;
      first = c.renumber.ensures.first;
      marks = marks_ok s n after t q block first last c.requires.fits c.in_ok-merged.ensures.fits keeps quotient c.renumber.result c.renumber.ensures.marks;
      least = least_ok s n after t q block refined.divided.0 first c.requires.fits keeps refined.divided.1 quotient c.renumber.result c.renumber.ensures.part c.renumber.ensures.numbered;
      numbered = subst (λ p. IfOk c.renumber.result (λ made. IsNumbered p (moves_of after made))) keeps.extends.props c.renumber.ensures.numbered;
    }
