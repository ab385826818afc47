use Rattle.std.proofs.Common.{◌+◌, subst, length}
use Rattle.diagrams.proofs.Meaning.{Keeps_trans}
use Rattle.choosing.specs.Choices.{AreNumbered, AreLookedUp}
use Rattle.choosing.proofs.RowLemmas.{choices_made}
use Rattle.choosing.proofs.decisions.choose_all.Goals as goal

pub choices_below-requires : goal.choices_below-requires
choices_below-requires c = record {
  canonical = c.props.ensures.canonical;
  below = c.in_ok-cut.ensures.diagrams;
  tables = c.requires.tables;
  fit = c.in_ok-cut.ensures.fits (c.args.size + 1) c.requires.fit;
  range = c.requires.range;
  few = c.requires.few;
}

pub returns-clause-keeps : goal.returns-clause-keeps
returns-clause-keeps c = Keeps_trans c.args.store.now c.cut_rows.new.store c.looked_up.new.store c.in_ok-cut.ensures.keeps c.in_ok-moves.ensures.keeps

pub returns-in_err-moves-clause-keeps : goal.returns-in_err-moves-clause-keeps
returns-in_err-moves-clause-keeps c = Keeps_trans c.args.store.now c.cut_rows.new.store c.looked_up.new.store c.in_ok-cut.ensures.keeps c.in_err-moves.ensures.keeps

pub returns-clause-choices : goal.returns-clause-choices
returns-clause-choices c =
    let s = c.args.store.now in
    let n = c.cut_rows.new.store in
    let m = c.looked_up.new.store in
    let cut = c.in_ok-cut.cut.rows.items in
    let below = c.in_ok-below.below.items in
    let distinct = c.in_ok-numbered.numbered.choices.keys in
    let numbers = c.in_ok-numbered.numbered.numbers.items in
    let numbered : AreNumbered below numbers distinct (length below) = subst (λ z. AreNumbered z numbers distinct (length z)) c.deref.ensures.value c.in_ok-numbered.ensures in
    let looked : AreLookedUp n m numbers cut c.in_ok-moves.moves.items (length cut) =
    subst (λ z. AreLookedUp n m z cut c.in_ok-moves.moves.items (length cut)) c.deref-3.ensures.value
    (subst (λ z. AreLookedUp n m c.deref-3.result.now z c.in_ok-moves.moves.items (length z)) c.deref-2.ensures.value c.in_ok-moves.ensures.rows) in
    choices_made s n m c.in_ok-cut.ensures.keeps c.in_ok-moves.ensures.keeps c.args.outputs c.args.size c.args.duty c.args.tables.now c.args.rows.now c.in_ok-cut.cut.below cut c.in_ok-moves.moves.items
    below distinct numbers c.in_ok-cut.ensures.diagrams c.in_ok-cut.ensures.rows c.in_ok-below.ensures numbered looked
