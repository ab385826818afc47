use Rattle.std.proofs.Common.{refl}
use Rattle.std.proofs.lemmas.Result.{err_from_is_err_and}
use Rattle.forms.specs.Tree.{tree}
use Rattle.forms.specs.Parts.{parts}
use Rattle.automata.specs.Table.{size_of}
use Rattle.translate.proofs.CountLemmas.{counts_of, counts_within, adds_from, first_over_from, whole_over}
use Rattle.translate.proofs.MeantLemmas.{whole_meant, whole_now}
use Rattle.translate.proofs.translating.translate.Goals as goal

pub returns-in_err-automaton-clause-too_many : goal.returns-in_err-automaton-clause-too_many
returns-in_err-automaton-clause-too_many c =
    let r = err_from_is_err_and c.from_residual.result c.from_residual.ensures.1 in
    rw (r.1, r.2)
    (first_over_from c.args.store.now.props c.args.store.now.props c.args.limit (tree c.args.form.now) c.args.empty c.new-counts.result _
    refl c.new-counts.ensures c.in_err-automaton.ensures.too_many)

pub returns-in_err-admit-clause-too_many : goal.returns-in_err-admit-clause-too_many
returns-in_err-admit-clause-too_many c =
    let p = c.args.store.now.props in
    let f = tree c.args.form.now in
    let whole = whole_meant _ _ _ _ _ f c.args.empty c.in_ok-automaton.ensures.keeps c.in_ok-whole.ensures.keeps c.in_ok-automaton.ensures.least c.in_ok-whole.ensures.least in
    let r = err_from_is_err_and c.from_residual-in_err-admit.result c.from_residual-in_err-admit.ensures.1 in
    rw (r.1, r.2)
    (whole_over p c.args.limit f c.args.empty c.part.new.counts c.size.result (size_of c.in_ok-whole.whole) _
    (adds_from p c.args.store.now.props c.args.limit (parts f) c.new-counts.result c.part.new.counts refl c.new-counts.ensures c.in_ok-automaton.ensures.counts)
    whole.size c.size.ensures.size c.in_err-admit.ensures.too_many)

pub returns-clause-counts : goal.returns-clause-counts
returns-clause-counts c =
    let p = c.args.store.now.props in
    let f = tree c.args.form.now in
    counts_of p c.args.limit f c.part.new.counts
    (adds_from p c.args.store.now.props c.args.limit (parts f) c.new-counts.result c.part.new.counts refl c.new-counts.ensures c.in_ok-automaton.ensures.counts)

pub returns-clause-within : goal.returns-clause-within
returns-clause-within c =
    let p = c.args.store.now.props in
    let f = tree c.args.form.now in
    counts_within p c.args.limit (parts f) c.part.new.counts
    (adds_from p c.args.store.now.props c.args.limit (parts f) c.new-counts.result c.part.new.counts refl c.new-counts.ensures c.in_ok-automaton.ensures.counts)

pub returns-clause-whole : goal.returns-clause-whole
returns-clause-whole c = whole_now _ _ _ _ _ (tree c.args.form.now) c.args.empty c.in_ok-automaton.ensures.keeps c.in_ok-automaton.ensures.least c.in_ok-whole.ensures.least

pub returns-clause-size : goal.returns-clause-size
returns-clause-size c =
    let whole = whole_meant _ _ _ _ _ (tree c.args.form.now) c.args.empty c.in_ok-automaton.ensures.keeps c.in_ok-whole.ensures.keeps c.in_ok-automaton.ensures.least c.in_ok-whole.ensures.least in
    whole.size

pub returns-clause-least : goal.returns-clause-least
returns-clause-least c =
    let whole = whole_meant _ _ _ _ _ (tree c.args.form.now) c.args.empty c.in_ok-automaton.ensures.keeps c.in_ok-whole.ensures.keeps c.in_ok-automaton.ensures.least c.in_ok-whole.ensures.least in
    whole.least

pub returns-clause-only : goal.returns-clause-only
returns-clause-only c =
    let whole = whole_meant _ _ _ _ _ (tree c.args.form.now) c.args.empty c.in_ok-automaton.ensures.keeps c.in_ok-whole.ensures.keeps c.in_ok-automaton.ensures.least c.in_ok-whole.ensures.least in
    whole.only
