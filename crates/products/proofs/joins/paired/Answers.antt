use Rattle.std.proofs.Common.{◌≤◌, ◌∙◌, length}
use Rattle.diagrams.proofs.Meaning.{Keeps_refl}
use Rattle.automata.proofs.Lasts.{fits_lasts}
use Rattle.products.proofs.JoiningLemmas.{made_fits, made_joins, made_of, made_some, nothing_there}
use Rattle.products.proofs.joins.paired.Goals as goal

pub loop-place-init : goal.loop-place-init
loop-place-init c =
    (Keeps_refl c.args.store.now c.props.ensures.canonical, c.in_ok-joining.ensures.joining c.args.store.now, λ key id e. absurd (c.new-memo.ensures key id e))

pub follow-requires-clause-a : goal.follow-requires-clause-a
follow-requires-clause-a c = fits_lasts c.args.store.now c.loop-place.store c.loop-place.invariant.0 c.args.a.now c.requires.a

pub follow-requires-clause-b : goal.follow-requires-clause-b
follow-requires-clause-b c = fits_lasts c.args.store.now c.loop-place.store c.loop-place.invariant.0 c.args.b.now c.requires.b

pub returns-clause-fits : goal.returns-clause-fits
returns-clause-fits c =
    let k = c.loop-place.invariant.0 in
    let a = fits_lasts c.args.store.now c.loop-place.store k c.args.a.now c.requires.a in
    let b = fits_lasts c.args.store.now c.loop-place.store k c.args.b.now c.requires.b in
    let full : length c.loop-place.joining.places.keys ≤ length c.loop-place.joining.rows.items = nothing_there c.loop-place.joining.places.keys c.len.result (length c.loop-place.joining.rows.items) (c.in_default.ensures ∙ c.get_index.ensures.key) (c.len.ensures ∙ c.loop-place.joining.rows.ok.0) in
    made_fits c.loop-place.store c.args.a.now c.args.b.now c.new.result c.loop-place.joining.places.keys a b
    (made_of c.loop-place.store c.args.a.now c.args.b.now c.loop-place.joining.places.keys c.loop-place.joining.marks.items c.loop-place.joining.rows.items c.new.result
    c.loop-place.invariant.1 full c.new.ensures.first c.new.ensures.marks c.new.ensures.rows)

pub returns-clause-join : goal.returns-clause-join
returns-clause-join c =
    let k = c.loop-place.invariant.0 in
    let a = fits_lasts c.args.store.now c.loop-place.store k c.args.a.now c.requires.a in
    let b = fits_lasts c.args.store.now c.loop-place.store k c.args.b.now c.requires.b in
    let full : length c.loop-place.joining.places.keys ≤ length c.loop-place.joining.rows.items = nothing_there c.loop-place.joining.places.keys c.len.result (length c.loop-place.joining.rows.items) (c.in_default.ensures ∙ c.get_index.ensures.key) (c.len.ensures ∙ c.loop-place.joining.rows.ok.0) in
    let made = made_of c.loop-place.store c.args.a.now c.args.b.now c.loop-place.joining.places.keys c.loop-place.joining.marks.items c.loop-place.joining.rows.items c.new.result
    c.loop-place.invariant.1 full c.new.ensures.first c.new.ensures.marks c.new.ensures.rows in
    let h = made_some c.loop-place.store c.args.a.now c.args.b.now c.loop-place.joining.places.keys c.new.result made in
    made_joins c.loop-place.store c.args.a.now c.args.b.now c.new.result c.loop-place.joining.places.keys a b h made
