use Rattle.std.proofs.Common.{◌≡◌, arith, sym, ◌∙◌, inr, length}
use Rattle.std.specs.Prelude.{slice_index}
use Rattle.std.proofs.lemmas.List.{get_or_read}
use Rattle.automata.specs.Search.{nowhere}
use Rattle.automata.proofs.FoundLists.{places_few, places_noted, no_place}
use Rattle.automata.proofs.search.note.Goals as goal

pub overflow_cast-len : goal.overflow_cast-len
overflow_cast-len c =
    let few = places_few c.args.reached.now.found.items c.args.reached.now.places.items c.requires.places in
    omega (arith, few, c.requires.places.few, c.len.ensures)

pub returns-in_ok-push-clause-places : goal.returns-in_ok-push-clause-places
returns-in_ok-push-clause-places c =
    let found = c.args.reached.now.found.items in
    let places = c.args.reached.now.places.items in
    let none : slice_index places c.args.at ≡ nowhere = sym (get_or_read places c.args.at c.index.result.now c.requires.at c.index.ensures 0) ∙ c.if-index.true in
    let last : c.len.result ≡ length found = omega (arith, c.len.ensures) in
    rw (c.in_ok-push.ensures.items, last) (places_noted found places c.requires.places c.args.at c.requires.at none)

pub returns-in_ok-push-clause-noted : goal.returns-in_ok-push-clause-noted
returns-in_ok-push-clause-noted c =
    let found = c.args.reached.now.found.items in
    let places = c.args.reached.now.places.items in
    let none : slice_index places c.args.at ≡ nowhere = sym (get_or_read places c.args.at c.index.result.now c.requires.at c.index.ensures 0) ∙ c.if-index.true in
    inr (c.in_ok-push.ensures.items, no_place found places c.requires.places c.args.at none)
