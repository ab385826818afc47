use Rattle.std.proofs.Common.{◌≡◌, ◌∷◌, [], arith, ◌∙◌, ap, subst, length}
use Rattle.automata.specs.Table.{moves_of}
use Rattle.automata.specs.Search.{HasFound}
use Rattle.automata.proofs.FoundLists.{has_begun, places_few}
use Rattle.automata.proofs.search.search.Goals as goal

pub loop-k-init : goal.loop-k-init
loop-k-init c = record {
  places = c.in_ok-reached.ensures.places;
  size = c.in_ok-reached.ensures.size ∙ c.size.ensures.size;
  within = omega arith;
  found = has_begun c.args.store.now.props (moves_of c.args.store.now c.args.automaton.now) c.in_ok-reached.reached.found.items
      (c.in_ok-reached.ensures.found ∙ ap (λ x. x ∷ []) c.first.ensures.first);
}

pub loop-k-smaller : goal.loop-k-smaller
loop-k-smaller c =
    let few = places_few c.loop-k.reached.found.items c.loop-k.reached.places.items c.loop-k.invariant.places in
    omega (arith, few, c.loop-k.invariant.size, c.loop-k-test.true, c.len.ensures)

pub loop-k-preserved : goal.loop-k-preserved
loop-k-preserved c = record {
  places = c.in_ok-follow.ensures.places;
  size = c.in_ok-follow.ensures.size;
  within = omega (arith, c.in_ok-follow.ensures.here);
  found = c.in_ok-follow.ensures.found;
}

pub returns : goal.returns
returns c =
    let found = c.loop-k.reached.found.items in
    let all : c.loop-k.k ≡ length found = omega (arith, c.loop-k.invariant.within, c.loop-k-test.false, c.len.ensures) in
    record {
      places = c.loop-k.invariant.places;
      size = c.loop-k.invariant.size;
      found = subst (λ k. HasFound c.args.store.now.props (moves_of c.args.store.now c.args.automaton.now) found k) all c.loop-k.invariant.found;
    }
