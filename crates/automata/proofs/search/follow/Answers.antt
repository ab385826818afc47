use Rattle.std.proofs.Common.{◌≡◌, arith, ◌∙◌, ap, subst, length}
use Rattle.std.specs.Prelude.{slice_index}
use Rattle.std.proofs.lemmas.List.{get_or_read}
use Rattle.diagrams.specs.Terminals.{AreTerminals}
use Rattle.automata.specs.Table.{row_of, moves_of}
use Rattle.automata.proofs.FoundLists.{IsFollowing, following_begins, following_more, following_ends, following_within}
use Rattle.automata.proofs.search.follow.Goals as goal

pub loop-target-init : goal.loop-target-init
loop-target-init c =
    let found = c.args.reached.now.found.items in
    let row : c.row.result ≡ row_of c.args.automaton.now (slice_index found c.args.k) = c.row.ensures ∙ ap (row_of c.args.automaton.now) (get_or_read found c.args.k c.index.result.now c.requires.here c.index.ensures 0) in
    record {
      places = c.requires.places;
      size = c.requires.size;
      here = c.requires.here;
      following = rw (c.deref-target-items.ensures.value)
          (following_begins c.args.store.now c.args.automaton.now found c.args.k c.in_ok-targets.targets.items c.requires.here c.requires.found
          (subst (λ r. AreTerminals c.args.store.now r c.in_ok-targets.targets.items) row c.in_ok-targets.ensures));
    }

pub note-requires-clause-places : goal.note-requires-clause-places
note-requires-clause-places c = c.loop-target.invariant.places

pub note-requires-clause-at : goal.note-requires-clause-at
note-requires-clause-at c =
    let v = c.loop-target.invariant in
    following_within c.args.store.now c.args.automaton.now c.loop-target.reached.found.items c.loop-target.reached.places.items c.deref-target-items.result.now c.args.k c.loop-target.target-index
    c.requires.fits v.places v.size v.following c.loop-target-test.true

pub loop-target-preserved : goal.loop-target-preserved
loop-target-preserved c =
    let v = c.loop-target.invariant in
    let f = following_more c.args.store.now.props (moves_of c.args.store.now c.args.automaton.now) c.loop-target.reached.found.items c.note.new.reached.found.items c.args.k
    c.deref-target-items.result.now c.loop-target.target-index c.loop-target-test.true v.following c.in_ok-note.ensures.noted in
    record {
      places = c.in_ok-note.ensures.places;
      size = c.in_ok-note.ensures.size ∙ v.size;
      here = f.finding.here;
      following = f;
    }

pub returns : goal.returns
returns c =
    let v = c.loop-target.invariant in
    let all : c.loop-target.target-index ≡ length c.deref-target-items.result.now = omega arith in
    record {
      places = v.places;
      size = v.size;
      here = v.here;
      found = following_ends c.args.store.now.props (moves_of c.args.store.now c.args.automaton.now) c.loop-target.reached.found.items c.args.k c.deref-target-items.result.now
          (subst (λ j. IsFollowing c.args.store.now.props (moves_of c.args.store.now c.args.automaton.now) c.loop-target.reached.found.items c.args.k c.deref-target-items.result.now j) all v.following);
    }
