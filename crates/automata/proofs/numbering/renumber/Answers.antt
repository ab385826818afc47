use Rattle.std.proofs.Common.{◌<◌, arith, sym, ◌∙◌, subst, length}
use Rattle.std.specs.Prelude.{All}
use Rattle.automata.specs.Table.{size_of, moves_of}
use Rattle.automata.specs.Search.{AreMarks, AreRows}
use Rattle.automata.proofs.FoundLists.{places_few}
use Rattle.automata.proofs.RenumberLemmas.{found_locations, found_some, renumbered_fits, renumbered_part, renumbered_marks, renumbered_numbers}
use Rattle.automata.proofs.numbering.renumber.Goals as goal

pub marks_of-requires : goal.marks_of-requires
marks_of-requires c =
    subst (λ xs. All (λ at. at < size_of c.args.automaton) xs) (sym c.deref.ensures.value)
    (found_locations c.in_ok-reached.reached.found.items c.in_ok-reached.reached.places.items (size_of c.args.automaton) c.in_ok-reached.ensures.places c.in_ok-reached.ensures.size)

pub new-requires : goal.new-requires
new-requires c =
    let r = c.in_ok-reached in
    let q = subst (λ xs. AreMarks c.args.automaton xs c.in_ok-marks.marks.items (length xs)) c.deref.ensures.value c.in_ok-marks.ensures in
    let few = places_few r.reached.found.items r.reached.places.items r.ensures.places in
    let some = found_some c.args.store.now.props (moves_of c.args.store.now c.args.automaton) r.reached.found.items (length r.reached.found.items) r.ensures.found in
    record {
      same = q.length ∙ sym c.in_ok-rows.ensures.rows.length;
      first = omega (arith, some, c.in_ok-rows.ensures.rows.length);
      few = omega (arith, few, c.in_ok-rows.ensures.rows.length, r.ensures.places.few);
    }

pub returns : goal.returns
returns c =
    let s = c.args.store.now in
    let n = c.rows_of.new.store in
    let t = c.args.automaton in
    let u = c.new.result in
    let r = c.in_ok-reached in
    let found = r.reached.found.items in
    let places = r.reached.places.items in
    let keeps = c.in_ok-rows.ensures.keeps in
    let first : t.first < size_of t = subst (λ z. z < size_of t) c.first.ensures.first c.first.ensures.within in
    let q = subst (λ xs. AreMarks t found xs (length found)) (sym c.new.ensures.marks) (subst (λ xs. AreMarks t xs c.in_ok-marks.marks.items (length xs)) c.deref.ensures.value c.in_ok-marks.ensures) in
    let rows = subst (λ xs. AreRows s n t found places xs (length found)) (sym c.new.ensures.rows) c.in_ok-rows.ensures.rows in
    record {
      keeps = keeps;
      fits = renumbered_fits s n t u found places first c.requires.fits keeps r.ensures.places r.ensures.found q rows c.new.ensures.first;
      first = c.new.ensures.first;
      part = renumbered_part s n t u found places first c.requires.fits keeps r.ensures.places r.ensures.found q rows c.new.ensures.first;
      marks = renumbered_marks s n t u found places first c.requires.fits keeps r.ensures.places r.ensures.found q rows c.new.ensures.first;
      numbered = renumbered_numbers s n t u found places first c.requires.fits keeps r.ensures.places r.ensures.found q rows c.new.ensures.first;
    }
