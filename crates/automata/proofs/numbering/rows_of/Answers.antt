use Rattle.std.proofs.Common.{◌≡◌, ◌<◌, arith, ◌∙◌, ap, subst, length}
use Rattle.std.specs.Prelude.{slice_index}
use Rattle.diagrams.specs.Eval.{eval}
use Rattle.diagrams.specs.Live.{Means}
use Rattle.diagrams.proofs.Meaning.{Keeps_refl, Keeps_trans}
use Rattle.automata.specs.Table.{size_of, row_of, IsRow}
use Rattle.automata.specs.Search.{AreRows}
use Rattle.automata.proofs.Lasts.{row_lasts}
use Rattle.automata.proofs.RenumberLemmas.{rows_more}
use Rattle.automata.proofs.numbering.rows_of.Goals as goal

pub loop-at-init : goal.loop-at-init
loop-at-init c = record {
  keeps = Keeps_refl c.args.store.now c.props.ensures.canonical;
  rows = record { length = ap length c.new-rows.ensures.items; row = λ k h. absurd (omega (arith, h)) };
}

pub map_terminals-requires : goal.map_terminals-requires
map_terminals-requires c =
    let s = c.args.store.now in
    let n = c.loop-at.store in
    let t = c.args.automaton.now in
    let found = c.args.reached.now.found.items in
    let i = c.loop-at.at-index in
    let same : c.row.result ≡ row_of t (slice_index found i) = c.row.ensures ∙ ap (λ xs. row_of t (slice_index xs i)) c.deref-at-items.ensures.value in
    let l : i < length found = subst (λ xs. i < length xs) c.deref-at-items.ensures.value c.loop-at-test.true in
    let h : slice_index found i < size_of t = subst (λ z. slice_index found i < z) c.requires.size (c.requires.places.within i l) in
    let r : IsRow n (size_of t) c.row.result = rw (same) (row_lasts s n c.loop-at.invariant.keeps (size_of t) (row_of t (slice_index found i)) (c.requires.fits (slice_index found i) h)) in
    record { live = r.live; fit = λ a. rw (c.deref.ensures.value, c.requires.size) (r.targets a) }

pub loop-at-preserved : goal.loop-at-preserved
loop-at-preserved c =
    let s = c.args.store.now in
    let n = c.loop-at.store in
    let after = c.map_terminals.new.self in
    let t = c.args.automaton.now in
    let found = c.args.reached.now.found.items in
    let places = c.args.reached.now.places.items in
    let i = c.loop-at.at-index in
    let same : c.row.result ≡ row_of t (slice_index found i) = c.row.ensures ∙ ap (λ xs. row_of t (slice_index xs i)) c.deref-at-items.ensures.value in
    let l : i < length found = subst (λ xs. i < length xs) c.deref-at-items.ensures.value c.loop-at-test.true in
    let h : slice_index found i < size_of t = subst (λ z. slice_index found i < z) c.requires.size (c.requires.places.within i l) in
    let m : Means after c.in_ok-map_terminals.field-0 (λ a. slice_index places (eval n (row_of t (slice_index found i)) a)) =
    subst (λ r. Means after c.in_ok-map_terminals.field-0 (λ a. slice_index places (eval n r a))) same
    (subst (λ xs. Means after c.in_ok-map_terminals.field-0 (λ a. slice_index xs (eval n c.row.result a))) c.deref.ensures.value c.in_ok-map_terminals.ensures.id) in
    record {
      keeps = Keeps_trans s n after c.loop-at.invariant.keeps c.in_ok-map_terminals.ensures.keeps;
      rows = rw (c.in_ok-push.ensures.items)
          (rows_more s n after t found places c.loop-at.rows.items i c.in_ok-map_terminals.field-0 c.loop-at.invariant.keeps c.in_ok-map_terminals.ensures.keeps c.requires.fits h c.loop-at.invariant.rows m);
    }

pub returns : goal.returns
returns c =
    let found = c.args.reached.now.found.items in
    let long : length c.deref-at-items.result.now ≡ length found = ap length c.deref-at-items.ensures.value in
    let all : c.loop-at.at-index ≡ length found = omega (arith, long) in
    record {
      keeps = c.loop-at.invariant.keeps;
      rows = subst (λ k. AreRows c.args.store.now c.loop-at.store c.args.automaton.now found c.args.reached.now.places.items c.loop-at.rows.items k) all c.loop-at.invariant.rows;
    }
