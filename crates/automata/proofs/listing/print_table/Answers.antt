use Rattle.std.proofs.Common.{◌≡◌, ◌<◌, ◌-◌, ◌++◌, [], ◌∙◌, ap, subst, arith}
use Rattle.diagrams.specs.Cubes.{AreCubes}
use Rattle.automata.specs.Table.{size_of, mark_of, row_of, IsRow}
use Rattle.automata.specs.Listing.{location_line}
use Rattle.automata.proofs.ListingLemmas.{lists_more}
use Rattle.automata.proofs.listing.print_table.Goals as goal

pub loop-at-init : goal.loop-at-init
loop-at-init c = record { cubes = λ at. []; rows = λ at h. absurd (omega (arith, h)); lines = c.new-text.ensures }

pub cubes-requires : goal.cubes-requires
cubes-requires c =
    let within : c.loop-at.at < size_of c.args.automaton.now = omega (arith, c.loop-at-test.true, c.size-at-end.ensures.size) in
    let r : IsRow c.args.store.now (size_of c.args.automaton.now) c.row.result = rw (c.row.ensures) (c.requires.fits c.loop-at.at within) in
    record {
      live = r.live;
      range = omega arith;
      over = λ a b same. r.letters a b (λ v h. same v (omega arith, rw (c.props.ensures.number) h));
    }

pub loop-at-preserved : goal.loop-at-preserved
loop-at-preserved c =
    let s = c.args.store.now in
    let t = c.args.automaton.now in
    let cubes = c.in_ok-cubes.cubes in
    let count : c.props.result - 0 ≡ s.props = omega (arith, c.props.ensures.number) in
    let a = subst (λ n. AreCubes s (row_of t c.loop-at.at) 0 n cubes) count (subst (λ r. AreCubes s r 0 (c.props.result - 0) cubes) c.row.ensures c.in_ok-cubes.ensures) in
    let line : c.print_location.new.text ≡ c.loop-at.text ++ location_line c.loop-at.at (mark_of t c.loop-at.at) =
    c.in_ok-print_location.ensures ∙ ap (λ m. c.loop-at.text ++ location_line c.loop-at.at m) c.mark.ensures in
    rw (c.in_ok-print_rounds.ensures, line) (lists_more s t c.loop-at.at c.loop-at.text cubes c.loop-at.invariant a)
