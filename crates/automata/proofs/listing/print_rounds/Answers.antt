use Rattle.std.proofs.Common.{◌++◌, sym, ◌∙◌, ap, take, arith, append_assoc, append-nil}
use Rattle.automata.specs.Listing.{round_line, round_lines}
use Rattle.automata.proofs.ListingLemmas.{round_lines-more, round_lines-all}
use Rattle.automata.proofs.listing.print_rounds.Goals as goal

pub loop-i-init : goal.loop-i-init
loop-i-init c = sym (append-nil c.args.text.now)

pub loop-i-preserved : goal.loop-i-preserved
loop-i-preserved c =
    let cubes = c.args.cubes.now in
    let line = round_line c.item.result.now in
    c.in_ok-print_round.ensures
    ∙ ap (λ z. z ++ line) c.loop-i.invariant
    ∙ append_assoc c.args.text.now (round_lines (take c.loop-i.i cubes)) line
    ∙ ap (λ z. c.args.text.now ++ z) (sym (round_lines-more cubes c.loop-i.i c.item.result.now c.item.ensures))

pub returns : goal.returns
returns c =
    c.loop-i.invariant
    ∙ ap (λ z. c.args.text.now ++ z) (round_lines-all c.args.cubes.now c.loop-i.i (omega (arith, c.loop-i-test.false, c.len-i-end.ensures)))
