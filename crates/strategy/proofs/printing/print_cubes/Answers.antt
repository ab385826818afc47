use Rattle.std.proofs.Common.{◌++◌, sym, ◌∙◌, ap, take, arith, append_assoc, append-nil}
use Rattle.strategy.specs.Listing.{key_of, fields_of, cube_line, cube_lines}
use Rattle.strategy.proofs.ListingLemmas.{cube_lines-more, cube_lines-all}
use Rattle.strategy.proofs.printing.print_cubes.Goals as goal

pub loop-i-init : goal.loop-i-init
loop-i-init c = sym (append-nil c.args.text.now)

pub loop-i-preserved : goal.loop-i-preserved
loop-i-preserved c =
    let key = key_of c.args.list in
    let fields = fields_of c.args.strategy.now c.args.list in
    let cubes = c.args.cubes.now in
    let line = cube_line key fields c.item.result.now in
    c.in_ok-print_cube.ensures
    ∙ ap (λ z. z ++ line) c.loop-i.invariant
    ∙ append_assoc c.args.text.now (cube_lines key fields (take c.loop-i.i cubes)) line
    ∙ ap (λ z. c.args.text.now ++ z) (sym (cube_lines-more key fields cubes c.loop-i.i c.item.result.now c.item.ensures))

pub returns : goal.returns
returns c =
    c.loop-i.invariant
    ∙ ap (λ z. c.args.text.now ++ z) (cube_lines-all (key_of c.args.list) (fields_of c.args.strategy.now c.args.list) c.args.cubes.now c.loop-i.i (omega (arith, c.loop-i-test.false, c.len-i-end.ensures)))
