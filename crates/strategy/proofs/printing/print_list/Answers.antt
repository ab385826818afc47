use Rattle.std.proofs.Common.{◌≡◌, ◌++◌, subst}
use Rattle.std.specs.Prelude.{OnOk}
use Rattle.strategy.specs.Listing.{key_of, fields_of}
use Rattle.strategy.proofs.ListingLemmas.{listed}
use Rattle.strategy.proofs.printing.print_list.Goals as goal

pub returns : goal.returns
returns c =
    subst (λ z. OnOk c.print_cubes.result (c.print_cubes.new.text ≡ c.args.text.now ++ z))
    (listed (key_of c.args.list) (fields_of c.args.strategy.now c.args.list) c.args.store.now c.args.id c.args.count c.in_ok-cubes.cubes c.in_ok-cubes.ensures c.requires.over c.requires.told)
    c.print_cubes.ensures
