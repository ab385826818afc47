use Rattle.std.proofs.Common.{◌≡◌, ◌<◌, ◌-◌, ◌^◌, Some, arith, sym, ◌∙◌, ap}
use Rattle.std.specs.Prelude.{slice_get}
use Rattle.products.proofs.PlaceLemmas.{place_true, numbered}
use Rattle.products.proofs.places.number.Goals as goal

pub returns-clause-places : goal.returns-clause-places
returns-clause-places c =
    let stored = c.in_ok-at.ensures.stored in
    let here : slice_get c.insert_full.new.self.keys c.in_ok-at.at ≡ Some c.args.place = stored.1 ∙ ap Some (sym (place_true c.args.place stored.0 stored.2)) in
    let few : c.in_ok-at.at < 2 ^ 32 - 2 = omega (arith, c.if-at-ge4294967294.false) in
    (numbered c.args.places.now.keys c.insert_full.new.self.keys c.args.place c.in_ok-at.at c.requires c.in_ok-at.ensures.keys here few).places

pub returns-clause-grows : goal.returns-clause-grows
returns-clause-grows c =
    let stored = c.in_ok-at.ensures.stored in
    let here : slice_get c.insert_full.new.self.keys c.in_ok-at.at ≡ Some c.args.place = stored.1 ∙ ap Some (sym (place_true c.args.place stored.0 stored.2)) in
    let few : c.in_ok-at.at < 2 ^ 32 - 2 = omega (arith, c.if-at-ge4294967294.false) in
    (numbered c.args.places.now.keys c.insert_full.new.self.keys c.args.place c.in_ok-at.at c.requires c.in_ok-at.ensures.keys here few).grows

pub returns-clause-met : goal.returns-clause-met
returns-clause-met c =
    let stored = c.in_ok-at.ensures.stored in
    let here : slice_get c.insert_full.new.self.keys c.in_ok-at.at ≡ Some c.args.place = stored.1 ∙ ap Some (sym (place_true c.args.place stored.0 stored.2)) in
    let few : c.in_ok-at.at < 2 ^ 32 - 2 = omega (arith, c.if-at-ge4294967294.false) in
    (numbered c.args.places.now.keys c.insert_full.new.self.keys c.args.place c.in_ok-at.at c.requires c.in_ok-at.ensures.keys here few).met
