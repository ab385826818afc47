use Rattle.std.proofs.Common.{◌<◌, ◌∙◌, ap, sym, refl, arith, length, Some}
use Rattle.std.proofs.lemmas.Option.{slice_get_read}
use Rattle.diagrams.proofs.memo.Memo.get.Goals as goal

pub returns-then-eq : goal.returns-then-eq
returns-then-eq g c =
    let xs = c.args.self.now.entries.items in
    let within : c.place_of-place.result < length xs = omega (arith, c.place_of-place.ensures, c.len.ensures, c.args.self.now.entries.ok.0) in
    let read = slice_get_read xs (length xs) c.place_of-place.result c.index.result.now refl within c.index.ensures in
    (c.in-Some.entry, (c.place_of-place.result, read ∙ ap (λ o. Some o) c.in-Some.is), sym c.eq.ensures ∙ c.if-eq.true, refl)
