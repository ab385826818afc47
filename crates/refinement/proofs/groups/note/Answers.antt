use Rattle.std.proofs.Common.{◌≡◌, ◌<◌, ◌++◌, ◌∷◌, [], arith, sym, ◌∙◌, ap, length, map, slice_set, Vec, Global, ℕ, List}
use Rattle.std.proofs.lemmas.List.{get_or-map, length-map, map-set}
use Rattle.linked_blocks.specs.Lists.{list_of}
use Rattle.refinement.proofs.groups.note.Goals as goal

abbrev items_of : Vec ℕ Global → List ℕ
items_of list = list.items

pub returns : goal.returns
returns c =
    let xs = c.args.groups.now.items in
    let n = c.args.number in
    let long = length-map xs items_of in
    let within : n < length xs = (let r = c.requires in omega (arith, r, long)) in
    let here : list_of (map items_of xs) n ≡ c.index_mut-list.result.now.items =
    get_or-map items_of xs n c.index_mut-list.result.now [] within ∙ ap (λ z. z.items) (sym c.index_mut-list.ensures.value) in
    map-set items_of xs n c.push.new.self ∙ ap (slice_set (map items_of xs) n) (c.in_ok-push.ensures.items ∙ ap (λ z. z ++ c.args.at ∷ []) (sym here))
