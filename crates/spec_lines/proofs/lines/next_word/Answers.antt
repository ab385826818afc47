-- The words of bytes are the front one, and then those of what follows it.
use Rattle.std.proofs.Common.{◌≡◌, ◌-◌, ◌<◌, length, take, drop, arith, sym, ◌∙◌, ap, take_all, length-drop, refl}
use Rattle.std.proofs.lemmas.Bool.Decides.{nat_tests}
use Rattle.spec_lines.specs.Values.{words_of}
use Rattle.spec_lines.proofs.WordLemmas.{words_of-without_front, words_of-nil, words_of-front, without_front-solid, front-some}
use Rattle.spec_lines.proofs.lines.next_word.Goals as goal

pub returns-then-is_empty-clause-words : goal.returns-then-is_empty-clause-words
returns-then-is_empty-clause-words c =
    let none : length c.without_front-front.result.now ≡ 0 = grind (arith, nat_tests) in
    words_of-without_front c.args.bytes.now ∙ ap words_of (sym c.without_front-front.ensures.value) ∙ words_of-nil _ none

pub returns-clause-words : goal.returns-clause-words
returns-clause-words c =
    let front = c.without_front-front.result.now in
    let word = c.front_word-word.result.now in
    let some : 0 < length front = grind (arith, nat_tests) in
    let solid = without_front-solid c.args.bytes.now front c.without_front-front.ensures.value some in
    let rest : take (length front - length word) (drop (length word) front) ≡ drop (length word) front = take_all _ _ (omega (arith, length-drop (length word) front)) in
    let w = c.front_word-word.ensures.value in
    words_of-without_front c.args.bytes.now ∙ ap words_of (sym c.without_front-front.ensures.value)
    ∙ words_of-front front some solid
    ∙ rw (← w, rest) refl

pub returns-clause-shorter : goal.returns-clause-shorter
returns-clause-shorter c =
    let front = c.without_front-front.result.now in
    let word = c.front_word-word.result.now in
    let some : 0 < length front = grind (arith, nat_tests) in
    let solid = without_front-solid c.args.bytes.now front c.without_front-front.ensures.value some in
    let pos = front-some front word some solid c.front_word-word.ensures.value in
    let rest : take (length front - length word) (drop (length word) front) ≡ drop (length word) front = take_all _ _ (omega (arith, length-drop (length word) front)) in
    rw rest (omega (arith, length-drop (length word) front, c.without_front-front.ensures.within))
