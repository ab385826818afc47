-- A line gives one letter at most.
use Rattle.std.proofs.Common.{◌≡◌, ℕ, List, sym, ◌∙◌, length}
use Rattle.spec_reader.specs.declared.events.Mode.{Mode}
use Rattle.spec_reader.specs.Event.{IsEventOf}
use Rattle.spec_reader.proofs.LetterLemmas.{same_from_has}

-- two letters of one line are equal
pub one_letter : (names : List (List ℕ)) (mode : Mode) (line : List ℕ) (a b : ℕ) → IsEventOf names mode line a → IsEventOf names mode line b → a ≡ b
one_letter names mode line a b ha hb = same_from_has (length names) a b ha.below hb.below (λ i h. ha.bits i h ∙ sym (hb.bits i h))
