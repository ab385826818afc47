-- Texts worked out by hand, so that a wrong rule in the definitions does not check.
use Rattle.std.proofs.Common.{◌≡◌, refl, [], ◌∷◌, List, ℕ}
use Rattle.std.specs.Prelude.{codes}
use Rattle.translate_command.specs.AutomatonText.{name_list, word_line}

abbrev names : List (List ℕ)
names = codes "a" ∷ codes "b" ∷ []

empty_word : word_line 2 [] ≡ codes "word empty\n"
empty_word = refl

letters_have_the_first_proposition_first : word_line 2 (2 ∷ 1 ∷ []) ≡ codes "word 10 01\n"
letters_have_the_first_proposition_first = refl

letters_of_no_proposition : word_line 0 (0 ∷ 0 ∷ []) ≡ codes "word . .\n"
letters_of_no_proposition = refl

no_names : name_list [] 0 ≡ []
no_names = refl

two_names : name_list names 2 ≡ codes " a b"
two_names = refl
