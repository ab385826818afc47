-- Texts worked out by hand, so that a wrong rule in the definitions does not check.
use Rattle.std.proofs.Common.{◌≡◌, refl, [], ◌∷◌, List, ℕ}
use Rattle.std.specs.Prelude.{codes}
use Rattle.forms.specs.Tree.{Formula, Atom, Not, Implies, Iff, Until, Diamond, Test, Seq, Step}
use Rattle.forms_command.specs.Showing.{form_lines}

abbrev names : List (List ℕ)
names = codes "a" ∷ codes "b" ∷ []

abbrev a : Formula
a = Atom 0

abbrev b : Formula
b = Atom 1

iff_negates_its_first_operand : form_lines names (Not (Iff a b)) ≡ codes "form !(a <-> b)\nnnf (!a <-> b)\n"
iff_negates_its_first_operand = refl

until_becomes_release : form_lines names (Not (Until a b)) ≡ codes "form !(a U b)\nnnf (!a R !b)\n"
until_becomes_release = refl

implication_becomes_or : form_lines names (Not (Implies a b)) ≡ codes "form !(a -> b)\nnnf (a & !b)\n"
implication_becomes_or = refl

tests_are_turned_and_steps_are_not : form_lines names (Not (Diamond (Seq (Test (Implies a b)) (Step (Implies a b))) b))
    ≡ codes "form !<({(a -> b)}? ; {(a -> b)})>b\nnnf [({(!a | b)}? ; {(a -> b)})]!b\n"
tests_are_turned_and_steps_are_not = refl
