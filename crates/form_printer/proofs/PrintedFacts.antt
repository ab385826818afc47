-- Known texts, so that a wrong rule in the definitions does not check.
use Rattle.std.proofs.Common.{◌≡◌, ℕ, List, [], ◌∷◌, true, false, refl, arith, codes}
use Rattle.forms.specs.Tree.{True, False, Atom, Not, And, Iff, Next, WeakNext, Until, Diamond, BoxAll, Step, Test, Choice, Seq, Star}
use Rattle.form_tokens.specs.declared.dialect.Dialect.TheVariants as dialects
use Rattle.form_tokens.specs.Spelling.{word_lexeme}
use Rattle.form_printer.specs.Printed.{printed}
use Rattle.form_printer.specs.ReadBack.{IsWithinLimits}

abbrev names : List (List ℕ)
names = codes "a" ∷ codes "b" ∷ codes "c" ∷ []

text-until : printed names (Not (Until (Atom 0) (Next (Atom 1)))) ≡ codes "!(a U X b)"
text-until = refl

text-iff : printed names (Not (Iff (Atom 0) (Not (Not False)))) ≡ codes "!(a <-> !!false)"
text-iff = refl

-- what `last` is read as
text-last : printed names (WeakNext False) ≡ codes "N false"
text-last = refl

text-path : printed names (Diamond (Choice (Star (Seq (Step (And (Atom 0) (Atom 1))) (Test (Atom 2)))) (Test (Not (Atom 0)))) (BoxAll (Star (Step True)) (Atom 1))) ≡ codes "<(({(a & b)} ; c?)* + {!a}?)>[true*]b"
text-path = refl

text-stars : printed names (BoxAll (Star (Star (Star (Step (Atom 2))))) True) ≡ codes "[((c*)*)*]true"
text-stars = refl

-- such texts are within the limits
within-until : IsWithinLimits dialects.Ltlf (record { names = names; closed = true }) (codes "!(a U X b)")
unfolding word_lexeme
within-until = record { few = omega arith; shallow = refl }

within-path : IsWithinLimits dialects.Ldlf (record { names = names; closed = false }) (codes "<({!a}? + c)*>[true*]b")
unfolding word_lexeme
within-path = record { few = omega arith; shallow = refl }
