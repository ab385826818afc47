-- The machine's test of steps is the notion of the grammar.
use Rattle.std.proofs.Common.{◌≡◌, refl, true}
use Rattle.std.proofs.lemmas.Bool.{and_from, and_parts}
use Rattle.forms.specs.Tree.{Formula}
use Rattle.forms.specs.Tree as formula
use Rattle.forms.specs.Proper.{IsPropositional}
use Rattle.form_reader.specs.Machine.{is_propositional}

-- what the grammar calls propositional passes the test
pub is_propositional-true : (f : Formula) → IsPropositional f → is_propositional f ≡ true
is_propositional-true formula.True h = refl
is_propositional-true formula.False h = refl
is_propositional-true (formula.Atom i) h = refl
is_propositional-true (formula.Not f) h = is_propositional-true f h
is_propositional-true (formula.And f g) h = and_from _ _ (is_propositional-true f h.0) (is_propositional-true g h.1)
is_propositional-true (formula.Or f g) h = and_from _ _ (is_propositional-true f h.0) (is_propositional-true g h.1)
is_propositional-true (formula.Implies f g) h = and_from _ _ (is_propositional-true f h.0) (is_propositional-true g h.1)
is_propositional-true (formula.Iff f g) h = and_from _ _ (is_propositional-true f h.0) (is_propositional-true g h.1)
is_propositional-true _ h = absurd h

-- and what passes the test is propositional
pub IsPropositional-tested : (f : Formula) → is_propositional f ≡ true → IsPropositional f
IsPropositional-tested formula.True e = tt
IsPropositional-tested formula.False e = tt
IsPropositional-tested (formula.Atom i) e = tt
IsPropositional-tested (formula.Not f) e = IsPropositional-tested f e
IsPropositional-tested (formula.And f g) e = (IsPropositional-tested f (and_parts _ _ e).0, IsPropositional-tested g (and_parts (is_propositional f) _ e).1)
IsPropositional-tested (formula.Or f g) e = (IsPropositional-tested f (and_parts _ _ e).0, IsPropositional-tested g (and_parts (is_propositional f) _ e).1)
IsPropositional-tested (formula.Implies f g) e = (IsPropositional-tested f (and_parts _ _ e).0, IsPropositional-tested g (and_parts (is_propositional f) _ e).1)
IsPropositional-tested (formula.Iff f g) e = (IsPropositional-tested f (and_parts _ _ e).0, IsPropositional-tested g (and_parts (is_propositional f) _ e).1)
IsPropositional-tested _ e = cc
