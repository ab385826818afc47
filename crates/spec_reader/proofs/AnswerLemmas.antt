-- What an answer says of a text, and that formulas have just names of their table.
use Rattle.std.proofs.Common.{◌≡◌, ℕ, List, [], ◌∷◌, length, Option, Some, Result, Ok, Err, true, subst, refl}
use Rattle.std.specs.Prelude.{IfOk, IfErr}
use Rattle.std.specs.Option.{IfSome}
use Rattle.forms.specs.Tree.{Formula}
use Rattle.forms.specs.Proper.{IsProper}
use Rattle.form_tokens.specs.declared.dialect.Dialect.{Dialect}
use Rattle.form_tokens.specs.Spelling.{lexemes}
use Rattle.form_reader.specs.Reading.{IsFormulaOf}
use Rattle.form_reader.proofs.Outcomes.{first_fault-IsRead}
use Rattle.form_reader.proofs.Texts.{IsFormulaOf-IsProper}
use Rattle.spec_reader.specs.declared.spec.Spec.{Spec}
use Rattle.spec_reader.specs.declared.spec.SpecFault.{SpecFault}
use Rattle.spec_reader.specs.declared.spec.SpecFault.TheVariants as fault
use Rattle.spec_reader.specs.Shared.{table_of}
use Rattle.spec_reader.specs.Specification.{Specification, plain, IsConjunctionOf, IsSpecificationOf}
use Rattle.spec_reader.specs.Refusal.{Blames, first_refusal}
use Rattle.spec_reader.specs.Answer.{Gives, AreProper}
use Rattle.spec_reader.proofs.FaultPlaces.{closed-names}
use Rattle.spec_reader.proofs.SpecLemmas.{one_specification, unrefused}

-- an answer that is right gives the one specification of the text
pub Gives-one : (text : List ℕ) (r : Result Spec SpecFault) (spec : Specification) → IfOk r (λ s. IsSpecificationOf text (plain s)) → IfErr r (λ e. Blames e (first_refusal text ≡ Some e)) → IsSpecificationOf text spec → Gives r spec
Gives-one text (Ok s) spec h k m = one_specification text (plain s) spec h m
Gives-one text (Err fault.Memory) spec h k m = tt
Gives-one text (Err e) spec h k m = let none = unrefused text spec m in cc

formula-proper : (d : Dialect) (names : List (List ℕ)) (text : List ℕ) (f : Formula) → IsFormulaOf d (table_of names) text f → IsProper (length names) f
formula-proper d names text f h =
    let same = closed-names d (table_of names) text refl ((first_fault-IsRead true names (lexemes d text)).1 (f, h)) in
    subst (λ (ns : List (List ℕ)). IsProper (length ns) f) same (IsFormulaOf-IsProper d (table_of names) text f h)

conjunction-proper : (d : Dialect) (names : List (List ℕ)) (vs : List (List ℕ)) (o : Option Formula) → IsConjunctionOf d (table_of names) vs o → IfSome o (IsProper (length names))
conjunction-proper d names [] o h = rw h tt
conjunction-proper d names (v ∷ []) o h = let e = h.1 in rw e (formula-proper d names v h.0 h.2)
conjunction-proper d names (v ∷ w ∷ vs) o h = let e = h.2 in rw e (formula-proper d names v h.0 h.3, conjunction-proper d names (w ∷ vs) (Some h.1) h.4)

-- the formulas of a specification have just names of it
pub specification-proper : (text : List ℕ) (spec : Specification) → IsSpecificationOf text spec → AreProper spec
specification-proper text spec k = record {
  assume = conjunction-proper spec.dialect spec.names _ spec.assume k.lines.assume;
  goal = conjunction-proper spec.dialect spec.names _ (Some spec.goal) k.lines.goal;
  duty = conjunction-proper spec.dialect spec.names _ spec.duty k.lines.duty;
}

-- so have those of an answer
pub result-proper : (text : List ℕ) (r : Result Spec SpecFault) → IfOk r (λ s. IsSpecificationOf text (plain s)) → IfOk r (λ s. AreProper (plain s))
result-proper text (Ok s) h = specification-proper text (plain s) h
result-proper text (Err e) h = tt
