-- One form more stands before what is joined.
use Rattle.std.proofs.Common.{◌≡◌, [], ◌∷◌, map, sym, ap, ◌∙◌, Some, length}
use Rattle.std.proofs.lemmas.List.{map-append, nil_from_length}
use Rattle.forms.specs.Tree.{And, tree}
use Rattle.spec_reader.specs.Formulas.{conjunction_of}
use Rattle.spec_reader.proofs.FormulaLemmas.{conjunction_onto, conjunction_onto-push, conjunction_of-push}
use Rattle.spec_reader.proofs.formulas.conjunction.Goals as goal

pub returns : goal.returns
returns c =
    let size : length c.loop-form.forms.items ≡ 0 = sym c.loop-form.forms.ok.0 ∙ c.in_default-pop.ensures.cases.0 in
    let none = nil_from_length c.loop-form.forms.items size in
    let before = c.loop-form.invariant in
    sym (rw none at before)

pub loop-form-preserved : goal.loop-form-preserved
loop-form-preserved c =
    let items = map tree c.pop-in-loop-form.new.self.items in
    let before = c.loop-form.invariant in
    before
    ∙ ap (λ fs. Some (conjunction_onto fs (tree c.loop-form.whole))) (ap (map tree) c.in-Some-pop.ensures.items ∙ map-append tree c.pop-in-loop-form.new.self.items (c.in-Some-pop.form ∷ []))
    ∙ ap (λ f. Some f) (conjunction_onto-push items (tree c.in-Some-pop.form) (tree c.loop-form.whole))
    ∙ (let this = sym c.in_ok-new.ensures.ok in let others = sym c.in_ok-new-2.ensures.ok in λ i. Some (conjunction_onto items (And (tree (this i)) (tree (others i)))))

pub loop-form-init : goal.loop-form-init
loop-form-init c =
    let items = map tree c.pop.new.self.items in
    ap conjunction_of (ap (map tree) c.in-Some.ensures.items ∙ map-append tree c.pop.new.self.items (c.in-Some.whole ∷ []))
    ∙ conjunction_of-push items (tree c.in-Some.whole)
