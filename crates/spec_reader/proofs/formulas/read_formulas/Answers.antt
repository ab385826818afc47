-- The formulas of the lines, one after the other.
use Rattle.std.proofs.Common.{◌≡◌, ◌+◌, ◌++◌, [], ◌∷◌, map, drop, sym, ap, ◌∙◌, refl, append-nil}
use Rattle.std.proofs.lemmas.List.{drop_all, map-append}
use Rattle.forms.specs.Tree.{tree}
use Rattle.spec_lines.specs.Lines.{shown}
use Rattle.spec_lines.specs.Keywords.{lines_with}
use Rattle.spec_reader.specs.Refusal.{forms_fault}
use Rattle.spec_reader.proofs.FormulaLemmas.{lines-other, lines-here, read-more}
use Rattle.spec_reader.proofs.LineFaults.{or_else-later}
use Rattle.spec_reader.proofs.formulas.read_formulas.Goals as goal
use Rattle.spec_reader.proofs.formulas.read_formulas.Goals.{then-eq+in_ok-read_line+in_ok-push, else-eq}

pub returns : goal.returns
returns c =
    let none : drop c.loop-line.line-index c.args.lines.now ≡ [] = drop_all c.loop-line.line-index c.args.lines.now c.loop-line-test.false in
    let all = rw none at c.loop-line.invariant.found in
    let told = rw none at c.loop-line.invariant.told in
    record {
      found = rw (append-nil (map tree c.loop-line.forms.items)) at (all [] tt);
      ok = told;
      names = c.loop-line.invariant.names;
      fault = tt;
    }

pub loop-line-preserved : goal.loop-line-preserved
loop-line-preserved c =
    let k = c.args.keyword in
    let lines = c.args.lines.now in
    let i = c.loop-line.line-index in
    let line = c.line-item.result in
    let d = c.args.dialect in
    let names = c.args.names.now in
    let later = lines_with k (map shown (drop (i + 1) lines)) in
    elim c.if-eq.branch [
      | then-eq+in_ok-read_line+in_ok-push w ↦
          let e = lines-here k lines i line c.word.result.now c.loop-line-test.true c.line-item.is c.word.ensures (sym c.eq.ensures ∙ w.if-eq.true) in
          let same = c.loop-line.invariant.names in
          let form = w.in_ok-read_line.field-0 in
          let more : map tree c.if-eq.forms.items ≡ map tree c.loop-line.forms.items ++ tree form ∷ [] =
          ap (λ v. map tree v.items) w.forms-is ∙ ap (map tree) w.in_ok-push.ensures.items ∙ map-append tree c.loop-line.forms.items (form ∷ []) in
          record {
            names = w.names-is ∙ w.in_ok-read_line.ensures.names ∙ same;
            found = read-more d names _ _ later (shown line) (map tree c.loop-line.forms.items) (map tree c.if-eq.forms.items) (tree form) e (rw same at w.in_ok-read_line.ensures.found) more c.loop-line.invariant.found;
            told = c.loop-line.invariant.told ∙ ap (forms_fault d names) e ∙ or_else-later _ _ _ (rw same at w.in_ok-read_line.ensures.ok) refl;
          }
      | else-eq w ↦
          let e = lines-other k lines i line c.word.result.now c.loop-line-test.true c.line-item.is c.word.ensures (sym c.eq.ensures ∙ w.if-eq.false) in
          let same = w.forms-is in
          record {
            names = w.names-is ∙ c.loop-line.invariant.names;
            found = λ fs h. rw same (c.loop-line.invariant.found fs (rw e h));
            told = c.loop-line.invariant.told ∙ ap (forms_fault d names) e;
          }
    ]
