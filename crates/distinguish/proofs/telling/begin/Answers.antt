use Rattle.std.proofs.Common.{◌<◌, refl, sym, ◌∙◌, ap, subst}
use Rattle.automata.specs.Table.{size_of}
use Rattle.automata.proofs.RenumberLemmas.{fits_closed}
use Rattle.std.proofs.lemmas.Bool.{true≢false}
use Rattle.distinguish.proofs.BeginLemmas.{begins_none, begins_some}
use Rattle.distinguish.proofs.telling.begin.Goals as goal
use Rattle.distinguish.proofs.telling.begin.Goals.{then-not-are_zeros+in_ok-push+in_ok-new+in_ok-push-2, else-not-are_zeros}

pub returns : goal.returns
returns c =
    let s = c.args.store.now in
    let t = c.args.automaton.now in
    let blocks = c.in_ok-blocks.blocks.items in
    let first : t.first < size_of t = subst (λ z. z < size_of t) c.first.ensures.first c.first.ensures.within in
    let closed = fits_closed s t first c.requires in
    let value = c.deref.ensures.value in
    let zeros = rw value at c.are_zeros.ensures in
    elim c.if-not-are_zeros.branch [
      | then-not-are_zeros+in_ok-push+in_ok-new+in_ok-push-2 w ↦
          begins_some s t blocks closed c.in_ok-blocks.ensures (λ z. true≢false (sym (zeros.1 z) ∙ w.if-not-are_zeros.true)) c.if-not-are_zeros.words c.if-not-are_zeros.columns.items w.in_ok-new.field-0
          (w.words-is ∙ w.in_ok-push.ensures.ok ∙ (rw (c.new-words.ensures, w.new.ensures) refl)) (ap (λ v. v.items) w.columns-is ∙ w.in_ok-push-2.ensures.items ∙ (rw (c.new-columns.ensures.items) refl))
          w.in_ok-new.ensures.size w.in_ok-new.ensures.marks
      | else-not-are_zeros w ↦
          begins_none s t blocks closed c.in_ok-blocks.ensures (zeros.0 (w.if-not-are_zeros.false)) c.if-not-are_zeros.words c.if-not-are_zeros.columns.items
          (w.words-is ∙ c.new-words.ensures) (ap (λ v. v.items) w.columns-is ∙ c.new-columns.ensures.items)
    ]
