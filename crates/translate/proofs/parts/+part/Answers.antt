use Rattle.std.specs.Prelude.{All}
use Rattle.std.proofs.Common.{◌≡◌, [], ◌∷◌, ◌++◌, sym, ◌∙◌, ap, ap₂, subst, append_assoc}
use Rattle.std.proofs.lemmas.Result.{err_from_is_err_and, on_ok_weaker}
use Rattle.std.proofs.lemmas.List.Elements.{All-nil}
use Rattle.forms.specs.Tree.{tree, program}
use Rattle.forms.specs.Parts.{parts, test_parts}
use Rattle.automata.proofs.Lasts.{fits_lasts}
use Rattle.translate.specs.Operation.{unary_form, binary_form, modal_form}
use Rattle.translate.specs.PathTests.{IsTest}
use Rattle.translate.specs.Counting.{IfTooMany}
use Rattle.translate.specs.Tally.{StopsAt}
use Rattle.translate.proofs.MeantLemmas.{unary_made, binary_made, modal_made, tests_last, tests_more}
use Rattle.translate.proofs.PartLemmas.{parts-unary, parts-binary, parts-modal, adds_last, adds_two, adds_within, stops_last, stops_first, stops_second, stops_within, if_err_weaker}
use Rattle.translate.proofs.parts.+part.Goals as goal

pub add_tests-returns-in_ok-add_test-in-Test-clause-meant :
    goal.add_tests-returns-in_ok-add_test-in-Test-clause-meant
add_tests-returns-in_ok-add_test-in-Test-clause-meant t c =
    λ h. tests_more c.args.store.now c.part.new.store c.in_ok-automaton-in-Test.ensures.keeps (tree c.deref.result.now) (tree c.deref-in-Test.result.now) c.in_ok-automaton-in-Test.automaton
    c.args.tests.now.items c.add_test.new.tests.items h c.in_ok-add_test-in-Test.ensures (ap tree (c.deref-in-Test.ensures ∙ sym c.deref.ensures)) c.in_ok-automaton-in-Test.ensures.least

pub add_tests-returns-in_ok-add_tests-in-Choice-clause-counts :
    goal.add_tests-returns-in_ok-add_tests-in-Choice-clause-counts
add_tests-returns-in_ok-add_tests-in-Choice-clause-counts t c =
    let fs = test_parts (program c.deref-in-Choice.result.now) in
    let gs = test_parts (program c.deref-in-Choice-2.result.now) in
    let all = test_parts (program c.args.path.now) in
    let p = c.args.store.now.props in
    let n = c.add_tests.new.store in
    let done = c.in_ok-add_tests-in-Choice.ensures in
    let split : all ≡ fs ++ gs =
    ap (λ z. test_parts (program z)) c.in-Choice.is
    ∙ ap₂ (λ x y. test_parts (program x) ++ test_parts (program y)) (sym c.deref-in-Choice.ensures) (sym c.deref-in-Choice-2.ensures) in
    on_ok_weaker c.add_tests-in-Choice.result
    (adds_two p n.props c.args.limit fs gs all c.args.counts.now c.add_tests.new.counts c.add_tests-in-Choice.new.counts split done.keeps.extends.props done.counts)
    c.add_tests-in-Choice.ensures.counts

pub add_tests-returns-in_ok-add_tests-in-Choice-clause-too_many :
    goal.add_tests-returns-in_ok-add_tests-in-Choice-clause-too_many
add_tests-returns-in_ok-add_tests-in-Choice-clause-too_many t c =
    let fs = test_parts (program c.deref-in-Choice.result.now) in
    let gs = test_parts (program c.deref-in-Choice-2.result.now) in
    let all = test_parts (program c.args.path.now) in
    let p = c.args.store.now.props in
    let n = c.add_tests.new.store in
    let done = c.in_ok-add_tests-in-Choice.ensures in
    let split : all ≡ fs ++ gs =
    ap (λ z. test_parts (program z)) c.in-Choice.is
    ∙ ap₂ (λ x y. test_parts (program x) ++ test_parts (program y)) (sym c.deref-in-Choice.ensures) (sym c.deref-in-Choice-2.ensures) in
    if_err_weaker c.add_tests-in-Choice.result (λ fault. IfTooMany fault (StopsAt n.props c.args.limit gs c.add_tests.new.counts)) (λ fault. IfTooMany fault (StopsAt p c.args.limit all c.args.counts.now))
    (λ fault. stops_second p n.props c.args.limit fs gs all c.args.counts.now c.add_tests.new.counts fault split done.keeps.extends.props done.counts)
    c.add_tests-in-Choice.ensures.too_many

pub add_tests-returns-in_ok-add_tests-in-Seq-clause-counts :
    goal.add_tests-returns-in_ok-add_tests-in-Seq-clause-counts
add_tests-returns-in_ok-add_tests-in-Seq-clause-counts t c =
    let fs = test_parts (program c.deref-in-Seq.result.now) in
    let gs = test_parts (program c.deref-in-Seq-2.result.now) in
    let all = test_parts (program c.args.path.now) in
    let p = c.args.store.now.props in
    let n = c.add_tests-in-Seq.new.store in
    let done = c.in_ok-add_tests-in-Seq.ensures in
    let split : all ≡ fs ++ gs =
    ap (λ z. test_parts (program z)) c.in-Seq.is
    ∙ ap₂ (λ x y. test_parts (program x) ++ test_parts (program y)) (sym c.deref-in-Seq.ensures) (sym c.deref-in-Seq-2.ensures) in
    on_ok_weaker c.add_tests-in-Seq-2.result
    (adds_two p n.props c.args.limit fs gs all c.args.counts.now c.add_tests-in-Seq.new.counts c.add_tests-in-Seq-2.new.counts split done.keeps.extends.props done.counts)
    c.add_tests-in-Seq-2.ensures.counts

pub add_tests-returns-in_ok-add_tests-in-Seq-clause-too_many :
    goal.add_tests-returns-in_ok-add_tests-in-Seq-clause-too_many
add_tests-returns-in_ok-add_tests-in-Seq-clause-too_many t c =
    let fs = test_parts (program c.deref-in-Seq.result.now) in
    let gs = test_parts (program c.deref-in-Seq-2.result.now) in
    let all = test_parts (program c.args.path.now) in
    let p = c.args.store.now.props in
    let n = c.add_tests-in-Seq.new.store in
    let done = c.in_ok-add_tests-in-Seq.ensures in
    let split : all ≡ fs ++ gs =
    ap (λ z. test_parts (program z)) c.in-Seq.is
    ∙ ap₂ (λ x y. test_parts (program x) ++ test_parts (program y)) (sym c.deref-in-Seq.ensures) (sym c.deref-in-Seq-2.ensures) in
    if_err_weaker c.add_tests-in-Seq-2.result (λ fault. IfTooMany fault (StopsAt n.props c.args.limit gs c.add_tests-in-Seq.new.counts)) (λ fault. IfTooMany fault (StopsAt p c.args.limit all c.args.counts.now))
    (λ fault. stops_second p n.props c.args.limit fs gs all c.args.counts.now c.add_tests-in-Seq.new.counts fault split done.keeps.extends.props done.counts)
    c.add_tests-in-Seq-2.ensures.too_many

pub binary-returns-in_err-left-clause-too_many : goal.binary-returns-in_err-left-clause-too_many
binary-returns-in_err-left-clause-too_many t c =
    let p = c.args.store.now.props in
    let f = tree c.args.f.now in
    let g = tree c.args.g.now in
    let x = binary_form c.args.op f g in
    let r = err_from_is_err_and c.from_residual.result c.from_residual.ensures.1 in
    rw (r.1, r.2)
    (stops_first p c.args.limit (parts f) (parts g ++ x ∷ []) (parts x) c.args.counts.now _
    (parts-binary c.args.op f g ∙ append_assoc (parts f) (parts g) (x ∷ [])) c.in_err-left.ensures.too_many)

pub binary-returns-in_err-right-clause-too_many : goal.binary-returns-in_err-right-clause-too_many
binary-returns-in_err-right-clause-too_many t c =
    let f = tree c.args.f.now in
    let g = tree c.args.g.now in
    let x = binary_form c.args.op f g in
    let r = err_from_is_err_and c.from_residual-in_err-right.result c.from_residual-in_err-right.ensures.1 in
    rw (r.1, r.2)
    (stops_within c.args.store.now.props c.part.new.store.props c.args.limit (parts f) (parts g) (x ∷ []) (parts x) c.args.counts.now c.part.new.counts _
    (parts-binary c.args.op f g) c.in_ok-left.ensures.keeps.extends.props c.in_ok-left.ensures.counts c.in_err-right.ensures.too_many)

pub binary-apply-requires-clause-a : goal.binary-apply-requires-clause-a
binary-apply-requires-clause-a t c =
    fits_lasts c.part.new.store c.part-2.new.store c.in_ok-right.ensures.keeps c.in_ok-left.left c.in_ok-left.ensures.least.fits

pub binary-returns-in_err-add-clause-too_many : goal.binary-returns-in_err-add-clause-too_many
binary-returns-in_err-add-clause-too_many t c =
    let p = c.args.store.now.props in
    let f = tree c.args.f.now in
    let g = tree c.args.g.now in
    let x = binary_form c.args.op f g in
    let ka = c.in_ok-left.ensures.keeps in
    let kb = c.in_ok-right.ensures.keeps in
    let km = c.in_ok-made.ensures.keeps in
    let r = err_from_is_err_and c.from_residual-in_err-add.result c.from_residual-in_err-add.ensures.1 in
    rw (r.1, r.2)
    (stops_last p c.args.limit (parts f ++ parts g) (parts x) x c.apply.new.store c.in_ok-made.made c.args.counts.now c.part-2.new.counts c.size.result _
    (parts-binary c.args.op f g) (km.extends.props ∙ kb.extends.props ∙ ka.extends.props)
    (binary_made c.args.op c.part.new.store c.part-2.new.store c.apply.new.store c.in_ok-left.left c.in_ok-right.right c.in_ok-made.made f g c.in_ok-left.ensures.least kb c.in_ok-right.ensures.least km c.in_ok-made.ensures.least)
    (adds_within p c.part.new.store.props c.args.limit (parts f) (parts g) c.args.counts.now c.part.new.counts c.part-2.new.counts ka.extends.props c.in_ok-left.ensures.counts c.in_ok-right.ensures.counts)
    c.size.ensures.size c.in_err-add.ensures.too_many)

pub binary-returns-clause-least : goal.binary-returns-clause-least
binary-returns-clause-least t c =
    binary_made c.args.op c.part.new.store c.part-2.new.store c.apply.new.store c.in_ok-left.left c.in_ok-right.right c.in_ok-made.made (tree c.args.f.now) (tree c.args.g.now)
    c.in_ok-left.ensures.least c.in_ok-right.ensures.keeps c.in_ok-right.ensures.least c.in_ok-made.ensures.keeps c.in_ok-made.ensures.least

pub binary-returns-clause-counts : goal.binary-returns-clause-counts
binary-returns-clause-counts t c =
    let p = c.args.store.now.props in
    let f = tree c.args.f.now in
    let g = tree c.args.g.now in
    let x = binary_form c.args.op f g in
    let ka = c.in_ok-left.ensures.keeps in
    let kb = c.in_ok-right.ensures.keeps in
    let km = c.in_ok-made.ensures.keeps in
    adds_last p c.args.limit (parts f ++ parts g) (parts x) x c.apply.new.store c.in_ok-made.made c.args.counts.now c.part-2.new.counts c.add.new.self c.size.result
    (parts-binary c.args.op f g) (km.extends.props ∙ kb.extends.props ∙ ka.extends.props)
    (binary_made c.args.op c.part.new.store c.part-2.new.store c.apply.new.store c.in_ok-left.left c.in_ok-right.right c.in_ok-made.made f g c.in_ok-left.ensures.least kb c.in_ok-right.ensures.least km c.in_ok-made.ensures.least)
    (adds_within p c.part.new.store.props c.args.limit (parts f) (parts g) c.args.counts.now c.part.new.counts c.part-2.new.counts ka.extends.props c.in_ok-left.ensures.counts c.in_ok-right.ensures.counts)
    c.in_ok-add.ensures.appended c.size.ensures.size c.in_ok-add.ensures.within

pub modal-returns-in_err-add_tests-clause-too_many :
    goal.modal-returns-in_err-add_tests-clause-too_many
modal-returns-in_err-add_tests-clause-too_many t c =
    let p = c.args.store.now.props in
    let fs = test_parts (program c.args.path.now) in
    let f = tree c.args.f.now in
    let x = modal_form c.args.op (program c.args.path.now) f in
    let r = err_from_is_err_and c.from_residual.result c.from_residual.ensures.1 in
    rw (r.1, r.2)
    (stops_first p c.args.limit fs (parts f ++ x ∷ []) (parts x) c.args.counts.now _
    (parts-modal c.args.op (program c.args.path.now) f ∙ append_assoc fs (parts f) (x ∷ [])) c.in_err-add_tests.ensures.too_many)

pub modal-returns-in_err-a-clause-too_many : goal.modal-returns-in_err-a-clause-too_many
modal-returns-in_err-a-clause-too_many t c =
    let p = c.args.store.now.props in
    let fs = test_parts (program c.args.path.now) in
    let f = tree c.args.f.now in
    let x = modal_form c.args.op (program c.args.path.now) f in
    let done = c.in_ok-add_tests.ensures in
    let r = err_from_is_err_and c.from_residual-in_err-a.result c.from_residual-in_err-a.ensures.1 in
    rw (r.1, r.2)
    (stops_within p c.add_tests.new.store.props c.args.limit fs (parts f) (x ∷ []) (parts x) c.args.counts.now c.add_tests.new.counts _
    (parts-modal c.args.op (program c.args.path.now) f) done.keeps.extends.props done.counts c.in_err-a.ensures.too_many)

pub modal-apply-requires-clause-meant : goal.modal-apply-requires-clause-meant
modal-apply-requires-clause-meant t c =
    let s = c.args.store.now in
    let n = c.part.new.store in
    let none : All (IsTest s) c.new-tests.result.items = subst (λ ts. All (IsTest s) ts) (sym c.new-tests.ensures.items) (All-nil (IsTest s)) in
    subst (λ ts. All (IsTest n) ts) (sym c.as_slice.ensures.value)
    (tests_last c.add_tests.new.store n c.in_ok-a.ensures.keeps c.add_tests.new.tests.items (c.in_ok-add_tests.ensures.meant none))

pub modal-returns-in_err-add-clause-too_many : goal.modal-returns-in_err-add-clause-too_many
modal-returns-in_err-add-clause-too_many t c =
    let p = c.args.store.now.props in
    let fs = test_parts (program c.args.path.now) in
    let f = tree c.args.f.now in
    let x = modal_form c.args.op (program c.args.path.now) f in
    let done = c.in_ok-add_tests.ensures in
    let ka = c.in_ok-a.ensures.keeps in
    let km = c.in_ok-made.ensures.keeps in
    let r = err_from_is_err_and c.from_residual-in_err-add.result c.from_residual-in_err-add.ensures.1 in
    rw (r.1, r.2)
    (stops_last p c.args.limit (fs ++ parts f) (parts x) x c.apply.new.store c.in_ok-made.made c.args.counts.now c.part.new.counts c.size.result _
    (parts-modal c.args.op (program c.args.path.now) f) (km.extends.props ∙ ka.extends.props ∙ done.keeps.extends.props)
    (modal_made c.args.op c.part.new.store c.apply.new.store c.in_ok-a.a c.in_ok-made.made (program c.args.path.now) f c.in_ok-a.ensures.least km c.in_ok-made.ensures.least)
    (adds_within p c.add_tests.new.store.props c.args.limit fs (parts f) c.args.counts.now c.add_tests.new.counts c.part.new.counts done.keeps.extends.props done.counts c.in_ok-a.ensures.counts)
    c.size.ensures.size c.in_err-add.ensures.too_many)

pub modal-returns-clause-least : goal.modal-returns-clause-least
modal-returns-clause-least t c =
    modal_made c.args.op c.part.new.store c.apply.new.store c.in_ok-a.a c.in_ok-made.made (program c.args.path.now) (tree c.args.f.now)
    c.in_ok-a.ensures.least c.in_ok-made.ensures.keeps c.in_ok-made.ensures.least

pub modal-returns-clause-counts : goal.modal-returns-clause-counts
modal-returns-clause-counts t c =
    let p = c.args.store.now.props in
    let fs = test_parts (program c.args.path.now) in
    let f = tree c.args.f.now in
    let x = modal_form c.args.op (program c.args.path.now) f in
    let done = c.in_ok-add_tests.ensures in
    let ka = c.in_ok-a.ensures.keeps in
    let km = c.in_ok-made.ensures.keeps in
    adds_last p c.args.limit (fs ++ parts f) (parts x) x c.apply.new.store c.in_ok-made.made c.args.counts.now c.part.new.counts c.add.new.self c.size.result
    (parts-modal c.args.op (program c.args.path.now) f) (km.extends.props ∙ ka.extends.props ∙ done.keeps.extends.props)
    (modal_made c.args.op c.part.new.store c.apply.new.store c.in_ok-a.a c.in_ok-made.made (program c.args.path.now) f c.in_ok-a.ensures.least km c.in_ok-made.ensures.least)
    (adds_within p c.add_tests.new.store.props c.args.limit fs (parts f) c.args.counts.now c.add_tests.new.counts c.part.new.counts done.keeps.extends.props done.counts c.in_ok-a.ensures.counts)
    c.in_ok-add.ensures.appended c.size.ensures.size c.in_ok-add.ensures.within

pub unary-returns-in_err-a-clause-too_many : goal.unary-returns-in_err-a-clause-too_many
unary-returns-in_err-a-clause-too_many t c =
    let p = c.args.store.now.props in
    let f = tree c.args.f.now in
    let x = unary_form c.args.op f in
    let r = err_from_is_err_and c.from_residual.result c.from_residual.ensures.1 in
    rw (r.1, r.2)
    (stops_first p c.args.limit (parts f) (x ∷ []) (parts x) c.args.counts.now _ (parts-unary c.args.op f) c.in_err-a.ensures.too_many)

pub unary-returns-in_err-add-clause-too_many : goal.unary-returns-in_err-add-clause-too_many
unary-returns-in_err-add-clause-too_many t c =
    let p = c.args.store.now.props in
    let f = tree c.args.f.now in
    let x = unary_form c.args.op f in
    let ka = c.in_ok-a.ensures.keeps in
    let km = c.in_ok-made.ensures.keeps in
    let r = err_from_is_err_and c.from_residual-in_err-add.result c.from_residual-in_err-add.ensures.1 in
    rw (r.1, r.2)
    (stops_last p c.args.limit (parts f) (parts x) x c.apply.new.store c.in_ok-made.made c.args.counts.now c.part.new.counts c.size.result _
    (parts-unary c.args.op f) (km.extends.props ∙ ka.extends.props)
    (unary_made c.args.op c.part.new.store c.apply.new.store c.in_ok-a.a c.in_ok-made.made f c.in_ok-a.ensures.least km c.in_ok-made.ensures.least)
    c.in_ok-a.ensures.counts c.size.ensures.size c.in_err-add.ensures.too_many)

pub unary-returns-clause-counts : goal.unary-returns-clause-counts
unary-returns-clause-counts t c =
    let p = c.args.store.now.props in
    let f = tree c.args.f.now in
    let x = unary_form c.args.op f in
    let ka = c.in_ok-a.ensures.keeps in
    let km = c.in_ok-made.ensures.keeps in
    adds_last p c.args.limit (parts f) (parts x) x c.apply.new.store c.in_ok-made.made c.args.counts.now c.part.new.counts c.add.new.self c.size.result
    (parts-unary c.args.op f) (km.extends.props ∙ ka.extends.props)
    (unary_made c.args.op c.part.new.store c.apply.new.store c.in_ok-a.a c.in_ok-made.made f c.in_ok-a.ensures.least km c.in_ok-made.ensures.least)
    c.in_ok-a.ensures.counts c.in_ok-add.ensures.appended c.size.ensures.size c.in_ok-add.ensures.within
