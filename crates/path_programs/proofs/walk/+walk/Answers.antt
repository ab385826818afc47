use Rattle.std.proofs.Common.{◌≡◌, ℕ, ◌<◌, ◌-◌, ◌*◌, List, length, refl, sym, subst, arith}
use Rattle.std.proofs.lemmas.Result.{IfOk-weaker}
use Rattle.forms.specs.Tree.{Formula, Program, tree, program, program_nodes, Step, Test, Choice, Seq}
use Rattle.forms.specs.Proper.{IsProper}
use Rattle.diagrams.specs.declared.top.Id.{Id}
use Rattle.diagrams.proofs.Meaning.{Keeps_trans, truth_lasts}
use Rattle.std.specs.Prelude.{slice_index_or}
use Rattle.automata.specs.declared.meant.Meant.{Meant}
use Rattle.automata.specs.Table.{size_of, IsMeant}
use Rattle.obligations.specs.declared.cells.Obligation.{Obligation}
use Rattle.obligations.specs.Value.{IsClaim}
use Rattle.obligations.proofs.Holds.{claim_lasts, body_lasts}
use Rattle.path_programs.specs.PathTests.{test_count}
use Rattle.path_programs.specs.Lead.{AreBodies, IsLead, IsEither, IsInTurn}
use Rattle.path_programs.proofs.Making.{body_truth, claim_more}
use Rattle.path_programs.proofs.Growing.{grown_keeps, grown_same, grown_store, grown_trans, grown_set}
use Rattle.path_programs.proofs.TestLists.{has_tests_last}
use Rattle.path_programs.proofs.Arms.{bodies_last, bodies_either, bodies_in_turn, star_bodies, lead_choice, lead_seq, lead_star}
use Rattle.path_programs.proofs.walk.+walk.Goals as goal

pub choice-walk-requires-2 : goal.choice-walk-requires-2
choice-walk-requires-2 t c =
    let g = c.walk.ensures.grown in
    let k = g.keeps in
    let h : program_nodes (program c.args.p.now) * 2 < t = omega (arith, c.decreases) in (
      h,
      (
        rw k.extends.props c.requires.proper.0,
        (
          g.fits,
          (
            claim_more _ _ _ c.args.later g.grows.longer (claim_lasts _ _ k _ c.args.later c.requires.later),
            rw c.in_ok-y.ensures.untaken (has_tests_last c.args.store.now c.walk.new.store k c.args.tests.now (c.args.untaken.now - test_count (program c.args.q.now)) (program c.args.p.now) c.requires.tests.1),
          ),
        ),
      ),
    )

pub choice-either_of-requires-clause-y_further : goal.choice-either_of-requires-clause-y_further
choice-either_of-requires-clause-y_further t c = truth_lasts _ _ c.walk-2.ensures.grown.keeps _ (body_truth _ _ _ c.in_ok-y.ensures.bodies.further)

pub choice-either_of-requires-clause-y_stays : goal.choice-either_of-requires-clause-y_stays
choice-either_of-requires-clause-y_stays t c = truth_lasts _ _ c.walk-2.ensures.grown.keeps _ (body_truth _ _ _ c.in_ok-y.ensures.bodies.stays)

pub choice-returns-clause-grown : goal.choice-returns-clause-grown
choice-returns-clause-grown t c = grown_store _ _ _ _ _ (grown_trans _ _ _ _ _ _ c.walk.ensures.grown c.walk-2.ensures.grown) c.either_of.ensures.keeps

pub choice-returns-clause-bodies : goal.choice-returns-clause-bodies
choice-returns-clause-bodies t c =
    IfOk-weaker c.either_of.result (IsEither c.walk-2.new.store c.either_of.new.store c.in_ok-x.x c.in_ok-y.y) (AreBodies c.either_of.new.store (length c.walk-2.new.cells))
    (λ l m. bodies_either c.walk-2.new.store c.either_of.new.store c.either_of.ensures.keeps (length c.walk-2.new.cells) c.in_ok-x.x c.in_ok-y.y l c.in_ok-x.ensures.bodies
    (bodies_last _ _ c.walk-2.ensures.grown.keeps _ _ c.in_ok-y.y c.walk-2.ensures.grown.grows.longer c.in_ok-y.ensures.bodies) m)
    c.either_of.ensures.lead

pub choice-returns-clause-lead : goal.choice-returns-clause-lead
choice-returns-clause-lead t c =
    IfOk-weaker c.either_of.result (IsEither c.walk-2.new.store c.either_of.new.store c.in_ok-x.x c.in_ok-y.y)
    (IsLead c.either_of.new.store (length c.args.cells.now) c.walk-2.new.cells (Choice (program c.args.p.now) (program c.args.q.now)) c.args.later)
    (λ l m. lead_choice c.walk.new.store c.walk-2.new.store c.either_of.new.store c.args.cells.now c.walk.new.cells c.walk-2.new.cells c.walk-2.ensures.grown c.either_of.ensures.keeps
    c.walk.ensures.grown.grows.longer (program c.args.p.now) (program c.args.q.now) c.args.later c.in_ok-x.x c.in_ok-y.y l c.in_ok-y.ensures.lead c.in_ok-x.ensures.lead c.in_ok-y.ensures.bodies c.in_ok-x.ensures.bodies m)
    c.either_of.ensures.lead

pub sequence-rest-requires-clause-later : goal.sequence-rest-requires-clause-later
sequence-rest-requires-clause-later t c =
    let g = c.walk.ensures.grown in
    claim_more _ _ _ c.args.later g.grows.longer (claim_lasts _ _ g.keeps _ c.args.later c.requires.later)

pub sequence-walk-requires-2 : goal.sequence-walk-requires-2
sequence-walk-requires-2 t c =
    let k = Keeps_trans c.args.store.now c.walk.new.store c.rest.new.store c.walk.ensures.grown.keeps c.rest.ensures.grown.keeps in
    let h : program_nodes (program c.args.p.now) * 2 < t = omega (arith, c.decreases) in (
      h,
      (
        rw k.extends.props c.requires.proper.0,
        (
          c.rest.ensures.grown.fits,
          (
            c.in_ok-next.ensures.claim,
            rw c.in_ok-y.ensures.untaken (has_tests_last c.args.store.now c.rest.new.store k c.args.tests.now (c.args.untaken.now - test_count (program c.args.q.now)) (program c.args.p.now) c.requires.tests.1),
          ),
        ),
      ),
    )

pub sequence-in_turn-requires-clause-y_further : goal.sequence-in_turn-requires-clause-y_further
sequence-in_turn-requires-clause-y_further t c = truth_lasts _ _ (Keeps_trans _ _ _ c.rest.ensures.grown.keeps c.walk-2.ensures.grown.keeps) _ (body_truth _ _ _ c.in_ok-y.ensures.bodies.further)

pub sequence-in_turn-requires-clause-y_stays : goal.sequence-in_turn-requires-clause-y_stays
sequence-in_turn-requires-clause-y_stays t c = truth_lasts _ _ (Keeps_trans _ _ _ c.rest.ensures.grown.keeps c.walk-2.ensures.grown.keeps) _ (body_truth _ _ _ c.in_ok-y.ensures.bodies.stays)

pub sequence-returns-clause-grown : goal.sequence-returns-clause-grown
sequence-returns-clause-grown t c =
    grown_store _ _ _ _ _ (grown_trans _ _ _ _ _ _ c.walk.ensures.grown (grown_trans _ _ _ _ _ _ c.rest.ensures.grown c.walk-2.ensures.grown)) c.in_turn.ensures.keeps

pub sequence-returns-clause-bodies : goal.sequence-returns-clause-bodies
sequence-returns-clause-bodies t c =
    let g = grown_trans _ _ _ _ _ _ c.rest.ensures.grown c.walk-2.ensures.grown in
    IfOk-weaker c.in_turn.result (IsInTurn c.walk-2.new.store c.in_turn.new.store c.in_ok-x.x c.in_ok-y.y) (AreBodies c.in_turn.new.store (length c.walk-2.new.cells))
    (λ l m. bodies_in_turn c.walk-2.new.store c.in_turn.new.store c.in_turn.ensures.keeps (length c.walk-2.new.cells) c.in_ok-x.x c.in_ok-y.y l c.in_ok-x.ensures.bodies
    (bodies_last _ _ g.keeps _ _ c.in_ok-y.y g.grows.longer c.in_ok-y.ensures.bodies) m)
    c.in_turn.ensures.lead

pub sequence-returns-clause-lead : goal.sequence-returns-clause-lead
sequence-returns-clause-lead t c =
    IfOk-weaker c.in_turn.result (IsInTurn c.walk-2.new.store c.in_turn.new.store c.in_ok-x.x c.in_ok-y.y)
    (IsLead c.in_turn.new.store (length c.args.cells.now) c.walk-2.new.cells (Seq (program c.args.p.now) (program c.args.q.now)) c.args.later)
    (λ l m. lead_seq c.walk.new.store c.rest.new.store c.walk-2.new.store c.in_turn.new.store c.args.cells.now c.walk.new.cells c.rest.new.cells c.walk-2.new.cells
    c.rest.ensures.grown c.walk-2.ensures.grown c.in_turn.ensures.keeps c.walk.ensures.grown.grows.longer (program c.args.p.now) (program c.args.q.now) c.args.later c.in_ok-next.next c.in_ok-x.x c.in_ok-y.y l
    c.in_ok-y.ensures.lead c.in_ok-next.ensures.rest c.in_ok-x.ensures.lead c.in_ok-y.ensures.bodies c.in_ok-x.ensures.bodies m)
    c.in_turn.ensures.lead

pub star-walk-requires : goal.star-walk-requires
star-walk-requires t c =
    let k = c.again.ensures.grown.keeps in
    let h : program_nodes (program c.args.p.now) * 2 < t = omega (arith, c.decreases) in (
      h,
      (
        rw k.extends.props c.requires.proper,
        (
          c.again.ensures.grown.fits,
          (
            c.in_ok-next.ensures.claim,
            has_tests_last c.args.store.now c.again.new.store k c.args.tests.now c.args.untaken.now (program c.args.p.now) c.requires.tests,
          ),
        ),
      ),
    )

pub star-returns-in_err-stays-clause-grown : goal.star-returns-in_err-stays-clause-grown
star-returns-in_err-stays-clause-grown t c = grown_store _ _ _ _ _ (grown_trans _ _ _ _ _ _ c.again.ensures.grown c.walk.ensures.grown) c.always.ensures.keeps

pub star-returns-clause-grown : goal.star-returns-clause-grown
star-returns-clause-grown t c =
    let one = c.in_ok-next.ensures.one in
    let longer = c.walk.ensures.grown.grows.longer in
    grown_same _ _ _ _ _ c.set.ensures (grown_set _ _ _ _ _ _ (grown_store _ _ _ _ _ (grown_trans _ _ _ _ _ _ c.again.ensures.grown c.walk.ensures.grown) c.always.ensures.keeps)
    c.len-turn.ensures.number (omega (arith, one, longer, c.len-turn.ensures.number)) (body_lasts _ _ c.always.ensures.keeps _ _ c.in_ok-x.ensures.bodies.further))

pub star-returns-clause-bodies : goal.star-returns-clause-bodies
star-returns-clause-bodies t c =
    star_bodies _ _ c.always.ensures.keeps c.walk.new.cells c.set.new.self c.len-turn.result c.in_ok-x.x.further c.set.ensures _ refl c.in_ok-x.ensures.bodies.further c.in_ok-stays.ensures.id

pub star-returns-clause-lead : goal.star-returns-clause-lead
star-returns-clause-lead t c =
    lead_star c.args.store.now c.again.new.store c.walk.new.store c.always.new.store c.again.ensures.grown.keeps c.args.cells.now c.again.new.cells c.walk.new.cells c.walk.ensures.grown c.always.ensures.keeps
    c.len-turn.result c.len-turn.ensures.number c.in_ok-next.ensures.one c.in_ok-next.ensures.end (program c.args.p.now) c.args.later c.in_ok-next.next c.in_ok-x.x _ c.requires.later.live
    c.in_ok-next.ensures.again c.in_ok-x.ensures.lead refl c.in_ok-stays.ensures.id refl c.set.new.self c.set.ensures

pub walk-returns-in-Step-clause-grown : goal.walk-returns-in-Step-clause-grown
walk-returns-in-Step-clause-grown t c = grown_keeps _ _ _ c.step.ensures.keeps c.requires.fits

pub walk-returns-in-Step-clause-bodies : goal.walk-returns-in-Step-clause-bodies
walk-returns-in-Step-clause-bodies t c =
    IfOk-weaker c.step.result (λ l. (count : ℕ) → IsClaim c.args.store.now count c.args.later → AreBodies c.step.new.store count l) (AreBodies c.step.new.store (length c.args.cells.now))
    (λ l h. h (length c.args.cells.now) c.requires.later) c.step.ensures.bodies

pub walk-returns-in-Step-clause-lead : goal.walk-returns-in-Step-clause-lead
walk-returns-in-Step-clause-lead t c =
    let e : program c.args.path.now ≡ Step (tree c.deref.result.now) = rw (c.in-Step.is, c.deref.ensures) refl in
    IfOk-weaker c.step.result
    (λ l. (from : ℕ) (d : List Obligation) → IsClaim c.args.store.now (length d) c.args.later → IsLead c.step.new.store from d (Step (tree c.deref.result.now)) c.args.later l)
    (IsLead c.step.new.store (length c.args.cells.now) c.args.cells.now (program c.args.path.now) c.args.later)
    (λ l h.
    let P : Program → Type 0 = λ x. IsLead c.step.new.store (length c.args.cells.now) c.args.cells.now x c.args.later l in
    subst P (sym e) (h (length c.args.cells.now) c.args.cells.now c.requires.later))
    c.step.ensures.lead

pub walk-returns-in-Test-clause-lead : goal.walk-returns-in-Test-clause-lead
walk-returns-in-Test-clause-lead t c =
    let f : Formula = tree c.in-Test.field-0.value in
    let e : program c.args.path.now ≡ Test f = rw c.in-Test.is refl in
    let m : Meant = slice_index_or c.args.tests.now (c.args.untaken.now - 1) c.index-tests-untaken.result in
    let own = rw e at c.requires.tests in
    IfOk-weaker c.test.result
    (λ l. (f : Formula) (later : Id) → IsProper c.args.store.now.props f → (m.automaton.first < size_of m.automaton → IsMeant c.args.store.now m.automaton f) → IsLead c.test.new.store (length c.args.cells.now) c.test.new.cells (Test f) later l)
    (IsLead c.test.new.store (length c.args.cells.now) c.test.new.cells (program c.args.path.now) c.args.later)
    (λ l h.
    let P : Program → Type 0 = λ x. IsLead c.test.new.store (length c.args.cells.now) c.test.new.cells x c.args.later l in
    subst P (sym e) (h f c.args.later (rw e at c.requires.proper) (own.1.meant c.index-tests-untaken.result)))
    c.test.ensures.lead
