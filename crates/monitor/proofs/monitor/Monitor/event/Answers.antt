use Rattle.std.proofs.Common.{◌≡◌, ◌==◌, Bool, true, false, refl, sym, ◌∙◌, ap}
use Rattle.std.proofs.lemmas.Bool.{false≢true}
use Rattle.forms.specs.Verdict.{Verdict, PermTrue, PermFalse, TempTrue, TempFalse}
use Rattle.diagrams.specs.Eval.{eval}
use Rattle.monitor.specs.Configuration.{Configuration, IsReady}
use Rattle.monitor.proofs.EventLemmas.{IsSettled, HasVerdict, at_location, ready_at, moved_to, verdict_to, perm_true, perm_false, temp_true, temp_false}
use Rattle.monitor.proofs.monitor.Monitor.event.Goals as goal
use Rattle.monitor.proofs.monitor.Monitor.event.Goals.{in-true-true, in-true-false, in-false-true, in-false-false}

pub returns-clause-moved : goal.returns-clause-moved
returns-clause-moved c =
    let v : Configuration = record { automaton = c.self.inside.whole; location = c.self.inside.at } in
    moved_to c.args.store.now v c.args.self.now c.args.letter c.step-at.result c.self.view_is c.step-at.ensures.next

pub returns-clause-verdict : goal.returns-clause-verdict
returns-clause-verdict c =
    let s = c.args.store.now in
    let at = c.step-at.result in
    let v : Configuration = record { automaton = c.self.inside.whole; location = c.self.inside.at } in
    let m = at_location v at in
    let ready : IsReady s m = ready_at s v c.args.self.now at c.self.view_is c.requires.ready c.step-at.ensures.within in
    let met = λ (b : Bool) (e : (c.mark-met.result == 1) ≡ b). ap (λ x. x == 1) (sym c.mark-met.ensures) ∙ e in
    let give = λ (verdict : Verdict) (k : HasVerdict s m verdict). verdict_to s v c.args.self.now c.args.letter at verdict c.self.view_is c.step-at.ensures.next c.requires.letter k in
    elim c.if-permanent.branch [
      | in-true-true w ↦
          let settled : IsSettled s m = λ a. ap (λ r. eval s r a) (sym c.row.ensures) ∙ w.in-true-true.ensures.0 refl a in
          rw w.result-is (give PermTrue (perm_true s m settled (met true w.in-true-true.is-1)))
      | in-true-false w ↦
          let settled : IsSettled s m = λ a. ap (λ r. eval s r a) (sym c.row.ensures) ∙ w.in-true-false.ensures.0 refl a in
          rw w.result-is (give PermFalse (perm_false s m settled (met false w.in-true-false.is-1)))
      | in-false-true w ↦
          let varies : IsSettled s m → ⊥ = λ same. false≢true (w.in-false-true.ensures.1 (λ a. ap (λ r. eval s r a) c.row.ensures ∙ same a)) in
          rw w.result-is (give TempTrue (temp_true s m ready varies (met true w.in-false-true.is-1)))
      | in-false-false w ↦
          let varies : IsSettled s m → ⊥ = λ same. false≢true (w.in-false-false.ensures.1 (λ a. ap (λ r. eval s r a) c.row.ensures ∙ same a)) in
          rw w.result-is (give TempFalse (temp_false s m ready varies (met false w.in-false-false.is-1)))
    ]
