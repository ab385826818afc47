use Rattle.std.proofs.Common.{◌≡◌, ◌++◌, true, [], ◌∷◌, sym, ◌∙◌, ap, arith}
use Rattle.obligations.specs.Related.{related, or_same}
use Rattle.obligations.proofs.Simulating.{below_push, simulate_push, itself_push, before_skipped, or_same_itself}
use Rattle.obligations.proofs.inclusions.simulators.Goals as goal
use Rattle.obligations.proofs.inclusions.simulators.Goals.{then-y-x+in_ok-push, then-y-x-via-then-y-x, then-y-x-via-else-y-x+then-holds, else-y-x+else-holds}
use Rattle.std.proofs.lemmas.Bool.{or_right}

pub loop-y-preserved : goal.loop-y-preserved
loop-y-preserved c =
    let i = c.loop-y.invariant in
    elim c.if-y-x.branch [
      | then-y-x+in_ok-push w ↦
          let e : c.if-y-x.list.items ≡ c.loop-y.list.items ++ c.loop-y.y ∷ [] = ap (λ v. v.items) w.list-is ∙ w.in_ok-push.ensures.items in
          let r : or_same (related c.args.relation.now) c.args.x c.loop-y.y ≡ true =
          elim w.then-y-x.branch [
            | then-y-x-via-then-y-x v ↦ or_same_itself (related c.args.relation.now) c.args.x c.loop-y.y v.if-y-x.true
            | then-y-x-via-else-y-x+then-holds v ↦ or_right _ _ (sym v.holds.ensures ∙ v.if-holds.true)
          ] in
          rw e (record {
            within = below_push c.args.relation.now.size c.loop-y.list.items c.loop-y.y i.within (omega arith);
            each = simulate_push (or_same (related c.args.relation.now)) c.args.x c.loop-y.list.items c.loop-y.y i.each r;
            itself = itself_push c.loop-y.list.items c.args.x c.loop-y.y i.itself;
          })
      | else-y-x+else-holds w ↦
          let e : c.if-y-x.list.items ≡ c.loop-y.list.items = ap (λ v. v.items) w.list-is in
          rw e (record {
            within = i.within;
            each = i.each;
            itself = λ h. i.itself (before_skipped c.args.x c.loop-y.y w.if-y-x.false h);
          })
    ]
