use Rattle.std.proofs.Common.{◌<◌, ◌∙◌, ap, arith, length, Some}
use Rattle.std.proofs.lemmas.List.{length-set}
use Rattle.std.proofs.lemmas.Option.{slice_get-get_or}
use Rattle.diagrams.proofs.Kept.{entry_put}
use Rattle.diagrams.proofs.memo.spread_out.Goals as goal
use Rattle.diagrams.proofs.memo.spread_out.Goals.{in-Some, in_default}

pub loop-at-init : goal.loop-at-init
loop-at-init g c = record { size = c.in_ok-made.ensures.size; same = λ e h. absurd (c.in_ok-made.ensures.none e h) }

pub loop-at-preserved : goal.loop-at-preserved
loop-at-preserved g c = elim c.match-entries-at.branch [
  | in-Some w ↦
      let within : c.loop-at.at < length c.args.entries.now = omega (arith, c.loop-at-test.true) in
      let read = slice_get-get_or c.args.entries.now c.loop-at.at _ within ∙ ap (λ o. Some o) w.in-Some.is in
      rw w.made-is (record {
        size = length-set c.loop-at.made.items w.place_of-place.result (Some w.in-Some.entry) ∙ c.loop-at.invariant.size;
        same = entry_put c.loop-at.made.items c.args.entries.now w.place_of-place.result w.in-Some.entry c.loop-at.invariant.same (c.loop-at.at, read);
      })
  | in_default w ↦ rw w.made-is (record { size = c.loop-at.invariant.size; same = c.loop-at.invariant.same })
]
