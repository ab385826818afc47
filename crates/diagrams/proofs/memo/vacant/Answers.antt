use Rattle.std.proofs.Common.{◌≡◌, ◌++◌, ap, arith, length, None, [], ◌∷◌}
use Rattle.std.proofs.lemmas.List.{length-append}
use Rattle.diagrams.proofs.Kept.{none_more}
use Rattle.diagrams.proofs.memo.vacant.Goals as goal

pub loop-at-preserved : goal.loop-at-preserved
loop-at-preserved g c =
    let pushed : c.push.new.self.items ≡ c.loop-at.made.items ++ None ∷ [] = c.in_ok-push.ensures.items in
    record {
      size = omega (arith, ap length pushed, length-append c.loop-at.made.items (None ∷ []), c.loop-at.invariant.size);
      none = rw pushed (none_more c.loop-at.made.items c.loop-at.invariant.none);
    }
