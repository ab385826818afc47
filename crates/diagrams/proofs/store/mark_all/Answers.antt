use Rattle.std.proofs.Common.{◌∙◌, ◌<◌, arith, refl, inl, inr, length}
use Rattle.unique_table.proofs.LinkLemmas.{same_or_not}
use Rattle.diagrams.proofs.store.mark_all.Goals as goal

pub loop-root-init : goal.loop-root-init
loop-root-init c = record {
  same_keys = refl;
  closed = λ i j h s l. absurd (s (c.requires.unseen i h));
  all = λ k h. absurd (omega arith);
  reached = λ i h s. absurd (s (c.requires.unseen i h));
}

pub mark-requires-clause-within : goal.mark-requires-clause-within
mark-requires-clause-within c = rw c.loop-root.invariant.same_keys c.requires.within

pub mark-requires-clause-closed : goal.mark-requires-clause-closed
mark-requires-clause-closed c = c.loop-root.invariant.closed

pub loop-root-preserved : goal.loop-root-preserved
loop-root-preserved c = record {
  same_keys = c.mark.ensures.keys ∙ c.loop-root.invariant.same_keys;
  closed = c.mark.ensures.closed;
  all = λ k h. elim (same_or_not k c.loop-root.root-index) [
    | inl q ↦ rw q c.mark.ensures.root
    | inr ne ↦ c.mark.ensures.stays _ (omega (arith, c.requires.roots k (omega (arith, h, c.loop-root-test.true)), c.loop-root.auto.slots)) (c.loop-root.invariant.all k (omega (arith, h, ne)))
  ];
  reached = λ i h s. let long : i < length c.loop-root.slots = omega (arith, h, c.mark.auto.slots) in
      elim (c.mark.ensures.reached i long s) [
        | inl before ↦ let r = c.loop-root.invariant.reached i long before in (r.0, omega (arith, r.1), r.2)
        | inr r ↦ (c.loop-root.root-index, omega arith, (r.0, rw (← c.loop-root.invariant.same_keys) r.1))
      ];
}

pub returns-clause-keys : goal.returns-clause-keys
returns-clause-keys c = c.loop-root.invariant.same_keys

pub returns-clause-marks : goal.returns-clause-marks
returns-clause-marks c = record {
  closed = c.loop-root.invariant.closed;
  all = λ k h. c.loop-root.invariant.all k (omega (arith, h, c.loop-root-test.false));
  reached = λ i h s. let r = c.loop-root.invariant.reached i h s in (r.0, omega (arith, r.1, c.loop-root.auto.root-index-end), (r.2.0, rw c.loop-root.invariant.same_keys r.2.1));
}
