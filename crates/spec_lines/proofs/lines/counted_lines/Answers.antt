-- The lines that are found, and those that are left, are all.
use Rattle.std.proofs.Common.{◌+◌, length, arith, sym, ap, ◌∙◌, append-nil, map, refl}
use Rattle.spec_lines.specs.Lines.{shown, counted_from}
use Rattle.spec_lines.proofs.LineLemmas.{lines-bstr}
use Rattle.spec_lines.proofs.CountLemmas.{counted-kept, counted-passed}
use Rattle.spec_lines.proofs.lines.counted_lines.Goals as goal

pub returns : goal.returns
returns c =
    let e = c.in-None.ensures.steps.0 in
    let h = rw e at c.loop-line.invariant.lines in
    sym (append-nil (map shown c.loop-line.found.items)) ∙ h ∙ ap (counted_from 1) (lines-bstr c.args.text.now)

pub overflow_add-number : goal.overflow_add-number
overflow_add-number c = omega (arith, ap length c.in-Some.ensures.steps, c.loop-line.invariant.count)

pub loop-line-init : goal.loop-line-init
loop-line-init c =
    let all = c.lines-line-items.ensures.value in
    let none = c.new-found.ensures.items in
    let made = c.into_iter-line-iterator.ensures.into_iter_gives ∙ all in
    record {
      next = tt;
      finite = tt;
      count = omega (arith, c.lines-line-items.ensures.len, ap length c.into_iter-line-iterator.ensures.into_iter_gives);
      lines = rw (none, made) refl;
    }

pub loop-line-preserved-in-Continue-1 : goal.loop-line-preserved-in-Continue-1
loop-line-preserved-in-Continue-1 c =
    let e = c.in-Some.ensures.steps in
    let before = rw e at c.loop-line.invariant.lines in
    record {
      next = tt;
      finite = tt;
      count = omega (arith, ap length e, c.loop-line.invariant.count);
      lines = rw c.in_ok-push.ensures.items (counted-kept c.loop-line.found.items c.in-Some-cut.line (c.loop-line.number + 1) c.in-Some.line.now c.next.new.self _ c.in-Some-cut.ensures.0 c.in-Some-cut.ensures.1 before);
    }

pub loop-line-preserved : goal.loop-line-preserved
loop-line-preserved c =
    let e = c.in-Some.ensures.steps in
    let before = rw e at c.loop-line.invariant.lines in
    record {
      next = tt;
      finite = tt;
      count = omega (arith, ap length e, c.loop-line.invariant.count);
      lines = counted-passed (map shown c.loop-line.found.items) (c.loop-line.number + 1) c.in-Some.line.now c.next.new.self _ c.in_default.ensures before;
    }
