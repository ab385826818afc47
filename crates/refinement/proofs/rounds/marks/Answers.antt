use Rattle.std.proofs.Common.{◌≡◌, ◌<◌, arith, ◌∙◌}
use Rattle.diagrams.proofs.Meaning.{Keeps_refl, Keeps_trans}
use Rattle.automata.specs.Table.{size_of}
use Rattle.refinement.proofs.Starting.{marks_none, marks_more}
use Rattle.refinement.proofs.rounds.marks.Goals as goal

pub loop-at-init : goal.loop-at-init
loop-at-init c = record {
  keeps = Keeps_refl c.args.store.now c.props.ensures.canonical;
  marks = marks_none c.args.store.now c.args.automaton.now c.new-found.result.items c.new-found.ensures.items;
}

pub loop-at-preserved : goal.loop-at-preserved
loop-at-preserved c = record {
  keeps = Keeps_trans c.args.store.now c.loop-at.store c.terminal.new.self c.loop-at.invariant.keeps c.in_ok-terminal.ensures.keeps;
  marks = rw (c.in_ok-push.ensures.items)
      (marks_more c.loop-at.store c.terminal.new.self c.args.automaton.now c.loop-at.found.items c.loop-at.at c.mark.result c.in_ok-terminal.field-0
      c.in_ok-terminal.ensures.keeps c.loop-at.invariant.marks c.mark.ensures c.in_ok-terminal.ensures.id);
}

pub returns : goal.returns
returns c =
    let end : c.loop-at.at ≡ size_of c.args.automaton.now =
    (let a = c.loop-at-test.false in let b = c.loop-at.auto.at-end in let e = c.size-at-end.ensures.size in omega (arith, a, b, e)) in
    record {
      keeps = c.loop-at.invariant.keeps;
      long = c.loop-at.invariant.marks.long ∙ end;
      marks = λ at h. c.loop-at.invariant.marks.mark at (omega (arith, h, end));
    }
