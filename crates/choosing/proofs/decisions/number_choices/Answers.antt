use Rattle.std.proofs.Common.{◌≡◌, Some, None, Option, arith, sym, ◌∙◌, ap, get_or}
use Rattle.std.specs.Prelude.{slice_get}
use Rattle.std.proofs.lemmas.List.{nil_from_length}
use Rattle.std.proofs.lemmas.Option.{slice_get-get_or}
use Rattle.choosing.specs.declared.choice.Chosen.{Chosen}
use Rattle.choosing.proofs.ChoiceLemmas.{choice_true, inserted, numbered_none, numbered_more}
use Rattle.choosing.proofs.decisions.number_choices.Goals as goal

pub loop-choice-init : goal.loop-choice-init
loop-choice-init c = record {
  numbered = rw (c.new-numbers.ensures.items) (numbered_none c.args.choices.now c.new-distinct.result.keys (nil_from_length c.new-distinct.result.keys c.new-distinct.ensures.len));
  few = let e = c.new-distinct.ensures.len in omega (arith, e);
}

pub overflow_cast-number : goal.overflow_cast-number
overflow_cast-number c =
    let choice : Option Chosen = get_or c.args.choices.now c.loop-choice.choice-index None in
    let ins = inserted c.loop-choice.distinct.keys c.insert_full.new.self.keys choice c.loop-choice.invariant.numbered.once c.in_ok-number.ensures.keys in
    omega (arith, ins.more, c.in_ok-number.ensures.within, c.loop-choice.invariant.few, c.loop-choice-test.true, c.requires)

pub loop-choice-preserved : goal.loop-choice-preserved
loop-choice-preserved c =
    let choices = c.args.choices.now in
    let choice : Option Chosen = get_or choices c.loop-choice.choice-index None in
    let ins = inserted c.loop-choice.distinct.keys c.insert_full.new.self.keys choice c.loop-choice.invariant.numbered.once c.in_ok-number.ensures.keys in
    let stored = c.in_ok-number.ensures.stored in
    let here : slice_get c.insert_full.new.self.keys c.in_ok-number.number ≡ Some choice = stored.1 ∙ ap Some (sym (choice_true choice stored.0 stored.2)) in
    record {
      numbered = rw (c.in_ok-push.ensures.items)
          (numbered_more choices c.loop-choice.numbers.items c.loop-choice.distinct.keys c.insert_full.new.self.keys c.loop-choice.choice-index c.in_ok-number.number choice c.loop-choice-test.true
          (slice_get-get_or choices c.loop-choice.choice-index None c.loop-choice-test.true) here ins c.loop-choice.invariant.numbered);
      few = omega (arith, ins.more, c.loop-choice.invariant.few);
    }
