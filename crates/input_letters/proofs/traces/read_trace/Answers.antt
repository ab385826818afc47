use Rattle.std.proofs.Common.{◌≡◌, ◌+◌, ◌≤◌, ◌<◌, ◌++◌, ◌∷◌, [], length, ◌∙◌, ap, refl, subst, sym, arith, Ok, Some, length-append}
use Rattle.bes_io.specs.Asking.{unasked}
use Rattle.bes_io.specs.Reader.{allowed}
use Rattle.bes_io.proofs.AskingLemmas.{asked-then}
use Rattle.input_letters.proofs.TraceLemmas.{SoFar, start, more-letters, all-letters, letters-stopped, same-faults, falls}
use Rattle.input_letters.proofs.traces.read_trace.Goals as goal

pub loop-letter-init : goal.loop-letter-init
loop-letter-init g c =
    let none : length c.new-letters.result ≡ 0 = ap length c.new-letters.ensures in
    let all : allowed c.new-reader.result ≡ 67108864 = ap allowed c.new-reader.ensures in
    record {
      told = λ rest told. start _ rest _ _ _ c.new-reader.ensures c.new-letters.ensures told;
      faults = refl;
      asked = unasked;
      few = omega arith;
    }

pub loop-letter-preserved : goal.loop-letter-preserved
loop-letter-preserved g c =
    let is : c.next_letter.result ≡ Ok (Some c.in-Ok-Some.letter) = c.in-Ok-Some.is ∙ ap Ok c.in-Ok-Some.field-0-is in
    let added : c.push.new.self ≡ c.loop-letter.letters ++ c.in-Ok-Some.letter ∷ [] = c.in-Ok.ensures.ok in
    let one_more : length c.push.new.self ≡ length c.loop-letter.letters + 1 = ap length added ∙ length-append c.loop-letter.letters (c.in-Ok-Some.letter ∷ []) in
    let less : allowed c.next_letter.new.reader < allowed c.loop-letter.reader = falls _ _ c.in-Ok-Some.letter c.next_letter.result c.next_letter.ensures.progress is in
    let few : length c.loop-letter.letters + allowed c.loop-letter.reader ≤ 67108864 = c.loop-letter.invariant.few in
    record {
      told = λ rest told. subst (λ w. SoFar c.args.names.now.names rest c.next_letter.new.reader (g.S.Source.left c.next_letter.new.input) w) (sym added)
          (more-letters c.args.names.now.names rest c.loop-letter.reader c.next_letter.new.reader _ _ c.loop-letter.letters _ c.in-Ok-Some.letter c.next_letter.result c.next_letter.ensures.tells is (c.loop-letter.invariant.told rest told));
      faults = same-faults _ _ c.in-Ok-Some.letter c.next_letter.result c.next_letter.ensures.cause is ∙ c.loop-letter.invariant.faults;
      asked = asked-then c.loop-letter.invariant.asked c.loop-letter.invariant.faults c.next_letter.ensures.asked;
      few = omega arith;
    }

pub returns-in-Ok-None-clause-trace : goal.returns-in-Ok-None-clause-trace
returns-in-Ok-None-clause-trace g c rest told =
    all-letters _ rest c.loop-letter.reader c.next_letter.new.reader _ _ c.loop-letter.letters _ c.next_letter.result c.next_letter.ensures.tells (c.in-Ok-None.is ∙ ap Ok c.in-Ok-None.field-0-is) (c.loop-letter.invariant.told rest told)

pub returns-in-Err-clause-trace : goal.returns-in-Err-clause-trace
returns-in-Err-clause-trace g c rest told =
    letters-stopped _ rest c.loop-letter.reader c.next_letter.new.reader _ _ c.loop-letter.letters _ c.in-Err.ending c.next_letter.result (ap (λ n. n + 1) c.len.ensures) c.next_letter.ensures.tells c.in-Err.is (c.loop-letter.invariant.told rest told)

pub returns-in-Ok-None-clause-asked : goal.returns-in-Ok-None-clause-asked
returns-in-Ok-None-clause-asked g c = asked-then c.loop-letter.invariant.asked c.loop-letter.invariant.faults c.next_letter.ensures.asked

pub returns-in-Err-clause-asked : goal.returns-in-Err-clause-asked
returns-in-Err-clause-asked g c = asked-then c.loop-letter.invariant.asked c.loop-letter.invariant.faults c.next_letter.ensures.asked

pub returns-in-Err-push-clause-asked : goal.returns-in-Err-push-clause-asked
returns-in-Err-push-clause-asked g c = asked-then c.loop-letter.invariant.asked c.loop-letter.invariant.faults c.next_letter.ensures.asked
