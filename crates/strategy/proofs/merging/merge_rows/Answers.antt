use Rattle.std.proofs.Common.{◌≡◌, ◌<◌, ◌-◌, ◌^◌, None, length, ◌∙◌, subst, arith}
use Rattle.choosing.specs.ArenaRows.{outputs_of}
use Rattle.choosing.specs.Choices.{AreChoices}
use Rattle.strategy.specs.declared.strategy.Strategy.{Strategy as Kept}
use Rattle.strategy.specs.Numbers.{number_in, has_losses, AreTablesOf}
use Rattle.strategy.proofs.NumberLemmas.{same-within}
use Rattle.strategy.proofs.MergedLemmas.{fits, computed}
use Rattle.strategy.proofs.merging.merge_rows.Goals as goal

pub returns-clause-fits : goal.returns-clause-fits
returns-clause-fits c =
    let s = c.args.store.now in
    let n = c.choose_all.new.store in
    let tables = c.in_ok-tables.tables in
    let moves = c.in_ok-made.made.moves.items in
    let keys = c.in_ok-made.made.choices.keys in
    let duty = c.is_some-duty.result in
    let size : c.len-size.result ≡ length c.args.rows.items = c.len-size.ensures ∙ c.args.rows.ok.0 in
    let some : 0 < length c.args.numbers.now.ranks.items = omega (arith, c.requires.some, c.requires.numbers.ranks) in
    let verdict : c.index.result.now ≡ number_in c.args.numbers.now.ranks.items 0 = c.index.ensures ∙ same-within c.args.numbers.now.ranks.items 0 c.index.result.now None some in
    let tabled : AreTablesOf c.args.numbers.now (length c.args.rows.items) tables = subst (λ z. AreTablesOf c.args.numbers.now z tables) size c.in_ok-tables.ensures in
    let by_outputs = subst (λ z. AreChoices s n z c.len-size.result duty tables c.deref.result.now moves keys) c.outputs_of.ensures c.in_ok-made.ensures.choices in
    let by_size = subst (λ z. AreChoices s n (outputs_of c.args.partition) z duty tables c.deref.result.now moves keys) size by_outputs in
    let by_duty = subst (λ z. AreChoices s n (outputs_of c.args.partition) (length c.args.rows.items) z tables c.deref.result.now moves keys) c.is_some-duty.ensures by_size in
    let chosen = subst (λ z. AreChoices s n (outputs_of c.args.partition) (length c.args.rows.items) (has_losses c.args.numbers.now) tables z moves keys) c.deref.ensures.value by_duty in
    fits s n c.in_ok-made.ensures.keeps _ c.args.goals.now c.args.numbers.now tables c.requires.props c.requires.rows c.requires.goals c.requires.numbers c.requires.answers c.in_ok-marks.ensures tabled
    c.is_some-duty.ensures verdict chosen

pub returns-clause-merged : goal.returns-clause-merged
returns-clause-merged c m are playable right answered =
    let s = c.args.store.now in
    let n = c.choose_all.new.store in
    let tables = c.in_ok-tables.tables in
    let moves = c.in_ok-made.made.moves.items in
    let keys = c.in_ok-made.made.choices.keys in
    let duty = c.is_some-duty.result in
    let size : c.len-size.result ≡ length c.args.rows.items = c.len-size.ensures ∙ c.args.rows.ok.0 in
    let some : 0 < length c.args.numbers.now.ranks.items = omega (arith, c.requires.some, c.requires.numbers.ranks) in
    let verdict : c.index.result.now ≡ number_in c.args.numbers.now.ranks.items 0 = c.index.ensures ∙ same-within c.args.numbers.now.ranks.items 0 c.index.result.now None some in
    let tabled : AreTablesOf c.args.numbers.now (length c.args.rows.items) tables = subst (λ z. AreTablesOf c.args.numbers.now z tables) size c.in_ok-tables.ensures in
    let by_outputs = subst (λ z. AreChoices s n z c.len-size.result duty tables c.deref.result.now moves keys) c.outputs_of.ensures c.in_ok-made.ensures.choices in
    let by_size = subst (λ z. AreChoices s n (outputs_of c.args.partition) z duty tables c.deref.result.now moves keys) size by_outputs in
    let by_duty = subst (λ z. AreChoices s n (outputs_of c.args.partition) (length c.args.rows.items) z tables c.deref.result.now moves keys) c.is_some-duty.ensures by_size in
    let chosen = subst (λ z. AreChoices s n (outputs_of c.args.partition) (length c.args.rows.items) (has_losses c.args.numbers.now) tables z moves keys) c.deref.ensures.value by_duty in
    let few : length c.in_ok-marks.marks.items < 2 ^ 32 - 1 = let e = c.in_ok-marks.ensures.size in omega (arith, e, c.requires.goals, c.requires.few) in
    let made : Kept = record {
      partition = c.args.partition;
      duty = c.is_some-duty.result;
      verdict = c.index.result.now;
      marks = c.in_ok-marks.marks;
      rows = c.args.rows;
      moves = c.in_ok-made.made.moves;
      choices = c.in_ok-made.made.choices;
      answers = c.args.answers;
      few = few;
    } in
    computed s n c.in_ok-made.ensures.keeps made c.args.goals.now c.args.numbers.now tables c.requires.props c.requires.rows c.requires.goals c.requires.numbers c.requires.answers c.in_ok-marks.ensures tabled
    c.is_some-duty.ensures verdict chosen m are playable right answered
