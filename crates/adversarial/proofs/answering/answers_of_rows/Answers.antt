use Rattle.std.proofs.Common.{◌≡◌, ◌<◌, ◌+◌, ◌∙◌, length, [], sym, subst, ap, arith}
use Rattle.diagrams.proofs.Meaning.{Keeps_refl, Keeps_trans}
use Rattle.diagrams.specs.Eval.{id_at}
use Rattle.attractor.specs.Graph.{number_at}
use Rattle.layers.specs.declared.folding.Below.TheVariants.{Item}
use Rattle.diagrams.specs.Transformed.{IsTransformed, IsTableItem, same_id}
use Rattle.diagrams.proofs.Kept.{kept_none}
use Rattle.adversarial.specs.Answered.{IsRightSoFar, IsChosen, AreChosen}
use Rattle.adversarial.proofs.OverArena.{rows_again}
use Rattle.adversarial.proofs.AnswerDiagrams.{chosen_diagrams}
use Rattle.adversarial.proofs.ChosenLemmas.{row_now, chosen_more, chosen_from, chosen_answers}
use Rattle.adversarial.proofs.answering.answers_of_rows.Goals as goal

pub answer_unless-requires-clause-fit : goal.answer_unless-requires-clause-fit
answer_unless-requires-clause-fit c =
    rw c.deref.ensures.value
    (row_now c.args.store.now c.loop-at.store c.args.partition.now c.args.rows.now [] c.args.ranks.now c.in_ok-table.table.items c.requires.arena c.loop-at.invariant.0 c.in_ok-table.ensures c.requires.size c.loop-at.at (omega arith)).fit

pub answer_unless-requires-clause-letters : goal.answer_unless-requires-clause-letters
answer_unless-requires-clause-letters c =
    (row_now c.args.store.now c.loop-at.store c.args.partition.now c.args.rows.now [] c.args.ranks.now c.in_ok-table.table.items c.requires.arena c.loop-at.invariant.0 c.in_ok-table.ensures c.requires.size c.loop-at.at (omega arith)).letters

pub answer_unless-requires-clause-right : goal.answer_unless-requires-clause-right
answer_unless-requires-clause-right c = rw c.deref.ensures.value c.loop-at.invariant.2

pub loop-at-init : goal.loop-at-init
loop-at-init c = (
  Keeps_refl c.args.store.now c.props.ensures.canonical,
  record { size = ap length c.new-made.ensures; each = λ at h. absurd (omega arith) },
  record {
    folding = c.new.ensures c.args.store.now Item c.agent_sides-sides.result.before c.in_ok-table.table.items;
    coded = kept_none same_id (IsTransformed c.args.store.now (IsTableItem c.in_ok-table.table.items)) c.new-2.result c.new-2.ensures;
  },
)

pub loop-at-preserved : goal.loop-at-preserved
loop-at-preserved c =
    let h : c.loop-at.at < length c.args.rows.now = omega arith in
    let live = (c.requires.arena.rows_are c.loop-at.at h).0 in
    let keeps = c.in_ok-answer_unless.ensures.keeps in
    let made = chosen_from c.args.store.now c.loop-at.store c.answer_unless.new.store c.loop-at.invariant.0 c.agent_sides-sides.result.lesser_before c.agent_sides-sides.result.before c.deref.result.now (id_at c.args.rows.now c.loop-at.at)
    (number_at c.args.ranks.now c.loop-at.at) c.in_ok-answer_unless.field-0 live c.in_ok-answer_unless.ensures.id in
    let here = subst (λ t. IsChosen c.args.store.now c.answer_unless.new.store c.agent_sides-sides.result.lesser_before c.agent_sides-sides.result.before t (id_at c.args.rows.now c.loop-at.at) (number_at c.args.ranks.now c.loop-at.at)
    c.in_ok-answer_unless.field-0) c.deref.ensures.value made in (
      Keeps_trans c.args.store.now c.loop-at.store c.answer_unless.new.store c.loop-at.invariant.0 keeps,
      subst (λ ms. AreChosen c.args.store.now c.answer_unless.new.store c.agent_sides-sides.result.lesser_before c.agent_sides-sides.result.before c.in_ok-table.table.items c.args.rows.now c.args.ranks.now ms (c.loop-at.at + 1)) (sym c.in_ok-push.ensures.ok)
          (chosen_more c.args.store.now c.loop-at.store c.answer_unless.new.store keeps c.agent_sides-sides.result.lesser_before c.agent_sides-sides.result.before c.in_ok-table.table.items c.args.rows.now c.args.ranks.now c.loop-at.made c.loop-at.at
          c.in_ok-answer_unless.field-0 c.loop-at.invariant.1 here),
      subst (λ t. IsRightSoFar c.answer_unless.new.store c.agent_sides-sides.result.before t c.answer_unless.new.answering) c.deref.ensures.value c.in_ok-answer_unless.ensures.right,
    )

pub returns-clause-answers : goal.returns-clause-answers
returns-clause-answers c goals ranks =
    let e : c.loop-at.at ≡ length c.args.rows.now = let a = c.loop-at.auto.at-end in let b = c.loop-at-test.false in omega arith in
    chosen_answers c.args.store.now c.loop-at.store c.args.partition.now c.args.rows.now goals (rows_again c.args.store.now c.args.partition.now c.args.rows.now [] [] goals goals c.requires.arena) c.args.ranks.now c.requires.size ranks c.in_ok-table.table.items c.in_ok-table.ensures c.loop-at.made
    c.agent_sides-sides.result.lesser_before c.agent_sides-sides.result.before (ap (λ z. z.lesser_before) c.agent_sides-sides.ensures) (ap (λ z. z.before) c.agent_sides-sides.ensures)
    (subst (λ k. AreChosen c.args.store.now c.loop-at.store c.agent_sides-sides.result.lesser_before c.agent_sides-sides.result.before c.in_ok-table.table.items c.args.rows.now c.args.ranks.now c.loop-at.made k) e c.loop-at.invariant.1)

pub returns-clause-over : goal.returns-clause-over
returns-clause-over c =
    let e : c.loop-at.at ≡ length c.args.rows.now = let a = c.loop-at.auto.at-end in let b = c.loop-at-test.false in omega arith in
    chosen_diagrams c.args.store.now c.loop-at.store c.args.partition.now c.args.rows.now [] [] c.requires.arena c.args.ranks.now c.in_ok-table.table.items c.loop-at.made
    c.agent_sides-sides.result.lesser_before c.agent_sides-sides.result.before (ap (λ z. z.lesser_before) c.agent_sides-sides.ensures) (ap (λ z. z.before) c.agent_sides-sides.ensures)
    (subst (λ k. AreChosen c.args.store.now c.loop-at.store c.agent_sides-sides.result.lesser_before c.agent_sides-sides.result.before c.in_ok-table.table.items c.args.rows.now c.args.ranks.now c.loop-at.made k) e c.loop-at.invariant.1)
