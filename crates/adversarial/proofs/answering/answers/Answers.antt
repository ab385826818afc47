use Rattle.std.proofs.Common.{subst}
use Rattle.std.proofs.lemmas.Result.{IfOk-weaker}
use Rattle.attractor.specs.Graph.{number_at}
use Rattle.arena.specs.Left.{locations_of}
use Rattle.adversarial.specs.Answered.{AreAnswerDiagrams}
use Rattle.adversarial.proofs.Evading.{tables_refute}
use Rattle.adversarial.proofs.OverArena.{ranks_under, answers_over, answers_of_histories}
use Rattle.adversarial.proofs.answering.answers.Goals as goal

pub returns-clause-answers : goal.returns-clause-answers
returns-clause-answers c =
    let t = c.args.arena.now in
    IfOk-weaker c.answers_of_rows.result _ _
    (λ made a. answers_over c.args.store.now c.answers_of_rows.new.store c.args.arena.now c.partition.result.now c.rows.result.now c.items.result.now c.args.ranks.now made c.partition.ensures c.rows.ensures c.items.ensures a)
    (c.answers_of_rows.ensures.answers t.goals
    (ranks_under c.args.store.now c.args.arena.now c.partition.result.now c.rows.result.now c.items.result.now c.args.ranks.now c.partition.ensures c.rows.ensures c.items.ensures c.requires.ranks))

pub returns-clause-refutes : goal.returns-clause-refutes
returns-clause-refutes c =
    let t = c.args.arena.now in
    IfOk-weaker c.answers_of_rows.result _ _
    (λ made a. tables_refute c.answers_of_rows.new.store c.args.arena.now.partition c.args.arena.now.has_duty (locations_of c.args.store.now c.args.arena.now) (number_at c.args.ranks.now) c.requires.ranks made
    (answers_over c.args.store.now c.answers_of_rows.new.store c.args.arena.now c.partition.result.now c.rows.result.now c.items.result.now c.args.ranks.now made c.partition.ensures c.rows.ensures c.items.ensures a))
    (c.answers_of_rows.ensures.answers t.goals
    (ranks_under c.args.store.now c.args.arena.now c.partition.result.now c.rows.result.now c.items.result.now c.args.ranks.now c.partition.ensures c.rows.ensures c.items.ensures c.requires.ranks))

pub returns-clause-histories : goal.returns-clause-histories
returns-clause-histories c s e arena =
    let t = c.args.arena.now in
    IfOk-weaker c.answers_of_rows.result _ _
    (λ made a. answers_of_histories c.answers_of_rows.new.store s c.args.arena.now.partition c.args.arena.now.has_duty (locations_of c.args.store.now c.args.arena.now) (number_at c.args.ranks.now) made e arena c.requires.ranks
    (answers_over c.args.store.now c.answers_of_rows.new.store c.args.arena.now c.partition.result.now c.rows.result.now c.items.result.now c.args.ranks.now made c.partition.ensures c.rows.ensures c.items.ensures a))
    (c.answers_of_rows.ensures.answers t.goals
    (ranks_under c.args.store.now c.args.arena.now c.partition.result.now c.rows.result.now c.items.result.now c.args.ranks.now c.partition.ensures c.rows.ensures c.items.ensures c.requires.ranks))

pub returns-clause-over : goal.returns-clause-over
returns-clause-over c =
    IfOk-weaker c.answers_of_rows.result _ _ (λ made d. subst (λ p. AreAnswerDiagrams c.answers_of_rows.new.store p made) c.partition.ensures d) c.answers_of_rows.ensures.over
