use Rattle.std.proofs.Common.{◌+◌, subst}
use Rattle.diagrams.specs.Live.{Means}
use Rattle.diagrams.proofs.Meaning.{live_lasts}
use Rattle.obligations.proofs.Holds.{body_lasts}
use Rattle.diagrams.specs.Eval.{literal_value}
use Rattle.translate.proofs.JoinLemmas.{can_join, next_body, next_says, means_literal_small}
use Rattle.translate.proofs.joins.with_next.Goals as goal

pub combine-requires : goal.combine-requires
combine-requires c = record {
  f_live = live_lasts c.args.store.now c.literal.new.self c.literal.ensures.keeps.extends c.args.now c.requires.now.live;
  g_live = c.in_ok-next.ensures.id.live;
  fit =
      can_join c.literal.new.self c.args.op c.requires.op c.args.now c.in_ok-next.next
      (body_lasts c.args.store.now c.literal.new.self c.literal.ensures.keeps c.args.own c.args.now c.requires.now).truth
      (means_literal_small c.literal.new.self _ c.in_ok-next.next c.in_ok-next.ensures.id);
}

pub returns-clause-body : goal.returns-clause-body
returns-clause-body c =
    let next = subst (λ p. Means c.literal.new.self c.in_ok-next.next (literal_value (p + c.args.own))) c.props-props.ensures.number c.in_ok-next.ensures.id in
    next_body c.combine.result c.args.store.now c.literal.new.self c.combine.new.self c.literal.ensures.keeps c.combine.ensures.keeps c.args.op c.requires.op c.args.now c.in_ok-next.next c.args.own c.requires.now next c.combine.ensures.id

pub returns-clause-says : goal.returns-clause-says
returns-clause-says c =
    let next = subst (λ p. Means c.literal.new.self c.in_ok-next.next (literal_value (p + c.args.own))) c.props-props.ensures.number c.in_ok-next.ensures.id in
    next_says c.combine.result c.args.store.now c.literal.new.self c.combine.new.self c.literal.ensures.keeps c.combine.ensures.keeps c.args.op c.requires.op c.args.now c.in_ok-next.next c.args.own c.requires.now next c.combine.ensures.id
