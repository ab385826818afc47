use Rattle.std.proofs.Common.{refl}
use Rattle.forms.specs.Tree.{tree}
use Rattle.diagrams.proofs.Meaning.{truth_lasts}
use Rattle.path_programs.proofs.Arms.{bodies_step, lead_step}
use Rattle.path_programs.proofs.walk.step.Goals as goal

pub both-requires-clause-g : goal.both-requires-clause-g
both-requires-clause-g c = truth_lasts _ _ c.condition.ensures.keeps c.args.later c.requires.later

pub returns-clause-bodies : goal.returns-clause-bodies
returns-clause-bodies c =
    bodies_step _ _ _ _ c.condition.ensures.keeps c.both.ensures.keeps c.never.ensures.keeps (tree c.args.form.now) c.requires.proper c.in_ok-now.now c.args.later _
    c.in_ok-now.ensures.id c.in_ok-further.ensures.id c.in_ok-stays.ensures.id

pub returns-clause-lead : goal.returns-clause-lead
returns-clause-lead c =
    lead_step _ _ _ _ c.condition.ensures.keeps c.both.ensures.keeps c.never.ensures.keeps (tree c.args.form.now) c.requires.propositional c.requires.proper c.in_ok-now.now c.args.later _
    c.in_ok-now.ensures.id c.in_ok-further.ensures.id c.in_ok-stays.ensures.id refl c.requires.later.live
