use Rattle.std.proofs.Common.{◌≤◌, sym, subst}
use Rattle.diagrams.specs.Tree.{AllVars}
use Rattle.diagrams.specs.Eval.{tree}
use Rattle.choosing.specs.declared.walks.Turns.{Turns}
use Rattle.choosing.proofs.choice.choose.Goals as goal

pub reach-requires-clause-vars : goal.reach-requires-clause-vars
reach-requires-clause-vars c = subst (λ (t : Turns). AllVars (λ v. t.from ≤ v) (tree c.args.store.now c.args.f)) (sym c.rank_turns-turns.ensures) c.requires.vars

pub reach-requires-2-clause-vars : goal.reach-requires-2-clause-vars
reach-requires-2-clause-vars c = subst (λ (t : Turns). AllVars (λ v. t.from ≤ v) (tree c.args.store.now c.args.f)) (sym c.distance_turns-turns.ensures) c.requires.vars

pub kept-requires-clause-vars : goal.kept-requires-clause-vars
kept-requires-clause-vars c = subst (λ (t : Turns). AllVars (λ v. t.from ≤ v) (tree c.args.store.now c.args.f)) (sym c.loss_turns.ensures) c.requires.vars
