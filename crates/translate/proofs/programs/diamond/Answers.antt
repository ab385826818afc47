use Rattle.std.proofs.Common.{◌≡◌, ◌+◌, ◌∙◌, ap, subst}
use Rattle.forms.specs.Tree.{program}
use Rattle.forms.specs.Satisfaction.{goes}
use Rattle.forms.proofs.Duals.{reaches-same}
use Rattle.diagrams.specs.Live.{Means}
use Rattle.obligations.specs.Value.{cell}
use Rattle.obligations.proofs.Holds.{fits_cells_lasts}
use Rattle.translate.specs.Exact.{accepted}
use Rattle.diagrams.specs.Eval.{literal_value}
use Rattle.translate.proofs.JoinLemmas.{literal_holds}
use Rattle.translate.proofs.LeastLemmas.{least_same_ok}
use Rattle.translate.proofs.MeantLemmas.{tests_last}
use Rattle.translate.proofs.programs.diamond.Goals as goal

pub compile-requires-clause-meant : goal.compile-requires-clause-meant
compile-requires-clause-meant c =
    λ k d h. (tests_last c.args.store.now c.operand.new.store c.operand.ensures.keeps c.args.tests.now c.requires.meant k d h).meant

pub solved-requires-clause-fits : goal.solved-requires-clause-fits
solved-requires-clause-fits c =
    fits_cells_lasts c.compile.new.store c.literal.new.self c.literal.ensures.keeps c.compile.new.cells c.compile.ensures.fits

pub returns-clause-least : goal.returns-clause-least
returns-clause-least c =
    let s = c.args.store.now in
    let o = c.operand.new.store in
    let m = c.compile.new.store in
    let n = c.literal.new.self in
    let cells = c.compile.new.cells in
    let j = c.in_ok-leads.leads in
    let x = program c.args.path.now in
    let start = subst (λ p. Means n c.in_ok-start.start (literal_value (p + j))) c.props-props.ensures.number c.in_ok-start.ensures.id in
    let props : o.props ≡ s.props = c.operand.ensures.keeps.extends.props in
    least_same_ok c.solved.result c.solved.new.store _ _
    (λ w.
    literal_holds m n c.literal.ensures.keeps cells c.compile.ensures.fits j c.in_ok-leads.ensures.number c.in_ok-start.start start w
    ∙ c.in_ok-leads.ensures.leads w
    ∙ reaches-same (λ u v. goes o.props x u v) (λ u v. goes s.props x u v)
    (λ v. cell m cells v c.in_ok-then.then) (accepted s c.args.a.now)
    (λ u v. ap (λ p. goes p x u v) props)
    (λ v. c.in_ok-then.ensures.stands.same m cells c.compile.ensures.keeps c.compile.ensures.grows v) w)
    c.solved.ensures.least
