use Rattle.std.proofs.Common.{◌≡◌, ◌<◌, length, refl, ◌∙◌, subst, arith}
use Rattle.std.specs.Prelude.{◌&&◌, ◌||◌}
use Rattle.forms.specs.Tree.{program}
use Rattle.diagrams.specs.declared.top.Id.{Id}
use Rattle.diagrams.specs.Live.{Keeps}
use Rattle.diagrams.specs.Eval.{is_one}
use Rattle.path_programs.specs.Made.{IsOneWhere}
use Rattle.path_programs.specs.Growth.{HasGrown}
use Rattle.diagrams.proofs.Meaning.{Keeps_trans, truth_lasts}
use Rattle.obligations.specs.Table.{ends_of, body_of}
use Rattle.obligations.proofs.Holds.{fits_cells_lasts}
use Rattle.path_programs.proofs.Making.{body_truth}
use Rattle.path_programs.proofs.Growing.{grown_keeps, grown_trans, grown_store}
use Rattle.path_programs.proofs.Resting.{one_literal_claim}
use Rattle.path_programs.proofs.TestLists.{has_tests_last, all_tests}
use Rattle.path_programs.proofs.Earlier.{cell-grown}
use Rattle.path_programs.proofs.Compiled.{compiled_ok, grown_added, whole_says, whole_body}
use Rattle.path_programs.proofs.compiling.compile.Goals.{then-lead, else-lead}
use Rattle.path_programs.proofs.compiling.compile.Goals as goal

pub walk-requires-clause-fits : goal.walk-requires-clause-fits
walk-requires-clause-fits c = fits_cells_lasts _ _ c.literal.ensures.keeps c.args.cells.now c.requires.fits

pub walk-requires-clause-later : goal.walk-requires-clause-later
walk-requires-clause-later c = one_literal_claim _ c.args.then _ _ c.requires.then c.in_ok-later.ensures.id

pub walk-requires-clause-tests : goal.walk-requires-clause-tests
walk-requires-clause-tests c =
    has_tests_last c.args.store.now c.literal.new.store c.literal.ensures.keeps c.args.tests.now (length c.args.tests.now) (program c.args.path.now)
    (all_tests c.args.store.now c.args.tests.now (program c.args.path.now) c.requires.tests c.requires.meant)

pub returns-in_err-later-clause-fits : goal.returns-in_err-later-clause-fits
returns-in_err-later-clause-fits c = fits_cells_lasts _ _ c.literal.ensures.keeps c.args.cells.now c.requires.fits

pub returns-in_err-later-clause-earlier : goal.returns-in_err-later-clause-earlier
returns-in_err-later-clause-earlier c = cell-grown _ _ _ _ c.requires.fits (grown_keeps _ _ _ c.literal.ensures.keeps c.requires.fits)

pub returns-in_err-lead-clause-earlier : goal.returns-in_err-lead-clause-earlier
returns-in_err-lead-clause-earlier c = cell-grown _ _ _ _ c.requires.fits (grown_trans _ _ _ _ _ _ (grown_keeps _ _ _ c.literal.ensures.keeps c.requires.fits) c.walk.ensures.grown)

pub returns-in_err-here-clause-fits : goal.returns-in_err-here-clause-fits
returns-in_err-here-clause-fits c = fits_cells_lasts _ _ c.both.ensures.keeps c.walk.new.cells c.walk.ensures.grown.fits

pub returns-in_err-here-clause-earlier : goal.returns-in_err-here-clause-earlier
returns-in_err-here-clause-earlier c =
    cell-grown _ _ _ _ c.requires.fits (grown_store _ _ _ _ _ (grown_trans _ _ _ _ _ _ (grown_keeps _ _ _ c.literal.ensures.keeps c.requires.fits) c.walk.ensures.grown) c.both.ensures.keeps)

pub either-requires-clause-f : goal.either-requires-clause-f
either-requires-clause-f c = truth_lasts _ _ c.both.ensures.keeps _ (body_truth _ _ _ c.in_ok-lead.ensures.bodies.further)

pub returns-in_err-body-clause-fits : goal.returns-in_err-body-clause-fits
returns-in_err-body-clause-fits c = fits_cells_lasts _ _ (Keeps_trans _ _ _ c.both.ensures.keeps c.either.ensures.keeps) c.walk.new.cells c.walk.ensures.grown.fits

pub returns-in_err-body-clause-earlier : goal.returns-in_err-body-clause-earlier
returns-in_err-body-clause-earlier c =
    cell-grown _ _ _ _ c.requires.fits
    (grown_store _ _ _ _ _ (grown_trans _ _ _ _ _ _ (grown_keeps _ _ _ c.literal.ensures.keeps c.requires.fits) c.walk.ensures.grown) (Keeps_trans _ _ _ c.both.ensures.keeps c.either.ensures.keeps))

-- what stands after the walk
walked : (c : goal.After-add) → HasGrown c.args.store.now c.args.cells.now c.walk.new.store c.walk.new.cells
walked c = grown_trans _ _ _ _ _ _ (grown_keeps _ _ _ c.literal.ensures.keeps c.requires.fits) c.walk.ensures.grown

later_keeps : (c : goal.After-add) → Keeps c.walk.new.store c.either.new.store
later_keeps c = Keeps_trans c.walk.new.store c.both.new.store c.either.new.store c.both.ensures.keeps c.either.ensures.keeps

there : (c : goal.After-add) → c.args.then < length c.walk.new.cells
there c = let h = c.walk.ensures.grown.grows.longer in let k = c.requires.then in omega (arith, h, k)

whole : (c : goal.After-add) → IsOneWhere c.either.new.store c.in_ok-body.body
    (λ a. is_one c.walk.new.store c.in_ok-lead.lead.further a || is_one c.walk.new.store c.in_ok-lead.lead.stays a && is_one c.walk.new.store (body_of c.walk.new.cells c.args.then) a)
whole c =
    let P : Id → Type 0 = λ i. IsOneWhere c.either.new.store c.in_ok-body.body
    (λ a. is_one c.walk.new.store c.in_ok-lead.lead.further a || is_one c.walk.new.store c.in_ok-lead.lead.stays a && is_one c.walk.new.store i a) in
    subst P c.body.ensures (whole_says c.walk.new.store c.both.new.store c.either.new.store c.both.ensures.keeps c.either.ensures.keeps c.in_ok-lead.lead c.body.result c.in_ok-here.here c.in_ok-body.body
    c.in_ok-lead.ensures.bodies.further.live c.in_ok-here.ensures.id c.in_ok-body.ensures.id)

grown : (c : goal.After-add) → HasGrown c.args.store.now c.args.cells.now c.either.new.store c.add.new.self
grown c = grown_added c.add.result c.args.store.now c.args.cells.now c.either.new.store c.walk.new.cells c.add.new.self (record { ends = c.if-lead.ends; body = c.in_ok-body.body })
    (grown_store _ _ _ _ _ (walked c) (later_keeps c))
    (whole_body c.walk.new.store c.either.new.store (later_keeps c) (length c.walk.new.cells) c.in_ok-lead.lead (body_of c.walk.new.cells c.args.then) c.in_ok-body.body c.in_ok-lead.ensures.bodies
    (c.walk.ensures.grown.fits c.args.then (there c)) (whole c))
    c.add.ensures.ok c.add.ensures.err

pub returns-clause-fits : goal.returns-clause-fits
returns-clause-fits c = (grown c).fits

pub returns-clause-earlier : goal.returns-clause-earlier
returns-clause-earlier c = cell-grown c.args.store.now c.args.cells.now c.either.new.store c.add.new.self c.requires.fits (grown c)

ends_are : (c : goal.After-add) → c.if-lead.ends ≡ (c.in_ok-lead.lead.ends && ends_of c.walk.new.cells c.args.then)
ends_are c = elim c.if-lead.branch [
  | then-lead w ↦ w.ends-is ∙ w.ends-ends.ensures ∙ rw w.if-lead.true refl
  | else-lead w ↦ w.ends-is ∙ rw w.if-lead.false refl
]

pub returns-clause-leads : goal.returns-clause-leads
returns-clause-leads c =
    compiled_ok c.add.result c.args.store.now c.literal.new.store c.walk.new.store c.either.new.store c.literal.ensures.keeps c.walk.ensures.grown.keeps (later_keeps c)
    c.args.cells.now c.walk.new.cells c.add.new.self c.walk.ensures.grown.grows.longer c.args.then (there c) (program c.args.path.now) c.in_ok-later.later c.in_ok-lead.lead c.in_ok-later.ensures.id
    c.walk.ensures.grown.fits c.in_ok-lead.ensures.bodies c.in_ok-lead.ensures.lead (record { ends = c.if-lead.ends; body = c.in_ok-body.body }) c.add.ensures.number c.add.ensures.ok (ends_are c) (whole c)
