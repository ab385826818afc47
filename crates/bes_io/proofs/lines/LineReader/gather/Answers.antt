use Rattle.std.proofs.Common.{rules, ◌≡◌, ◌-◌, length, arith, ◌∙◌, sym, refl, ap, subst, None, Ok, Err}
use Rattle.std.proofs.lemmas.Result.{err_from_is_err_and}
use Rattle.std.proofs.lemmas.Grind.{common_steps}
use Rattle.bes_io.proofs.Deciding.{text_len-more}
use Rattle.bes_io.proofs.Finding.{settled-at, closed-at, no_lf, contains-lf}
use Rattle.bes_io.specs.Reader.{allowed, next_of, HeldTells}
use Rattle.bes_io.specs.declared.lines.LineFault.TheVariants.{ReadFault}
use Rattle.bes_io.proofs.HeldFacts.{tells-settled, tells-closed, tells-fault, starts-trans, starts-refl, fault-is}
use Rattle.bes_io.specs.Asking.{unasked, asked}
use Rattle.bes_io.specs.Steps.{holding, decided}
use Rattle.bes_io.proofs.lines.LineReader.gather.Goals as goal

pub close-requires-clause-undecided : goal.close-requires-clause-undecided
close-requires-clause-undecided g c =
    let zero : c.fill.result ≡ Ok 0 = c.in_ok-fill.was ∙ ap Ok c.if-branch-eq0.true in
    ap (λ m. decided (allowed m) c.fill.new.self.held) (c.fill.ensures.same ∙ ap (λ r. holding r c.fill.new.self.held) c.loop-self.invariant.0)
    ∙ ap (decided (allowed c.args.self.now)) (c.fill.ensures.nothing zero) ∙ c.loop-self.invariant.1

pub returns-then-branch-eq0-clause-finds : goal.returns-then-branch-eq0-clause-finds
returns-then-branch-eq0-clause-finds g c bytes all =
    let zero : c.fill.result ≡ Ok 0 = c.in_ok-fill.was ∙ ap Ok c.if-branch-eq0.true in
    let same : c.fill.new.self ≡ holding c.args.self.now c.fill.new.self.held = c.fill.ensures.same ∙ ap (λ r. holding r c.fill.new.self.held) c.loop-self.invariant.0 in
    let none : decided (allowed c.fill.new.self) c.fill.new.self.held ≡ None = ap (λ m. decided (allowed m) c.fill.new.self.held) same ∙ ap (decided (allowed c.args.self.now)) (c.fill.ensures.nothing zero) ∙ c.loop-self.invariant.1 in
    closed-at c.args.self.now c.fill.new.self c.close.new.self c.close.result bytes _ same c.requires.open none c.close.ensures.answer
    (c.fill.ensures.input ∙ c.loop-self.invariant.3 ∙ all) (c.fill.ensures.end zero) c.close.ensures.after

pub returns-in-Some-clause-finds : goal.returns-in-Some-clause-finds
returns-in-Some-clause-finds g c bytes all =
    let same : c.fill.new.self ≡ holding c.args.self.now c.fill.new.self.held = c.fill.ensures.same ∙ ap (λ r. holding r c.fill.new.self.held) c.loop-self.invariant.0 in
    settled-at c.args.self.now c.fill.new.self c.settle.new.self c.settle.result c.in-Some.answer bytes _ same c.requires.open c.settle.ensures.room
    (c.fill.ensures.input ∙ c.loop-self.invariant.3 ∙ all) c.settle.ensures.answer c.in-Some.is c.settle.ensures.after

pub settle-requires-clause-none : goal.settle-requires-clause-none
settle-requires-clause-none g c =
    let held : length c.loop-self.self.held ≡ c.len.result - c.self.inside.start = grind (arith, common_steps) in
    omega (arith, held, text_len-more c.loop-self.self.held c.fill.new.self.held c.fill.ensures.keeps (no_lf (allowed c.args.self.now) c.loop-self.self.held c.loop-self.invariant.1))

pub returns-in-Some-clause-held : goal.returns-in-Some-clause-held
returns-in-Some-clause-held g c =
    let same : c.fill.new.self ≡ holding c.args.self.now c.fill.new.self.held = c.fill.ensures.same ∙ ap (λ r. holding r c.fill.new.self.held) c.loop-self.invariant.0 in
    tells-settled c.args.self.now c.fill.new.self c.settle.new.self c.settle.result c.in-Some.answer same
    (starts-trans c.fill.new.self.held c.loop-self.self.held c.args.self.now.held c.fill.ensures.keeps c.loop-self.invariant.2)
    (λ has. absurd (contains-lf (allowed c.args.self.now) c.args.self.now.held has c.requires.undecided)) c.settle.ensures.room c.settle.ensures.answer c.in-Some.is c.settle.ensures.after

pub returns-then-branch-eq0-clause-held : goal.returns-then-branch-eq0-clause-held
returns-then-branch-eq0-clause-held g c =
    let same : c.fill.new.self ≡ holding c.args.self.now c.fill.new.self.held = c.fill.ensures.same ∙ ap (λ r. holding r c.fill.new.self.held) c.loop-self.invariant.0 in
    tells-closed c.args.self.now c.close.new.self c.fill.new.self.held c.close.result
    (starts-trans c.fill.new.self.held c.loop-self.self.held c.args.self.now.held c.fill.ensures.keeps c.loop-self.invariant.2)
    (λ has. contains-lf (allowed c.args.self.now) c.args.self.now.held has c.requires.undecided) (c.close.ensures.answer ∙ ap (λ m. next_of (allowed m) c.fill.new.self.held) same)

pub returns-in_err-fill-clause-held : goal.returns-in_err-fill-clause-held
returns-in_err-fill-clause-held g c =
    let told : HeldTells c.args.self.now (Err ReadFault) c.fill.new.self = tells-fault c.args.self.now c.fill.new.self c.loop-self.self.held c.in_err-fill.ensures.err.0 c.loop-self.invariant.2 c.loop-self.invariant.1 in
    let p = err_from_is_err_and c.from_residual.result c.from_residual.ensures.1 in
    let is : Err ReadFault ≡ c.from_residual.result = sym (p.1 ∙ ap Err (p.2 ∙ fault-is (Err c.in_err-fill.field-0.0) c.in_err-fill.field-0.0 refl c.in_err-fill.ensures.err.1)) in
    subst (λ r. HeldTells c.args.self.now r c.fill.new.self) is told

pub loop-self-init : goal.loop-self-init
loop-self-init g c = (search rules, search rules, starts-refl c.args.self.now.held, search rules, search rules, unasked)

pub loop-self-preserved : goal.loop-self-preserved
loop-self-preserved g c = (
  search rules,
  search rules,
  grind (arith, common_steps),
  search rules,
  search rules,
  asked c.loop-self.invariant.5 c.loop-self.invariant.4 c.fill.ensures.taken,
)

pub returns-in_err-fill-clause-asked : goal.returns-in_err-fill-clause-asked
returns-in_err-fill-clause-asked g c = asked c.loop-self.invariant.5 c.loop-self.invariant.4 c.fill.ensures.taken

pub returns-then-branch-eq0-clause-asked : goal.returns-then-branch-eq0-clause-asked
returns-then-branch-eq0-clause-asked g c = asked c.loop-self.invariant.5 c.loop-self.invariant.4 c.fill.ensures.taken

pub returns-in-Some-clause-asked : goal.returns-in-Some-clause-asked
returns-in-Some-clause-asked g c = asked c.loop-self.invariant.5 c.loop-self.invariant.4 c.fill.ensures.taken
