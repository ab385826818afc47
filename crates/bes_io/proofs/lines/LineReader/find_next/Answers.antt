use Rattle.std.proofs.Common.{sym, ◌∙◌, ap, subst, drop}
use Rattle.bes_io.proofs.Finding.{settled-at, found-after, contains-lf, undecided-at}
use Rattle.std.specs.Io.{StartsWith}
use Rattle.bes_io.proofs.HeldFacts.{tells-settled, tells-after, starts-refl}
use Rattle.bes_io.specs.Reader.{input, allowed}
use Rattle.bes_io.specs.Asking.{unasked}
use Rattle.bes_io.specs.Steps.{holding}
use Rattle.bes_io.proofs.lines.LineReader.find_next.Goals as goal

pub returns-in-Some-clause-finds : goal.returns-in-Some-clause-finds
returns-in-Some-clause-finds g c bytes all =
    settled-at c.args.self.now _ c.settle.new.self c.settle.result c.in-Some.answer bytes _ (ap (λ r. holding r (drop c.self.inside.start c.self.inside.buffer.items)) c.self.view_is)
    (ap (λ r. r.phase) (sym c.self.view_is) ∙ c.in-Reading.is) c.settle.ensures.room
    (ap (λ r. input r (g.S.Source.left c.args.source.now)) c.self.view_is ∙ all) c.settle.ensures.answer c.in-Some.is c.settle.ensures.after

pub returns-in-None-clause-finds : goal.returns-in-None-clause-finds
returns-in-None-clause-finds g c bytes all =
    let u = undecided-at c.args.self.now _ c.settle.new.self c.settle.result (ap (λ r. holding r r.held) c.self.view_is) c.settle.ensures.answer c.in-None.is c.settle.ensures.after in
    found-after c.args.self.now c.settle.new.self c.gather.new.self bytes c.gather.result _ u.0
    (c.gather.ensures.finds bytes (ap (λ r. input r (g.S.Source.left c.args.source.now)) u.0 ∙ all))

pub returns-in-None-clause-untouched : goal.returns-in-None-clause-untouched
returns-in-None-clause-untouched g c has =
    let u = undecided-at c.args.self.now _ c.settle.new.self c.settle.result (ap (λ r. holding r r.held) c.self.view_is) c.settle.ensures.answer c.in-None.is c.settle.ensures.after in
    absurd (contains-lf (allowed c.args.self.now) c.args.self.now.held has u.1)

pub returns-in-Some-clause-held : goal.returns-in-Some-clause-held
returns-in-Some-clause-held g c =
    tells-settled c.args.self.now _ c.settle.new.self c.settle.result c.in-Some.answer (ap (λ r. holding r (drop c.self.inside.start c.self.inside.buffer.items)) c.self.view_is)
    (subst (λ r. StartsWith (drop c.self.inside.start c.self.inside.buffer.items) r.held) c.self.view_is (starts-refl (drop c.self.inside.start c.self.inside.buffer.items)))
    (λ has. ap (λ r. r.held) c.self.view_is) c.settle.ensures.room c.settle.ensures.answer c.in-Some.is c.settle.ensures.after

pub returns-in-None-clause-held : goal.returns-in-None-clause-held
returns-in-None-clause-held g c = tells-after c.args.self.now c.settle.new.self c.gather.new.self c.gather.result ((undecided-at c.args.self.now _ c.settle.new.self c.settle.result (ap (λ r. holding r r.held) c.self.view_is) c.settle.ensures.answer c.in-None.is c.settle.ensures.after).0) c.gather.ensures.held

pub returns-in-Some-clause-asked : goal.returns-in-Some-clause-asked
returns-in-Some-clause-asked g c = unasked

pub returns-in-Closed-clause-asked : goal.returns-in-Closed-clause-asked
returns-in-Closed-clause-asked g c = unasked

pub returns-in-StoppedAtLine-clause-asked : goal.returns-in-StoppedAtLine-clause-asked
returns-in-StoppedAtLine-clause-asked g c = unasked

pub returns-in-StoppedAtInput-clause-asked : goal.returns-in-StoppedAtInput-clause-asked
returns-in-StoppedAtInput-clause-asked g c = unasked
