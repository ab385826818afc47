use Rattle.std.proofs.Common.{◌∙◌, sym, ap}
use Rattle.trace_meaning.specs.Column.{last, without_last}
use Rattle.trace_meaning.proofs.Columns.{last-push, without_last-push}
use Rattle.trace_meaning.proofs.star.take_last.Goals as goal

pub returns-in-Some-clause-last : goal.returns-in-Some-clause-last
returns-in-Some-clause-last c = sym (ap last c.in-Some.ensures.items ∙ last-push c.pop.new.self.items c.in-Some.x)

pub returns-in-Some-clause-left : goal.returns-in-Some-clause-left
returns-in-Some-clause-left c = sym (ap without_last c.in-Some.ensures.items ∙ without_last-push c.pop.new.self.items c.in-Some.x)
