use Rattle.std.proofs.Common.{ap, refl}
use Rattle.std.specs.Prelude.{◌&&◌, ◌||◌, not}
use Rattle.forms.specs.Operators.{agree}
use Rattle.forms.specs.Tree.{tree}
use Rattle.path_programs.specs.Made.{truth_of}
use Rattle.path_programs.proofs.Making.{one_same, one_of_two, one_truth_later}
use Rattle.path_programs.proofs.condition.+condition.Goals as goal

pub both-requires-clause-f : goal.both-requires-clause-f
both-requires-clause-f t c = one_truth_later _ _ _ _ c.condition-in-And-2.ensures.keeps c.in_ok-f-in-And.ensures.id

pub either-requires-clause-f : goal.either-requires-clause-f
either-requires-clause-f t c = one_truth_later _ _ _ _ c.condition-in-Or-2.ensures.keeps c.in_ok-f-in-Or.ensures.id

pub either-requires-in-Implies-clause-f : goal.either-requires-in-Implies-clause-f
either-requires-in-Implies-clause-f t c = one_truth_later _ _ _ _ c.condition-in-Implies-2.ensures.keeps c.in_ok-not_f-in-Implies.ensures.id

pub agreeing-requires-clause-f : goal.agreeing-requires-clause-f
agreeing-requires-clause-f t c = one_truth_later _ _ _ _ c.condition-in-Iff-2.ensures.keeps c.in_ok-f-in-Iff.ensures.id

pub returns-in_ok-g-in-And-clause-id : goal.returns-in_ok-g-in-And-clause-id
returns-in_ok-g-in-And-clause-id t c = one_of_two c.both.result c.condition-in-And.new.store c.condition-in-And-2.new.store c.both.new.store c.in_ok-f-in-And.f c.in_ok-g-in-And.g
    (truth_of (tree c.deref-in-And.result.now)) (truth_of (tree c.deref-in-And-2.result.now)) (truth_of (tree c.args.form.now)) (λ x y. x && y)
    c.condition-in-And-2.ensures.keeps c.in_ok-f-in-And.ensures.id c.in_ok-g-in-And.ensures.id
    (λ a. rw (c.in-And.is, c.deref-in-And.ensures, c.deref-in-And-2.ensures) refl) c.both.ensures.id

pub returns-in_ok-g-in-Or-clause-id : goal.returns-in_ok-g-in-Or-clause-id
returns-in_ok-g-in-Or-clause-id t c = one_of_two c.either.result c.condition-in-Or.new.store c.condition-in-Or-2.new.store c.either.new.store c.in_ok-f-in-Or.f c.in_ok-g-in-Or.g
    (truth_of (tree c.deref-in-Or.result.now)) (truth_of (tree c.deref-in-Or-2.result.now)) (truth_of (tree c.args.form.now)) (λ x y. x || y)
    c.condition-in-Or-2.ensures.keeps c.in_ok-f-in-Or.ensures.id c.in_ok-g-in-Or.ensures.id
    (λ a. rw (c.in-Or.is, c.deref-in-Or.ensures, c.deref-in-Or-2.ensures) refl) c.either.ensures.id

pub returns-in_ok-g-in-Implies-clause-id : goal.returns-in_ok-g-in-Implies-clause-id
returns-in_ok-g-in-Implies-clause-id t c = one_of_two c.either-in-Implies.result c.opposite-in-Implies.new.store c.condition-in-Implies-2.new.store c.either-in-Implies.new.store c.in_ok-not_f-in-Implies.not_f c.in_ok-g-in-Implies.g
    (λ a. not (truth_of (tree c.deref-in-Implies.result.now) a)) (truth_of (tree c.deref-in-Implies-2.result.now)) (truth_of (tree c.args.form.now)) (λ x y. x || y)
    c.condition-in-Implies-2.ensures.keeps (one_same _ _ _ _ c.in_ok-not_f-in-Implies.ensures.id (λ a. ap not (c.in_ok-f-in-Implies.ensures.id.value a))) c.in_ok-g-in-Implies.ensures.id
    (λ a. rw (c.in-Implies.is, c.deref-in-Implies.ensures, c.deref-in-Implies-2.ensures) refl) c.either-in-Implies.ensures.id

pub returns-in_ok-g-in-Iff-clause-id : goal.returns-in_ok-g-in-Iff-clause-id
returns-in_ok-g-in-Iff-clause-id t c = one_of_two c.agreeing.result c.condition-in-Iff.new.store c.condition-in-Iff-2.new.store c.agreeing.new.store c.in_ok-f-in-Iff.f c.in_ok-g-in-Iff.g
    (truth_of (tree c.deref-in-Iff.result.now)) (truth_of (tree c.deref-in-Iff-2.result.now)) (truth_of (tree c.args.form.now)) agree
    c.condition-in-Iff-2.ensures.keeps c.in_ok-f-in-Iff.ensures.id c.in_ok-g-in-Iff.ensures.id
    (λ a. rw (c.in-Iff.is, c.deref-in-Iff.ensures, c.deref-in-Iff-2.ensures) refl) c.agreeing.ensures.id
