use Rattle.std.proofs.Common.{◌<◌, subst}
use Rattle.std.proofs.lemmas.Result.{IfOk-weaker}
use Rattle.automata.specs.Table.{size_of, moves_of}
use Rattle.products.proofs.StopLemmas.{idle_joins, join_turned}
use Rattle.products.proofs.joins.join.Goals as goal

pub returns-then-is_idle-clause-join : goal.returns-then-is_idle-clause-join
returns-then-is_idle-clause-join c =
    let a = c.args.a.now in
    let b = c.args.b.now in
    let ha : a.first < size_of a = subst (λ z. z < size_of a) c.first.ensures.first c.first.ensures.within in
    let hb : b.first < size_of b = subst (λ z. z < size_of b) c.first-2.ensures.first c.first-2.ensures.within in
    IfOk-weaker c.stopped.result _ _ (λ u i. idle_joins c.args.store.now c.stopped.new.store a b u c.stopped.ensures.keeps c.requires.a c.requires.b (c.is_idle.ensures c.if-is_idle.true) ha hb i) c.stopped.ensures.stopped

pub returns-then-is_idle-2-clause-join : goal.returns-then-is_idle-2-clause-join
returns-then-is_idle-2-clause-join c =
    let a = c.args.a.now in
    let b = c.args.b.now in
    let ha : a.first < size_of a = subst (λ z. z < size_of a) c.first.ensures.first c.first.ensures.within in
    let hb : b.first < size_of b = subst (λ z. z < size_of b) c.first-2.ensures.first c.first-2.ensures.within in
    let n = c.stopped-then-is_idle-2.new.store in
    IfOk-weaker c.stopped-then-is_idle-2.result _ _
    (λ u i. join_turned n.props (moves_of n b) (moves_of n a) (moves_of n u) (idle_joins c.args.store.now n b a u c.stopped-then-is_idle-2.ensures.keeps c.requires.b c.requires.a (c.is_idle-2.ensures c.if-is_idle-2.true) hb ha i))
    c.stopped-then-is_idle-2.ensures.stopped
