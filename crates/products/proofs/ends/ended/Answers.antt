use Rattle.std.proofs.Common.{◌≡◌, ◌∙◌, subst, arith}
use Rattle.diagrams.specs.Live.{Means}
use Rattle.automata.specs.Table.{size_of}
use Rattle.automata.proofs.Lasts.{fits_lasts}
use Rattle.products.specs.Ends.{AreEnded}
use Rattle.products.proofs.EndLemmas.{ended_fits}
use Rattle.products.proofs.ends.ended.Goals as goal

pub returns-clause-fits : goal.returns-clause-fits
returns-clause-fits c =
    let t = c.args.automaton.now in
    let full : AreEnded t c.in_ok-past.past c.loop-at.marks.items c.loop-at.rows.items (size_of t) =
    let e : c.loop-at.at ≡ size_of t = omega (arith, c.loop-at-test.false, c.size-size.ensures.size) in
    subst (AreEnded t c.in_ok-past.past c.loop-at.marks.items c.loop-at.rows.items) e c.loop-at.invariant in
    let m : Means c.terminal.new.self c.in_ok-past.past (λ _. size_of t) = subst (λ n. Means c.terminal.new.self c.in_ok-past.past (λ _. n)) c.size-size.ensures.size c.in_ok-past.ensures.id in
    ended_fits c.terminal.new.self t c.new.result c.in_ok-past.past c.loop-at.marks.items c.loop-at.rows.items (fits_lasts c.args.store.now c.terminal.new.self c.in_ok-past.ensures.keeps t c.requires) m full
    (c.new.ensures.rows ∙ c.in_ok-push-4.ensures.items)
