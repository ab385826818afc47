-- A least automaton has no more locations than any other with its marks.
use Rattle.std.proofs.Common.{◌≢◌, ℕ, ◌<◌, ◌++◌, sym, ◌∙◌, ap, arith}
use Rattle.automata.specs.Moves.{location_after, mark_after}
use Rattle.minimise.specs.Minimal.{LeastIsSmallest}
use Rattle.automata.proofs.Words.{over-append, location_after-append, location_after-within}
use Rattle.minimise.proofs.Counts.{named}
use Rattle.automata.proofs.Pigeon.{no_more_than}

-- an automaton with the same marks after each word has no fewer locations than a least one
pub least_is_smallest : LeastIsSmallest
least_is_smallest p m n l c alike = no_more_than n.size m.size to small apart
  where
    to : ℕ → ℕ
    to i = location_after n n.first (named p m l i).word

    small : (i : ℕ) → i < m.size → to i < n.size
    small i h = location_after-within p n c n.first (named p m l i).word c.first (named p m l i).over

    apart : (i j : ℕ) → i < j → j < m.size → to i ≢ to j
    apart i j h k e =
        let x = named p m l i in
        let y = named p m l j in
        let i2 : i < m.size = omega (arith, h, k) in
        let t = l.apart i j i2 k (λ q. absurd (omega (arith, h, q))) in
        t.differ (
        ap (λ z. mark_after m z t.word) (sym (x.leads i2))
        ∙ ap m.mark (sym (location_after-append m m.first x.word t.word))
        ∙ alike (x.word ++ t.word) (over-append p x.word t.word x.over t.over)
        ∙ ap n.mark (location_after-append n n.first x.word t.word)
        ∙ ap (λ z. mark_after n z t.word) e
        ∙ ap n.mark (sym (location_after-append n n.first y.word t.word))
        ∙ sym (alike (y.word ++ t.word) (over-append p y.word t.word y.over t.over))
        ∙ ap m.mark (location_after-append m m.first y.word t.word)
        ∙ ap (λ z. mark_after m z t.word) (y.leads k))
