use Rattle.std.proofs.Common.{subst, ◌∙◌}
use Rattle.products.specs.Joining.{IsJoinRow}
use Rattle.products.proofs.JoiningLemmas.{joining_more}
use Rattle.products.proofs.joins.follow.Goals as goal

pub returns-clause-joining : goal.returns-clause-joining
returns-clause-joining c =
    rw (c.in_ok-push.ensures.items, c.in_ok-push-2.ensures.items)
    (joining_more c.args.store.now c.row_at.new.store c.args.a.now c.args.b.now c.args.joining.now.places.keys c.row_at.new.places.keys c.args.joining.now.marks.items c.args.joining.now.rows.items
    c.args.place c.greater_mark-mark.result c.in_ok-row.row c.row_at.ensures.keeps c.requires.a c.requires.b c.requires.joining c.requires.here
    c.in_ok-row.ensures.places c.in_ok-row.ensures.grows c.in_ok-row.ensures.within c.greater_mark-mark.ensures
    (subst (λ n. IsJoinRow c.row_at.new.store c.args.a.now c.args.b.now c.row_at.new.places.keys c.args.place n c.in_ok-row.row) (c.len-at.ensures ∙ c.args.joining.now.rows.ok.0) c.in_ok-row.ensures.row))
