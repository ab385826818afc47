use Rattle.products.proofs.WalkLemmas.{all_paired_last_ok}
use Rattle.products.proofs.JoiningLemmas.{row_walked_ok}
use Rattle.products.proofs.joins.row_at.Goals as goal

pub returns-then-mark-eq1-clause-kept : goal.returns-then-mark-eq1-clause-kept
returns-then-mark-eq1-clause-kept c =
    all_paired_last_ok c.terminal.result c.args.store.now c.terminal.new.self c.args.places.now.keys c.args.places.now.keys c.args.memo.now c.terminal.ensures.keeps (λ i p e. e) c.requires.kept

pub returns-clause-row : goal.returns-clause-row
returns-clause-row c =
    row_walked_ok c.walked.result c.args.store.now c.walked.new.store c.args.a.now c.args.b.now c.walked.new.places.keys c.args.place c.args.at c.args.mark c.walked.ensures.keeps
    c.requires.a c.requires.b (c.requires.left, c.requires.right) c.requires.mark c.if-mark-eq1.false c.if-mark-eq3.false c.row.result c.row-2.result c.row.ensures c.row-2.ensures c.walked.ensures.id
