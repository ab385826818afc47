-- The value of the first line with the key.
use Rattle.std.proofs.Common.{◌+◌, map, drop, sym, ap, ◌∙◌}
use Rattle.std.proofs.lemmas.List.{drop_all}
use Rattle.spec_lines.specs.Lines.{shown}
use Rattle.spec_lines.specs.Keywords.{values_of}
use Rattle.spec_reader.proofs.FormulaLemmas.{values, lines-other, lines-here}
use Rattle.spec_reader.proofs.reading.value_of.Goals as goal

pub loop-line-preserved : goal.loop-line-preserved
loop-line-preserved c =
    c.loop-line.invariant
    ∙ ap values (lines-other c.args.keyword c.args.lines.now c.loop-line.line-index c.line-item.result c.word-word.result.now c.loop-line-test.true c.line-item.is c.word-word.ensures (sym c.eq.ensures ∙ c.if-eq.false))

pub returns-then-eq : goal.returns-then-eq
returns-then-eq c = (
  values_of c.args.keyword (map shown (drop (c.loop-line.line-index + 1) c.args.lines.now)),
  c.loop-line.invariant
      ∙ ap values (lines-here c.args.keyword c.args.lines.now c.loop-line.line-index c.line-item.result c.word-word.result.now c.loop-line-test.true c.line-item.is c.word-word.ensures (sym c.eq.ensures ∙ c.if-eq.true)),
)

pub returns : goal.returns
returns c = c.loop-line.invariant ∙ ap (λ lines. values_of c.args.keyword (map shown lines)) (drop_all c.loop-line.line-index c.args.lines.now c.loop-line-test.false)
