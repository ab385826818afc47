-- The keys that were passed over have another word.
use Rattle.std.proofs.Common.{sym, ◌∙◌}
use Rattle.spec_lines.specs.Keywords.{keywords}
use Rattle.spec_lines.specs.declared.keywords.Keyword.TheVariants.{Version}
use Rattle.spec_lines.proofs.KeywordLemmas.{keyword_among-other, keyword_among-here, keyword_among-end}
use Rattle.spec_lines.proofs.keywords.keyword_of.Goals as goal

pub loop-keyword-preserved : goal.loop-keyword-preserved
unfolding keywords
loop-keyword-preserved c =
    c.loop-keyword.invariant
    ∙ keyword_among-other keywords c.loop-keyword.keyword-index c.args.word.now _ Version c.loop-keyword-test.true c.word.ensures (sym c.eq.ensures ∙ c.if-eq.false)

pub returns-then-eq : goal.returns-then-eq
unfolding keywords
returns-then-eq c =
    sym (c.loop-keyword.invariant
    ∙ keyword_among-here keywords c.loop-keyword.keyword-index c.args.word.now _ Version c.loop-keyword-test.true c.word.ensures (sym c.eq.ensures ∙ c.if-eq.true))

pub returns : goal.returns
unfolding keywords
returns c = sym (c.loop-keyword.invariant ∙ keyword_among-end keywords c.loop-keyword.keyword-index c.args.word.now c.loop-keyword-test.false)
