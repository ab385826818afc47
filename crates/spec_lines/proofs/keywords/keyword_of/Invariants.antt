-- The keys before the index have another word.
use Rattle.std.proofs.Common.{◌≡◌, drop}
use Rattle.spec_lines.specs.Keywords.{keywords, keyword_among, keyword_of}
use Rattle.spec_lines.proofs.keywords.keyword_of.Given as goal

abbrev pub invariant-loop-keyword : goal.invariant-loop-keyword
invariant-loop-keyword l = keyword_of l.word ≡ keyword_among (drop l.keyword-index keywords) l.word
