use Rattle.std.proofs.Common.{sym, arith}
use Rattle.std.proofs.lemmas.List.{take_all}
use Rattle.form_tokens.proofs.spelling.front.Goals as goal

pub returns-then-text-lt-LONGEST_WORD-clause-value : goal.returns-then-text-lt-LONGEST_WORD-clause-value
returns-then-text-lt-LONGEST_WORD-clause-value c = sym (take_all 64 c.args.text.now (omega arith))
