-- One name more is added.
use Rattle.std.proofs.Common.{◌∙◌}
use Rattle.spec_lines.specs.Values.{words_of}
use Rattle.spec_reader.proofs.NameCounts.{names_fault-step, names-step}
use Rattle.spec_reader.proofs.checking.add_names.Goals as goal

pub loop-word-preserved : goal.loop-word-preserved
loop-word-preserved c =
    let w = c.in-Some.word.now in
    let words = words_of c.in-Some.later.now in
    record {
      told = c.loop-word.invariant.told ∙ names_fault-step c.args.line c.loop-word.names.names c.add.new.self.names w words _ c.in-Some.ensures.words c.in-Ok.ensures.ok c.in-Ok.ensures.added;
      added = names-step c.loop-word.names.names c.add.new.self.names w words _ _ c.in-Some.ensures.words c.in-Ok.ensures.added c.loop-word.invariant.added;
    }
