use Rattle.std.proofs.Common.{arith, ◌∙◌, sym, ap, ◌-◌, ℕ}
use Rattle.certificate_text.specs.Lines.{way_level}
use Rattle.certificate_text.proofs.LevelLemmas.{length-levels_of, level_in_front, level_in_middle, level_in_back}
use Rattle.certificate_text.proofs.asking.level_at.Goals as goal

pub returns-then-depth-front : goal.returns-then-depth-front
returns-then-depth-front c = c.character_level.ensures ∙ level_in_front c.args.levels.now c.args.depth (omega arith)

pub returns-then-past-middle : goal.returns-then-past-middle
returns-then-past-middle c = c.way_level.ensures ∙ level_in_middle c.args.levels.now c.args.depth (omega arith) (omega arith)

pub returns : goal.returns
returns c = c.way_level-2.ensures ∙ level_in_back c.args.levels.now c.args.depth (omega arith) (omega arith) c.requires.depth

pub way_level-requires : goal.way_level-requires
way_level-requires c = omega (arith, length-levels_of c.args.levels.now)

pub overflow_sub-levels : goal.overflow_sub-levels
overflow_sub-levels c = omega (arith, length-levels_of c.args.levels.now)

pub overflow_sub-levels-2 : goal.overflow_sub-levels-2
overflow_sub-levels-2 c = omega (arith, length-levels_of c.args.levels.now)

pub way_level-requires-2 : goal.way_level-requires-2
way_level-requires-2 c = omega (arith, length-levels_of c.args.levels.now)
