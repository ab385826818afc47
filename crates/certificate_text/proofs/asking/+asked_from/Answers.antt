use Rattle.std.proofs.Common.{arith, rules, ◌∙◌, sym, ◌+◌, ◌*◌, ◌≤◌, ◌≡◌, length, subst, ℕ, ◌-◌}
use Rattle.certificate_rules.specs.Cubes.{IsWhole}
use Rattle.certificate_text.specs.Lines.{levels_of, rows}
use Rattle.certificate_text.proofs.WholeLemmas.{long_enough}
use Rattle.certificate_text.proofs.AskingLemmas.{answer_free, answer_true, answer_settled, answer_open, answer_end, whole_below}
use Rattle.certificate_text.proofs.asking.+asked_from.Goals as goal

pub returns-then-depth-width : goal.returns-then-depth-width
returns-then-depth-width t c =
    c.passes.ensures ∙ answer_end c.args.question.now c.args.lines.now.targets.now (levels_of c.args.question.now.levels) c.args.depth c.args.lines.now.cubes.now c.args.from c.args.to _
    (c.if-depth-width.true ∙ c.width_of-width.ensures) c.requires.order c.requires.within c.requires.whole

pub fork-requires : goal.fork-requires
fork-requires t c =
    let W : ℕ → Type 0 = λ z. IsWhole (z - c.args.depth) (rows z c.args.depth c.args.lines.now.cubes.now c.args.from (c.args.to - c.args.from)) in
    let L : ℕ → Type 0 = λ z. c.args.to * z ≤ length c.args.lines.now.cubes.now in
    let long = long_enough (length (levels_of c.args.question.now.levels)) c.args.to (length c.args.lines.now.targets.now) c.args.lines.now.cubes.now c.requires.within c.requires.wide in
    record {
      depth = omega arith;
      order = c.requires.order;
      within = subst L (sym c.width_of-width.ensures) long;
      whole = subst W (sym c.width_of-width.ensures) c.requires.whole;
    }

pub asked_from-requires : goal.asked_from-requires
asked_from-requires t c = (
  search rules,
  (
    c.requires.few,
    (
      omega arith,
      (
        c.requires.order,
        (
          c.requires.within,
          (
            c.requires.wide,
            (
              whole_below (length (levels_of c.args.question.now.levels)) c.width_of-width.result c.args.depth c.args.lines.now.cubes.now c.args.from c.args.to c.width_of-width.ensures c.in-None.ensures.rest,
              (c.requires.targets, c.requires.values),
            ),
          ),
        ),
      ),
    ),
  ),
)

pub asked_from-requires-then-is_true : goal.asked_from-requires-then-is_true
asked_from-requires-then-is_true t c = (
  search rules,
  (
    c.requires.few,
    (
      omega arith,
      (
        c.in-Some.ensures.below,
        (
          c.requires.within,
          (
            c.requires.wide,
            (
              whole_below (length (levels_of c.args.question.now.levels)) c.width_of-width.result c.args.depth c.args.lines.now.cubes.now c.in-Some.middle c.args.to c.width_of-width.ensures c.in-Some.ensures.high,
              (c.requires.targets, c.requires.values),
            ),
          ),
        ),
      ),
    ),
  ),
)

pub asked_from-low-requires : goal.asked_from-low-requires
asked_from-low-requires t c = (
  search rules,
  (
    c.requires.few,
    (
      omega arith,
      (
        c.in-Some.ensures.above,
        (
          (let m = c.in-Some.ensures.below in omega arith),
          (
            c.requires.wide,
            (
              whole_below (length (levels_of c.args.question.now.levels)) c.width_of-width.result c.args.depth c.args.lines.now.cubes.now c.args.from c.in-Some.middle c.width_of-width.ensures c.in-Some.ensures.low,
              (c.requires.targets, c.requires.values),
            ),
          ),
        ),
      ),
    ),
  ),
)

pub asked_from-requires-in-Some : goal.asked_from-requires-in-Some
asked_from-requires-in-Some t c = (
  search rules,
  (
    c.requires.few,
    (
      omega arith,
      (
        c.in-Some.ensures.below,
        (
          c.requires.within,
          (
            c.requires.wide,
            (
              whole_below (length (levels_of c.args.question.now.levels)) c.width_of-width.result c.args.depth c.args.lines.now.cubes.now c.in-Some.middle c.args.to c.width_of-width.ensures c.in-Some.ensures.high,
              (c.requires.targets, c.requires.values),
            ),
          ),
        ),
      ),
    ),
  ),
)

pub returns-in-None : goal.returns-in-None
returns-in-None t c =
    answer_free c.args.question.now c.args.lines.now.targets.now (levels_of c.args.question.now.levels) c.args.depth c.args.lines.now.cubes.now c.args.from c.args.to
    c.width_of-width.result c.asked_from.result c.width_of-width.ensures (omega arith) c.in-None.ensures c.asked_from.ensures

pub returns-then-is_true : goal.returns-then-is_true
returns-then-is_true t c =
    answer_true c.args.question.now c.args.lines.now.targets.now (levels_of c.args.question.now.levels) c.args.depth c.args.lines.now.cubes.now c.args.from c.args.to c.in-Some.middle
    c.width_of-width.result c.level_at-level.result c.is_true.result c.asked_from-then-is_true.result c.width_of-width.ensures (omega arith) c.in-Some.ensures c.level_at-level.ensures
    c.is_true.ensures c.if-is_true.true c.asked_from-then-is_true.ensures

pub returns-then-is_settled : goal.returns-then-is_settled
returns-then-is_settled t c =
    answer_settled c.args.question.now c.args.lines.now.targets.now (levels_of c.args.question.now.levels) c.args.depth c.args.lines.now.cubes.now c.args.from c.args.to c.in-Some.middle
    c.width_of-width.result c.level_at-level.result c.is_settled.result c.asked_from-low.result c.width_of-width.ensures (omega arith) c.in-Some.ensures c.level_at-level.ensures
    c.is_settled.ensures c.if-is_settled.true c.asked_from-low.ensures

pub returns-else-is_settled : goal.returns-else-is_settled
returns-else-is_settled t c =
    answer_open c.args.question.now c.args.lines.now.targets.now (levels_of c.args.question.now.levels) c.args.depth c.args.lines.now.cubes.now c.args.from c.args.to c.in-Some.middle
    c.width_of-width.result c.level_at-level.result c.is_settled.result c.asked_from-low.result c.asked_from-in-Some.result c.width_of-width.ensures (omega arith) c.in-Some.ensures c.level_at-level.ensures
    c.is_settled.ensures c.if-is_settled.false c.asked_from-low.ensures c.asked_from-in-Some.ensures
