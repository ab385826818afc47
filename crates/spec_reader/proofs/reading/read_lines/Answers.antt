-- The parts that are read make the specification of the lines.
use Rattle.std.proofs.Common.{◌≡◌, ap, ◌∙◌, map, None}
use Rattle.std.specs.Option.{option_map}
use Rattle.forms.specs.Tree.{tree}
use Rattle.spec_lines.specs.Lines.{shown}
use Rattle.spec_lines.specs.Keywords.{lines_with}
use Rattle.spec_lines.specs.declared.keywords.Keyword.TheVariants as key
use Rattle.spec_reader.proofs.ReadLemmas.{sides-valid, table-said, read-AreLinesOf, forms_fault-same, later-none, goal-there}
use Rattle.spec_reader.proofs.reading.read_lines.Goals as goal

pub named_sides-requires : goal.named_sides-requires
named_sides-requires c = sides-valid c.args.heading (map shown c.args.lines.now) c.in_ok-sides.sides.first c.in_ok-sides.sides.inputs.now c.in_ok-sides.sides.outputs.now c.requires.good c.in_ok-sides.ensures.sides

pub returns : goal.returns
returns c =
    let ls = map shown c.args.lines.now in
    let s = c.in_ok-sides.sides in
    let d = c.said_dialect-dialect.result in
    let n0 = c.in_ok-names.names in
    let table = table-said ls s.first s.inputs.now s.outputs.now n0 c.in_ok-names.partition c.in_ok-sides.ensures.sides c.in_ok-names.ensures.named c.in_ok-names.ensures.closed in
    let one = c.in_ok-assume.ensures.names in
    let two = c.in_ok-goal.ensures.names in
    let three = c.in_ok-duty.ensures.names in
    record {
      found = read-AreLinesOf c.args.heading ls s.first s.inputs.now s.outputs.now n0 c.read_conjunction.new.names c.read_conjunction-2.new.names c.read_conjunction-3.new.names c.in_ok-names.partition d (option_map tree c.in_ok-assume.assume) (option_map tree c.in_ok-goal.goal) (option_map tree c.in_ok-duty.duty) (tree c.in_ok-goal-2.goal) c.said_limit.result c.said_empty.result c.requires.heading c.requires.good c.in_ok-sides.ensures.ok c.in_ok-sides.ensures.sides c.in_ok-names.ensures.named c.in_ok-names.ensures.closed one two three c.said_dialect-dialect.ensures c.in_ok-assume.ensures.found c.in_ok-goal.ensures.found (ap (option_map tree) c.in_ok-goal-2.ensures.ok_part) c.in_ok-duty.ensures.found c.said_limit.ensures c.said_empty.ensures;
      closed = ap (λ n. n.closed) (three ∙ two ∙ one) ∙ c.in_ok-names.ensures.closed;
      ok = later-none ls d n0 c.said_dialect-dialect.ensures table c.in_ok-sides.ensures.ok c.in_ok-assume.ensures.ok (forms_fault-same d c.read_conjunction.new.names n0 (lines_with key.Goal ls) None one c.in_ok-goal.ensures.ok) (forms_fault-same d c.read_conjunction-2.new.names n0 (lines_with key.Duty ls) None (two ∙ one) c.in_ok-duty.ensures.ok);
      fault = tt;
    }

pub returns-in_err-goal-2-clause-fault : goal.returns-in_err-goal-2-clause-fault
returns-in_err-goal-2-clause-fault c =
    let ls = map shown c.args.lines.now in
    let s = c.in_ok-sides.sides in
    let table = table-said ls s.first s.inputs.now s.outputs.now c.in_ok-names.names c.in_ok-names.partition c.in_ok-sides.ensures.sides c.in_ok-names.ensures.named c.in_ok-names.ensures.closed in
    let none : c.in_ok-goal.goal ≡ None = c.in_err-goal-2.ensures.ok_part in
    absurd (goal-there ls c.said_dialect-dialect.result c.read_conjunction.new.names c.said_dialect-dialect.ensures (c.in_ok-assume.ensures.names ∙ table) c.in_ok-sides.ensures.ok (rw none at c.in_ok-goal.ensures.found))
