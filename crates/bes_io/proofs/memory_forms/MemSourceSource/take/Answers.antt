use Rattle.std.proofs.Common.{◌≤◌, length, drop, ap, arith, Some, rules, inl}
use Rattle.std.proofs.lemmas.Grind.{common_steps}
use Rattle.std.proofs.lemmas.List.{nil_from_length}
use Rattle.bes_io.proofs.Taking.{copied}
use Rattle.bes_io.proofs.memory_forms.MemSourceSource.take.Goals as goal

pub returns-clause-bytes : goal.returns-clause-bytes
returns-clause-bytes c =
    let le : c.min-n.result ≤ length (drop c.self.inside.at c.self.inside.bytes.items) = grind (arith, common_steps) in
    rw (← c.self.view_is) (
      ap Some (copied c.self.inside.bytes.items c.args.into.now _ c.self.inside.at c.min-n.result (grind (arith, common_steps)) le),
      λ zero rest e. nil_from_length rest (grind (arith, common_steps)),
    )

pub returns-clause-taken : goal.returns-clause-taken
returns-clause-taken c =
    inl (
      search rules,
      grind (arith, common_steps),
      record {
        rest_now = grind (arith, common_steps);
        faults_now = search rules;
        calls = search rules;
        piece = search rules;
        fails = search rules;
      },
    )
