use Rattle.std.proofs.Common.{refl, inl, inr, rules, arith}
use Rattle.std.proofs.lemmas.Grind.{common_steps}
use Rattle.bes_io.specs.Forms.{SinkFails}
use Rattle.bes_io.proofs.memory_forms.MemSinkSink.put.Goals as goal
use Rattle.bes_io.proofs.memory_forms.MemSinkSink.put.Goals.{then-contains-via-then-contains, then-contains-via-else-contains+then-room-piece}

pub returns-then-contains-clause-exact : goal.returns-then-contains-clause-exact
returns-then-contains-clause-exact c = (
  λ _. elim c.then-contains.branch as (λ _. SinkFails c.args.self.now c.args.piece.now) [
    | then-contains-via-then-contains w ↦ inl (search rules)
    | then-contains-via-else-contains+then-room-piece w ↦ inr (search rules)
  ],
  λ _. refl,
)

pub returns-then-contains-clause-put : goal.returns-then-contains-clause-put
returns-then-contains-clause-put c =
    let fails = elim c.then-contains.branch as (λ _. SinkFails c.args.self.now c.args.piece.now) [
      | then-contains-via-then-contains w ↦ inl (search rules)
      | then-contains-via-else-contains+then-room-piece w ↦ inr (search rules)
    ] in
    inr (
      fails,
      record {
        bytes_now = grind (arith, common_steps);
        faults_now = search rules;
        calls = search rules;
        room = search rules;
        partly = search rules;
        fails = search rules;
      },
    )
