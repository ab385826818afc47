use Rattle.std.proofs.Common.{◌≡◌, ◌<◌, ℕ, ap, arith, length}
use Rattle.std.specs.Vec.{with_items}
use Rattle.std.proofs.lemmas.List.{length-map, with_items_is}
use Rattle.diagrams.specs.Eval.{id_at}
use Rattle.diagrams.specs.Live.{IsLive}
use Rattle.diagrams.specs.Inside.{store_of}
use Rattle.unique_table.specs.Slots.{keys}
use Rattle.unique_table.specs.Marks.{IsSeen}
use Rattle.diagrams.proofs.Keys.{live_in}
use Rattle.diagrams.proofs.Sweeping.{swept, are_within}
use Rattle.diagrams.proofs.store.Store.sweep.Goals as goal
use Rattle.diagrams.proofs.store.Store.sweep.Goals.{After-self-3-1}
use Rattle.diagrams.specs.Inside.{of_keys}
use Rattle.diagrams.specs.Swept.{IsSwept}

pub sweep_slots-self-inside-requires-clause-roots : goal.sweep_slots-self-inside-requires-clause-roots
sweep_slots-self-inside-requires-clause-roots c =
    let lives : (k : ℕ) → k < length c.args.roots.now → IsLive (store_of c.self.inside) (id_at c.args.roots.now k) = rw c.self.view_is c.requires in
    λ k h. omega (arith, live_in c.self.inside.props (keys c.self.inside.slots.items) (id_at c.args.roots.now k) (lives k h), length-map c.self.inside.slots.items (λ s. s.key), ap length c.deref_mut.ensures.value)

pub sweep_slots-self-inside-requires-clause-within : goal.sweep_slots-self-inside-requires-clause-within
sweep_slots-self-inside-requires-clause-within c = rw c.deref_mut.ensures.value (are_within c.self.inside.props (keys c.self.inside.slots.items) c.self.invariant.canonical)

slots_same : (c : After-self-3-1) → (with_items c.self.inside.slots c.sweep_slots-self-inside.new.slots).items ≡ c.sweep_slots-self-inside.new.slots
slots_same c = with_items_is c.self.inside.slots c.sweep_slots-self-inside.new.slots (omega (arith, c.sweep_slots-self-inside.auto.slots, ap length c.deref_mut.ensures.value, c.self.inside.slots.ok.0))

heads_same : (c : After-self-3-1) → (with_items c.self.inside.heads c.sweep_slots-self-inside.new.heads).items ≡ c.sweep_slots-self-inside.new.heads
heads_same c = with_items_is c.self.inside.heads c.sweep_slots-self-inside.new.heads (omega (arith, c.sweep_slots-self-inside.auto.heads, ap length c.deref_mut-2.ensures.value, c.self.inside.heads.ok.0))

done : (c : After-self-3-1) → IsSwept (store_of c.self.inside) (of_keys c.self.inside.props (keys (with_items c.self.inside.slots c.sweep_slots-self-inside.new.slots).items)) c.args.roots.now
done c =
    let lives : (k : ℕ) → k < length c.args.roots.now → IsLive (store_of c.self.inside) (id_at c.args.roots.now k) = rw c.self.view_is c.requires in
    let r = rw c.deref_mut.ensures.value at c.sweep_slots-self-inside.ensures.frees in
    rw (slots_same c) (swept c.self.inside.props (keys c.self.inside.slots.items) (keys c.sweep_slots-self-inside.new.slots) c.args.roots.now (IsSeen r.marks) c.self.invariant.canonical r.frees lives)

pub invariant_of-self : goal.invariant_of-self
invariant_of-self c = record {
  few = c.self.invariant.few;
  canonical = (done c).now;
  linked = rw (slots_same c, heads_same c) c.sweep_slots-self-inside.ensures.linked;
  live = rw (slots_same c) c.sweep_slots-self-inside.ensures.count;
}

pub returns : goal.returns
returns c = rw (← c.self.view_is) (done c)
