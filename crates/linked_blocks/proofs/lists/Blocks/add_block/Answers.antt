use Rattle.std.proofs.Common.{◌≡◌, ◌<◌, ◌≤◌, ◌+◌, ◌*◌, ◌^◌, [], ◌∷◌, ◌++◌, arith, refl, sym, ◌∙◌, ap, rules, length, map, add-one}
use Rattle.std.specs.Prelude.{slice_index, slice_get}
use Rattle.std.specs.List.{range_with_len}
use Rattle.std.proofs.lemmas.List.{length-set, length-replicate}
use Rattle.linked_blocks.specs.Links.{list_at}
use Rattle.linked_blocks.proofs.FieldLemmas as field
use Rattle.linked_blocks.proofs.lists.Blocks.add_block.Goals as goal

pub begin_ring-requires-clause-next : goal.begin_ring-requires-clause-next
begin_ring-requires-clause-next c =
    let u = field.used_small c.self.inside c.args.self.now c.self.view_is c.self.invariant c.requires in
    let i = c.self.invariant.next in
    omega (arith, u, i, c.len.ensures, c.self.inside.block.ok.0)

pub begin_ring-requires-clause-prev : goal.begin_ring-requires-clause-prev
begin_ring-requires-clause-prev c =
    let u = field.used_small c.self.inside c.args.self.now c.self.view_is c.self.invariant c.requires in
    let i = c.self.invariant.prev in
    omega (arith, u, i, c.len.ensures, c.self.inside.block.ok.0)

pub begin_ring-requires-clause-count : goal.begin_ring-requires-clause-count
begin_ring-requires-clause-count c =
    let u = field.used_small c.self.inside c.args.self.now c.self.view_is c.self.invariant c.requires in
    let i = c.self.invariant.counts in
    omega (arith, u, i)

pub overflow_add-self : goal.overflow_add-self
overflow_add-self c =
    let u = field.used_small c.self.inside c.args.self.now c.self.view_is c.self.invariant c.requires in
    let i = c.self.invariant.small in
    let h : c.self.inside.used + 1 < 2 ^ 32 = omega (arith, u, i) in
    search (rules, h)

pub invariant_of-self : goal.invariant_of-self
invariant_of-self c =
    let a = c.self.inside in
    let i = c.self.invariant in
    let u = field.used_small c.self.inside c.args.self.now c.self.view_is c.self.invariant c.requires in
    let n = c.begin_ring.new in
    record {
      size = i.size;
      small = i.small;
      next = ap length c.begin_ring.ensures.next ∙ length-set a.next.items (c.len.result + a.used) (c.len.result + a.used) ∙ i.next;
      prev = ap length c.begin_ring.ensures.prev ∙ length-set a.prev.items (c.len.result + a.used) (c.len.result + a.used) ∙ i.prev;
      counts = ap length c.begin_ring.ensures.count ∙ length-set a.count.items a.used 0 ∙ i.counts;
      few = omega (arith, u);
      goes = field.added (length a.block.items) a.used (c.len.result + a.used) a.block.items a.next.items a.prev.items a.count.items n.next.items n.prev.items n.count.items (list_at a) i.goes refl i.next i.prev i.counts u
          (ap (λ z. z + a.used) (c.len.ensures ∙ a.block.ok.0)) c.begin_ring.ensures.next c.begin_ring.ensures.prev c.begin_ring.ensures.count;
    }

pub returns-clause-number : goal.returns-clause-number
returns-clause-number c = sym (field.number-is c.self.inside c.args.self.now c.self.view_is c.self.invariant)

pub returns-clause-lists : goal.returns-clause-lists
returns-clause-lists c =
    let a = c.self.inside in
    let i = c.self.invariant in
    let u = field.used_small c.self.inside c.args.self.now c.self.view_is c.self.invariant c.requires in
    let n = c.begin_ring.new in
    field.lists-added (length a.block.items) a.used (c.len.result + a.used) a.block.items a.next.items a.prev.items a.count.items n.next.items n.prev.items n.count.items (list_at a) i.goes refl i.next i.prev i.counts u
    (ap (λ z. z + a.used) (c.len.ensures ∙ a.block.ok.0)) c.begin_ring.ensures.next c.begin_ring.ensures.prev c.begin_ring.ensures.count
    ∙ ap (λ z. z ++ [] ∷ []) (field.lists-is c.self.inside c.args.self.now c.self.view_is c.self.invariant)
