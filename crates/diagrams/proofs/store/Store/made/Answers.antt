use Rattle.std.proofs.Common.{◌≡◌, ◌∙◌, ◌+◌, ◌<◌, ap, sym, subst, arith, refl, length, Some}
use Rattle.std.specs.Vec.{with_items}
use Rattle.std.proofs.lemmas.List.{length-map, with_items_is}
use Rattle.diagrams.specs.declared.top.Id.{Id}
use Rattle.diagrams.specs.Branch.{IsFit}
use Rattle.diagrams.specs.Eval.{Diagrams, top_of}
use Rattle.diagrams.specs.Live.{IsLive}
use Rattle.diagrams.specs.Inside.{store_of}
use Rattle.unique_table.specs.Slots.{keys}
use Rattle.diagrams.proofs.Keys.{first_read, fit_small, found_is, not_found, all_live, reused, Grows}
use Rattle.diagrams.proofs.store.Store.made.Goals as goal
use Rattle.diagrams.proofs.store.Store.made.Goals.{After-self-then-first_free-ne0-2-1}

pub key_read-key-requires : goal.key_read-key-requires
key_read-key-requires c =
    let f : IsFit (store_of c.self.inside) c.args.top = rw c.self.view_is c.requires in
    fit_small c.self.inside.props (keys c.self.inside.slots.items) c.args.top (omega (arith, c.self.invariant.linked.few, length-map c.self.inside.slots.items (λ s. s.key))) f

pub returns-in-Some-clause-id : goal.returns-in-Some-clause-id
returns-in-Some-clause-id c =
    let f : IsFit (store_of c.self.inside) c.args.top = rw c.self.view_is c.requires in
    let e = c.deref.ensures.value in
    let found = rw e at c.in-Some.ensures in
    rw (← c.self.view_is) (found_is c.self.inside c.in-Some.found c.args.top c.key_read-key.result f c.key_read-key.ensures found.0 found.1)

all : (c : After-self-then-first_free-ne0-2-1) → Grows c.self.inside (record { alloc = c.self.inside.alloc; props = c.self.inside.props; slots = with_items c.self.inside.slots c.reuse-free.new.slots; heads = with_items c.self.inside.heads c.reuse-free.new.heads; live = c.self.inside.live + 1 }) c.args.top c.reuse-free.result
all c =
    let f : IsFit (store_of c.self.inside) c.args.top = rw c.self.view_is c.requires in
    let e = c.deref.ensures.value in
    let m = c.deref_mut.ensures.value in
    let none = rw e at c.in_default.ensures in
    let w : (with_items c.self.inside.slots c.reuse-free.new.slots).items ≡ c.reuse-free.new.slots =
    with_items_is c.self.inside.slots c.reuse-free.new.slots (omega (arith, c.reuse-free.auto.slots, ap length m, c.self.inside.slots.ok.0)) in
    let h : (with_items c.self.inside.heads c.reuse-free.new.heads).items ≡ c.reuse-free.new.heads =
    with_items_is c.self.inside.heads c.reuse-free.new.heads (omega (arith, c.reuse-free.auto.heads, ap length c.deref_mut-then-first_free-ne0.ensures.value, c.self.inside.heads.ok.0)) in
    let kk = rw m at c.reuse-free.ensures.keys in
    reused c.self.inside (record { alloc = c.self.inside.alloc; props = c.self.inside.props; slots = with_items c.self.inside.slots c.reuse-free.new.slots; heads = with_items c.self.inside.heads c.reuse-free.new.heads; live = c.self.inside.live + 1 })
    c.args.top c.reuse-free.result c.key_read-key.result c.self.invariant f (not_found c.self.inside c.args.top c.key_read-key.result c.key_read-key.ensures none) c.key_read-key.ensures
    (rw m at c.reuse-free.ensures.within) (rw m at c.reuse-free.ensures.was_free) (ap keys w ∙ kk) refl (rw (w, h) c.reuse-free.ensures.linked) refl

pub invariant_of-self : goal.invariant_of-self
invariant_of-self c = (all c).kept

pub returns-then-first_free-ne0-clause-keeps : goal.returns-then-first_free-ne0-clause-keeps
returns-then-first_free-ne0-clause-keeps c = rw (← c.self.view_is) (record { was = c.self.invariant.canonical; now = (all c).kept.canonical; extends = (all c).extends })

pub returns-then-first_free-ne0-clause-id : goal.returns-then-first_free-ne0-clause-id
returns-then-first_free-ne0-clause-id c = (all c).at

pub pushed-requires-clause-lacking : goal.pushed-requires-clause-lacking
pushed-requires-clause-lacking c =
    let none = rw c.deref.ensures.value at c.in_default.ensures in
    let F : Diagrams → Type 0 = (λ s. (j : Id) → top_of s j ≡ Some c.args.top → ⊥) in
    subst F (c.self.view_is ∙ sym c.make_room.ensures) (not_found c.self.inside c.args.top c.key_read-key.result c.key_read-key.ensures none)

pub pushed-requires-clause-full : goal.pushed-requires-clause-full
pushed-requires-clause-full c =
    let F : Diagrams → Type 0 = (λ s. (i : Id) → i.0 < length s.tops → IsLive s i) in
    let z = first_read c.self.inside.heads.items c.index-first_free.result.now (omega (arith, c.self.invariant.linked.size)) c.index-first_free.ensures in
    subst F (c.self.view_is ∙ sym c.make_room.ensures) (all_live c.self.inside c.self.invariant (z ∙ c.if-first_free-ne0.false))

pub returns-then-first_free-ne0-clause-fills : goal.returns-then-first_free-ne0-clause-fills
returns-then-first_free-ne0-clause-fills c = rw (← c.self.view_is) (all c).fills
