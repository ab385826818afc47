use Rattle.std.proofs.Common.{◌≡◌, ◌+◌, ◌<◌, ap, sym, subst, arith, refl, length, Some}
use Rattle.std.specs.Vec.{with_items}
use Rattle.std.proofs.lemmas.List.{length-map, with_items_is}
use Rattle.diagrams.specs.declared.top.Id.{Id}
use Rattle.diagrams.specs.Branch.{IsFit}
use Rattle.diagrams.specs.Eval.{Diagrams, top_of}
use Rattle.diagrams.specs.Live.{IsLive}
use Rattle.diagrams.specs.Inside.{store_of}
use Rattle.unique_table.specs.Slots.{keys}
use Rattle.diagrams.proofs.Keys.{fit_small, pushed_on, Grows}
use Rattle.diagrams.proofs.store.Store.pushed.Goals as goal
use Rattle.diagrams.proofs.store.Store.pushed.Goals.{After-self-2-1}

pub key_read-requires : goal.key_read-requires
key_read-requires c =
    let f : IsFit (store_of c.self.inside) c.args.top = rw c.self.view_is c.requires.fit in
    fit_small c.self.inside.props (keys c.self.inside.slots.items) c.args.top (omega (arith, c.self.invariant.linked.few, length-map c.self.inside.slots.items (λ s. s.key))) f

all : (c : After-self-2-1) → Grows c.self.inside (record { alloc = c.self.inside.alloc; props = c.self.inside.props; slots = c.push.new.slots; heads = with_items c.self.inside.heads c.push.new.heads; live = c.self.inside.live + 1 }) c.args.top c.in_ok-id.id
all c =
    let h : (with_items c.self.inside.heads c.push.new.heads).items ≡ c.push.new.heads =
    with_items_is c.self.inside.heads c.push.new.heads (omega (arith, c.push.auto.heads, ap length c.deref_mut.ensures.value, c.self.inside.heads.ok.0)) in
    let f : IsFit (store_of c.self.inside) c.args.top = rw c.self.view_is c.requires.fit in
    let new : (j : Id) → top_of (store_of c.self.inside) j ≡ Some c.args.top → ⊥ = rw c.self.view_is c.requires.lacking in
    let F : Diagrams → Type 0 = (λ s. (i : Id) → i.0 < length s.tops → IsLive s i) in
    let full : F (store_of c.self.inside) = subst F (sym c.self.view_is) c.requires.full in
    pushed_on c.self.inside (record { alloc = c.self.inside.alloc; props = c.self.inside.props; slots = c.push.new.slots; heads = with_items c.self.inside.heads c.push.new.heads; live = c.self.inside.live + 1 })
    c.args.top c.in_ok-id.id c.key_read.result c.self.invariant f new full c.key_read.ensures c.in_ok-id.ensures.slot c.in_ok-id.ensures.keys refl (rw h c.push.ensures.linked) refl

pub invariant_of-self-2 : goal.invariant_of-self-2
invariant_of-self-2 c = (all c).kept

pub returns-clause-keeps : goal.returns-clause-keeps
returns-clause-keeps c = rw (← c.self.view_is) (record { was = c.self.invariant.canonical; now = (all c).kept.canonical; extends = (all c).extends })

pub returns-clause-id : goal.returns-clause-id
returns-clause-id c = (all c).at

pub returns-clause-fills : goal.returns-clause-fills
returns-clause-fills c = rw (← c.self.view_is) (all c).fills
