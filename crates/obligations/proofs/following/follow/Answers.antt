use Rattle.diagrams.proofs.Meaning.{Keeps_trans}
use Rattle.automata.proofs.Lasts.{fits_lasts}
use Rattle.obligations.specs.Followed.{wider_of}
use Rattle.obligations.proofs.Holds.{fits_cells_lasts}
use Rattle.obligations.proofs.Stands.{stands_after, wider_lasts}
use Rattle.obligations.proofs.following.follow.Goals as goal

pub returns-in_err-items-clause-cells : goal.returns-in_err-items-clause-cells
returns-in_err-items-clause-cells c = fits_cells_lasts c.append.new.store c.all_asked.new.store c.all_asked.ensures.keeps c.append.new.cells c.append.ensures.cells

pub set_bodies-requires-clause-fits : goal.set_bodies-requires-clause-fits
set_bodies-requires-clause-fits c = fits_lasts c.args.store.now c.all_asked.new.store (Keeps_trans _ _ _ c.append.ensures.keeps c.all_asked.ensures.keeps) c.args.automaton.now c.requires.fits

pub set_bodies-requires-clause-cells : goal.set_bodies-requires-clause-cells
set_bodies-requires-clause-cells c = fits_cells_lasts c.append.new.store c.all_asked.new.store c.all_asked.ensures.keeps c.append.new.cells c.append.ensures.cells

pub returns-clause-stands : goal.returns-clause-stands
returns-clause-stands c =
    let before = Keeps_trans _ _ _ c.append.ensures.keeps c.all_asked.ensures.keeps in
    let keeps = Keeps_trans _ _ _ before c.set_bodies.ensures.keeps in
    stands_after c.all_asked.new.store c.set_bodies.new.store c.append.new.cells c.set_bodies.new.cells c.args.automaton.now c.len-base.result (wider_of c.args.inclusions.now) c.in_ok-items.items.items
    (record {
      fits = fits_lasts c.args.store.now c.set_bodies.new.store keeps c.args.automaton.now c.requires.fits;
      keeps = c.set_bodies.ensures.keeps;
      ends = rw c.len-base.ensures.number c.in_ok-append.ensures.ends;
      others = c.set_bodies.ensures.others;
      asks = rw c.size.ensures.size at c.in_ok-items.ensures.asks;
      bodies = rw c.deref.ensures.value at c.in_ok-set_bodies.ensures.bodies;
    })
    (wider_lasts c.args.store.now c.set_bodies.new.store keeps c.args.automaton.now c.requires.fits (wider_of c.args.inclusions.now) c.requires.wider)
