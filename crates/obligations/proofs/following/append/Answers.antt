use Rattle.obligations.proofs.Holds.{fits_cells_lasts}
use Rattle.obligations.proofs.Stands.{from_refl, ends_none}
use Rattle.obligations.proofs.following.append.Goals as goal

pub returns-in_err-never-clause-cells : goal.returns-in_err-never-clause-cells
returns-in_err-never-clause-cells c = fits_cells_lasts c.args.store.now c.terminal.new.self c.terminal.ensures.keeps c.args.cells.now c.requires.cells

pub loop-at-init : goal.loop-at-init
loop-at-init c = record {
  fits = fits_cells_lasts c.args.store.now c.terminal.new.self c.terminal.ensures.keeps c.args.cells.now c.requires.cells;
  grows = from_refl 0 c.args.cells.now;
  ends = ends_none c.args.cells.now c.args.automaton.now;
}
