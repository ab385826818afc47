use Rattle.std.proofs.Common.{◌<◌, length, arith, refl}
use Rattle.diagrams.specs.Transformed.{same_id}
use Rattle.diagrams.proofs.Kept.{kept_none}
use Rattle.diagrams.proofs.Meaning.{Keeps_refl}
use Rattle.automata.specs.Table.{size_of}
use Rattle.automata.proofs.Lasts.{fits_lasts}
use Rattle.obligations.specs.Entered.{IsEntered}
use Rattle.obligations.proofs.Holds.{fits_cells_lasts}
use Rattle.obligations.proofs.Cuts.{claims_last}
use Rattle.obligations.proofs.Entering.{claims_later}
use Rattle.obligations.proofs.Stands.{setting_next}
use Rattle.obligations.proofs.following.set_bodies.Goals as goal

pub loop-at-init : goal.loop-at-init
loop-at-init c = record {
  setting = record {
    keeps = Keeps_refl c.args.store.now c.props.ensures.canonical;
    fits = c.requires.cells;
    others = record { number = refl; ends = λ j. refl; before = λ j h. refl };
    bodies = λ at h. absurd (omega (arith, h));
  };
  right = kept_none same_id (IsEntered c.args.store.now c.args.items.now) c.new-memo.result c.new-memo.ensures;
}

pub entered-requires-clause-f : goal.entered-requires-clause-f
entered-requires-clause-f c =
    let h : c.loop-at.at < size_of c.args.automaton.now = omega arith in
    rw (c.row.ensures, c.requires.each) (fits_lasts c.args.store.now c.loop-at.store c.loop-at.invariant.setting.keeps c.args.automaton.now c.requires.fits c.loop-at.at h)

pub entered-requires-clause-items : goal.entered-requires-clause-items
entered-requires-clause-items c =
    claims_later c.loop-at.store (length c.args.cells.now) c.args.items.now
    (claims_last c.args.store.now c.loop-at.store c.loop-at.invariant.setting.keeps (length c.args.cells.now) c.args.items.now c.requires.items)

pub returns-in_err-body-clause-cells : goal.returns-in_err-body-clause-cells
returns-in_err-body-clause-cells c = fits_cells_lasts c.loop-at.store c.entered.new.store c.entered.ensures.keeps c.loop-at.cells c.loop-at.invariant.setting.fits

pub loop-at-preserved : goal.loop-at-preserved
loop-at-preserved c =
    let h : c.loop-at.at < size_of c.args.automaton.now = omega arith in
    record {
      setting = rw c.set.ensures
          (setting_next c.args.store.now c.loop-at.store c.entered.new.store c.args.cells.now c.loop-at.cells c.args.automaton.now c.args.base c.args.items.now c.loop-at.at c.in_ok-body.body c.loop-at.invariant.setting
          c.entered.ensures.keeps c.requires.fits c.requires.each c.requires.count h c.requires.items
          (claims_last c.args.store.now c.loop-at.store c.loop-at.invariant.setting.keeps (length c.args.cells.now) c.args.items.now c.requires.items)
          (rw c.row.ensures at c.in_ok-body.ensures.body));
      right = c.entered.ensures.right;
    }
