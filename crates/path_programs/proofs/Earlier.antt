-- Obligations that were there keep their value as the store and the table go on.
use Rattle.std.proofs.Common.{◌≡◌, ℕ, ◌<◌, List, [], ◌∷◌, length, refl, ◌∙◌, ap, arith}
use Rattle.std.specs.Prelude.{◌==◌}
use Rattle.diagrams.specs.Tree.{Assignment}
use Rattle.diagrams.specs.Eval.{Diagrams, eval}
use Rattle.obligations.specs.declared.cells.Obligation.{Obligation}
use Rattle.obligations.specs.Value.{joint, cell, FitsCells}
use Rattle.obligations.specs.Followed.{GoesOn}
use Rattle.obligations.proofs.Holds.{cell-lasts, fits_cells_lasts, joint-same}
use Rattle.path_programs.specs.Growth.{HasGrown}

-- the value of an obligation in a table that goes on
pub cell-before : (s : Diagrams) (c d : List Obligation) → FitsCells s c → GoesOn c d → (word : List ℕ) (j : ℕ) → j < length c → cell s d word j ≡ cell s c word j
cell-before s c d f a [] j h = ap (λ o. o.ends) (a.same j (omega arith) h)
cell-before s c d f a (letter ∷ word) j h =
    let old : Assignment = joint s.props letter (cell s c word) in
    let new : Assignment = joint s.props letter (cell s d word) in
    ap (λ o. eval s o.body new == 1) (a.same j (omega arith) h)
    ∙ ap (λ x. x == 1) ((f j h).over new old (λ v q. joint-same s.props s.props letter (cell s d word) (cell s c word) (length c) v refl (λ i l. cell-before s c d f a word i l) q))

-- the same as the store goes on too
pub cell-grown : (s : Diagrams) (c : List Obligation) (n : Diagrams) (d : List Obligation) → FitsCells s c → HasGrown s c n d → (word : List ℕ) (j : ℕ) → j < length c → cell n d word j ≡ cell s c word j
cell-grown s c n d f g word j h =
    cell-before n c d (fits_cells_lasts s n g.keeps c f) g.grows word j h ∙ cell-lasts s n g.keeps c f word j h
