-- Nodes and tracks as plain trees, without boxes.
use Rattle.std.specs.Prelude.{ℕ, Bool, List}
use Rattle.trace_meaning.specs.declared.operator.Unary as unary
use Rattle.trace_meaning.specs.declared.operator.Binary as binary
use Rattle.trace_meaning.specs.declared.node.Lead.{Lead}
use Rattle.trace_meaning.specs.declared.node.Node.{Node}
use Rattle.trace_meaning.specs.declared.node.Track.{Track}
use Rattle.trace_meaning.specs.declared.node.Node.TheVariants as node
use Rattle.trace_meaning.specs.declared.node.Track.TheVariants as track

mutual
  -- a formula with what is kept of it, with the variants of `Node`
  pub data State : Type 0 where
    Fixed : (b : Bool) → State
    Atom : (bit : ℕ) → State
    Unary : (op : unary.Unary) → (f : State) → (later : Bool) → State
    Binary : (op : binary.Binary) → (f : State) → (g : State) → (later : Bool) → State
    Diamond : (p : PathState) → (f : State) → (later : Bool) → State

  -- a path program with what is kept of it, with the variants of `Track`
  pub data PathState : Type 0 where
    Step : (f : State) → (values : List Bool) → PathState
    Test : (f : State) → (values : List Bool) → PathState
    Choice : (p : PathState) → (q : PathState) → PathState
    Seq : (p : PathState) → (q : PathState) → (next : Lead) → PathState
    Star : (p : PathState) → (next : Bool) → PathState

abbrev mutual
  -- the state of a node
  pub state : Node → State
  state (node.Fixed b) = Fixed b
  state (node.Atom i) = Atom i
  state (node.Unary' o r f b) = Unary o (state f) b
  state (node.Binary' o r f s g b) = Binary o (state f) (state g) b
  state (node.Diamond' r p s f b) = Diamond (path_state p) (state f) b

  -- the state of a track
  pub path_state : Track → PathState
  path_state (track.Step' r f xs) = Step (state f) xs.items
  path_state (track.Test' r f xs) = Test (state f) xs.items
  path_state (track.Choice' r p s q) = Choice (path_state p) (path_state q)
  path_state (track.Seq' r p s q b) = Seq (path_state p) (path_state q) b
  path_state (track.Star' r p b) = Star (path_state p) b
