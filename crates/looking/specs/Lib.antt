pub mod Predecessors
