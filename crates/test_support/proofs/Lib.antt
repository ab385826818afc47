pub mod DiagramLemmas
pub mod BuildingLemmas
