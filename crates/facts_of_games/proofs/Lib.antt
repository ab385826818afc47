pub mod ArenaByHand
pub mod Stuck
pub mod OpenFacts
mod OpenPlanFacts
mod PrintedFacts
mod PlayedFacts
pub mod SharedFacts
pub mod SharedPlanFacts
pub mod HeldFacts
mod HeldPlanFacts
mod TextFacts
mod RefusingFacts
mod TrueDutyFacts
