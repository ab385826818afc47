pub mod Strategy
pub mod Printed
pub mod Planned
pub mod CubeLines
pub mod StrategyText
pub mod Headline
pub mod PrintedLaws
