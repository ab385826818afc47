pub mod VerdictLines
pub mod VerdictLemmas
pub mod MonitorLines
pub mod MonitorEnds
pub mod MonitorLemmas
pub mod MonitorRuns
pub mod OpenLemmas
pub mod OneMonitoring
