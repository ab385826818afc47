pub mod Monitoring
pub mod OpenedMonitor
