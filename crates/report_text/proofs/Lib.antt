pub mod Judged
pub mod Reporting
pub mod Length
pub mod Same
pub mod Cases
