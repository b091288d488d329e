pub mod Schedule
pub mod Latest
pub mod Delays
