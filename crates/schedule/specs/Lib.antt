pub mod Asks
pub mod Events
