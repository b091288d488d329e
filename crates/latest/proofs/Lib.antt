pub mod Steps
pub mod Walk
pub mod Rows
pub mod Latest
