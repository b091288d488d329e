pub mod Rows
pub mod Ask
