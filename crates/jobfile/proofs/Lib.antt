pub mod Bytes
pub mod Over
pub mod Records
pub mod Walk
pub mod Reading
pub mod Filling
