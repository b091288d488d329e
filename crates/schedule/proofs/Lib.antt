pub mod Jumps
pub mod Fill
pub mod Served
pub mod NextReady
pub mod Sorted
pub mod Walk
pub mod Asks
pub mod FaultFree
