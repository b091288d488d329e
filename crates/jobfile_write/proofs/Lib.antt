pub mod Lengths
pub mod Laid
pub mod Order
