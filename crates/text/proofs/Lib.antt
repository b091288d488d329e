pub mod Adding
pub mod Growing
pub mod Digits
pub mod Lengths
pub mod Cases
