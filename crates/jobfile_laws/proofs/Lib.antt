pub mod Digits
pub mod Ranges
pub mod RoundTrip
pub mod SameBytes
pub mod Headless
pub mod Refused
pub mod Promises
pub mod Cases
