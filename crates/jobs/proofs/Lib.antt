pub mod Below
pub mod Arrays
pub mod Words
pub mod Urgency
pub mod Refusals
pub mod Placed
pub mod Orders
