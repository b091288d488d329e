pub mod Text
pub mod Growing
