pub mod ByTurn
pub mod Unwinding
pub mod Judging
pub mod Theorems
pub mod Answers
