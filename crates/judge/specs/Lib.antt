pub mod Judged
pub mod Theorem
pub mod Calls
pub mod Kinds
pub mod Caps
pub mod Surveys
