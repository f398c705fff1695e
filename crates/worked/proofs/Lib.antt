pub mod First
pub mod Values
pub mod Decided
pub mod Judging
pub mod Verdicts
pub mod Caps
pub mod Firings
pub mod Computed
