pub mod Alike
pub mod Below
pub mod Only
pub mod Orders
pub mod Replayed
pub mod Surveyed
pub mod Verdicts
