pub mod Turns
pub mod Orders
pub mod Markings
pub mod All
pub mod Limits
pub mod Refusals
pub mod Sheets
