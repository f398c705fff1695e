pub mod Codes
pub mod Commands
pub mod Order
pub mod Format
pub mod Sorted
pub mod Reads
