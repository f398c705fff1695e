pub mod Copies
pub mod Measures
pub mod Numbers
pub mod Pairs
pub mod Residues
pub mod Rows
pub mod Truths
pub mod Wholes
