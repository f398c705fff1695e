pub mod Heights
mod Totals
