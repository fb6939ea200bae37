pub mod Register
pub mod Whitener
pub mod Inner
