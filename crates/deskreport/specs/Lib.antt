pub mod Text
pub mod Telling
pub mod Report
pub mod Stream
pub mod Calls
pub mod Inner
