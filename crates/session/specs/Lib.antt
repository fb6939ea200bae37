pub mod Journal
pub mod Session
pub mod History
pub mod Demand
