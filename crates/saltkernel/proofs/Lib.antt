pub mod WordCodes
pub mod Determined
pub mod Runs
