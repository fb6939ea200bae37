pub mod Taking
pub mod SameParameters
pub mod HandedIn
pub mod Refusals
pub mod Determined
