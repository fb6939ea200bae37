pub mod Numbers
pub mod Packets
pub mod Stuffing
pub mod Dispersal
pub mod WhitenedPackets
pub mod Groups
pub mod Calls
pub mod Determined
