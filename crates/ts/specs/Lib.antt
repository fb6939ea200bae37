pub mod Packets
pub mod Stuffing
pub mod Dispersal
pub mod PacketizeDispersed
