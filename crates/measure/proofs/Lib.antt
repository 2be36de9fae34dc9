pub mod Measured
pub mod Eyes
pub mod Shut
pub mod Adding
pub mod Plain
pub mod Framed
pub mod Walked
pub mod Taking
