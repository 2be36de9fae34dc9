pub mod Depths
pub mod Formats
pub mod Framing
pub mod Lengths
pub mod Linking
pub mod Materials
pub mod Segments
pub mod Tables
