pub mod Apart
pub mod Forwards
pub mod Linking
