pub mod Slashing
