pub mod Comparing
pub mod Inserting
pub mod Moving
pub mod Laying
pub mod Framing
pub mod Placing
