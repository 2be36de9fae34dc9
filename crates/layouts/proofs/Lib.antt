pub mod Running
pub mod Runs
pub mod Laying
