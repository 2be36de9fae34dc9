pub mod Answered
pub mod Refusals
