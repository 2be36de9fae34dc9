pub mod Answers
pub mod Maker
pub mod Rooms
pub mod Computing
