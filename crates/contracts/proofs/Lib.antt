pub mod Answers
pub mod Entries
pub mod Lines
pub mod Reading
pub mod Told
