pub mod Places
pub mod Forgetting
pub mod Looked
pub mod Agreeing
pub mod Agreed
pub mod Inside
