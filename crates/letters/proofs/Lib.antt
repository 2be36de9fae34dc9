pub mod Rising
pub mod Marks
pub mod Doubting
pub mod Ascii
pub mod Characters
pub mod Inside
