pub mod Caret
