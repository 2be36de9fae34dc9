-- Laws of the search.
pub mod Searching
pub mod Wanting
