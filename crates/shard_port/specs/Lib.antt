pub mod Port
pub mod Books
