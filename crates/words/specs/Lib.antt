pub mod Said
pub mod Book
pub mod Sentence
pub mod Names
