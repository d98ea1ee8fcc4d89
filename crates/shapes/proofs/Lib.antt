pub mod Forms
pub mod BlankWords
