pub mod ReplyLemmas
pub mod AskLemmas
