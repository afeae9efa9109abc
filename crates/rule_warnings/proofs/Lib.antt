mod AdviceLemmas
mod FileLemmas
mod KeyLemmas
