pub mod ClientsLemmas
