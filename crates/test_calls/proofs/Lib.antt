pub mod CrowdLemmas
