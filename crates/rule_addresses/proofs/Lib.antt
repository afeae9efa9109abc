mod BitLemmas
mod PortLemmas
mod EndpointLemmas
mod PrefixLemmas
mod AgreeLemmas
