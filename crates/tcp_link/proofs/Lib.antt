mod AddressLemmas
mod DeliveryLemmas
mod LinkLemmas
mod WayLemmas
