use Rattle.std.proofs.Common.{◌≡◌, ◌<◌, ℕ, false, is_some, length, slice_get}
use Rattle.tcp_relay.specs.Releasing.{is_open_there}
use Rattle.tcp_relay.proofs.closing.close_all.Given as goal

-- none is open in the places so far, and there are as many places
abbrev pub invariant-loop-place : goal.invariant-loop-place
invariant-loop-place g l = record {
  closed : (place : ℕ) → place < l.place → is_open_there (λ one. is_some one.link) (slice_get l.worker.places.held.items place) ≡ false;
  count : length l.worker.places.held.items ≡ length l.fn.worker.places.held.items;
}
