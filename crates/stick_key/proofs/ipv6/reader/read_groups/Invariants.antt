use Rattle.std.proofs.Common.{◌≡◌, ◌++◌, ◌==◌, ℕ, List, length}
use Rattle.std.specs.List.{slice_split}
use Rattle.stick_key.specs.Ipv6Text.{Spell}
use Rattle.stick_key.proofs.ipv6.reader.read_groups.Given as goal

-- The groups so far, before what the rest spells, are what the text spells.
abbrev pub invariant-loop-count : goal.invariant-loop-count
invariant-loop-count l = record {
  counted : length l.groups ≡ l._count;
  spelled : (last : List ℕ) → Spell l.dotted_end (slice_split (λ byte. byte == 58) l.rest) last → Spell l.dotted_end (slice_split (λ byte. byte == 58) l.text) (l.groups ++ last);
  only : (all : List ℕ) → Spell l.dotted_end (slice_split (λ byte. byte == 58) l.text) all →
      (last : List ℕ) × (all ≡ l.groups ++ last) × Spell l.dotted_end (slice_split (λ byte. byte == 58) l.rest) last;
}
