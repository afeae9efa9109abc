-- The limit across rules that change: of references that were judged by different limits.
use Rattle.std.specs.Prelude.{◌≡◌, ℕ, ◌≤◌, true, List, count_by}
use Rattle.std.specs.List.{AllByRecursion, list_any}
use Rattle.stick_model.specs.Key.{Key}
use Rattle.shard_record.specs.declared.view.Call.{Call}
use Rattle.shard_record.specs.declared.view.Part.{Part}
use Rattle.shard_record.specs.Calls.{Held, passed_in}
use Rattle.shard_record.specs.Parts.{Kept, total}
use Rattle.shard_record.specs.Views.{AreKept, View, parts_at}

-- a reference that has passed a limit has passed each greater one
abbrev pub PassesMoreLaw : Type 0
PassesMoreLaw = (key : Key) (limit most : ℕ) (log : List Call) (held : Held) → limit ≤ most → passed_in key limit log held ≡ true → passed_in key most log held ≡ true

-- of a token's references, how many have passed one of these limits
abbrev pub passed_any_of : Key → List ℕ → {parts : List Part} → Kept parts → Part → ℕ
passed_any_of key limits kept part = count_by (λ (held : Held). list_any (λ limit. passed_in key limit kept.log held) limits) part.held

-- of all references of a book that tokens have, at most as many have passed one of some limits as the greatest of these
abbrev pub AcrossLaw : Type 0
AcrossLaw = (views : List View) (kept : AreKept views) (book : ℕ) (key : Key) (limits : List ℕ) (most : ℕ) → AllByRecursion (λ limit. limit ≤ most) limits →
    total (passed_any_of key limits (kept book)) (parts_at book views) ≤ most
