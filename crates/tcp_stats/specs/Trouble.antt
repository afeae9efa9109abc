-- What went wrong between two moments.
use Rattle.std.specs.Prelude.{ℕ, ◌-◌, Bool, ◌&&◌, nat_lt, Option, Some, None, List, [], ◌∷◌, ◌++◌, codes, decimal, if◌then◌else◌}
use Rattle.std.specs.List.{filter_map}
use Rattle.tcp_stats.specs.CountNames.{all_counts}
use Rattle.tcp_stats.specs.CountRows.{count_row, is_trouble}
use Rattle.tcp_stats.specs.CountValues.{count_of}
use Rattle.tcp_stats.specs.declared.count.Count.{Count}
use Rattle.tcp_stats.specs.declared.counts.Counts.{Counts}
use Rattle.tcp_stats.specs.declared.trouble.Trouble.{Trouble}

-- a count as a trouble, where it is one and has grown
abbrev pub trouble_of : Counts → Counts → Bool → Count → Option Trouble
trouble_of before now tells_rejected count =
    if is_trouble tells_rejected count && nat_lt (count_of before count) (count_of now count)
    then Some (record { count = count; times = count_of now count - count_of before count })
    else None

-- all of them, in the order of counts
abbrev pub troubles_between : Counts → Counts → Bool → List Trouble
troubles_between before now tells_rejected = filter_map (trouble_of before now tells_rejected) all_counts

-- what is known of the last time, where something is known
abbrev pub last_text : List ℕ → List ℕ
last_text [] = []
last_text (byte ∷ bytes) = codes "; last " ++ byte ∷ bytes

-- N WORDS; last LAST
abbrev pub trouble_text : Trouble → List ℕ → List ℕ
trouble_text trouble last = decimal trouble.times ++ codes " " ++ (count_row trouble.count).words ++ last_text last
