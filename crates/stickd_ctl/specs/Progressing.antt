-- How far something long has come, as a line on a terminal tells it, and when.
use Rattle.std.specs.Prelude.{ℕ, ◌+◌, ◌*◌, ◌-◌, ◌/◌, ◌^◌, nat_le, nat_lt, min, max, Bool, Option, Some, None, List, [], ◌∷◌, ◌++◌, codes, decimal, fold, take, if◌then◌else◌}
use Rattle.std.specs.Option.{option_map_or}
use Rattle.base_lines.specs.Parts.{is_line_end, parts}
use Rattle.stickd_ctl.specs.Lines.{HeaderText, begins, header_of}
use Rattle.stickd_ctl.specs.declared.progress.Progress.{Progress}
use Rattle.stickd_ctl.specs.declared.listed.Listed.{Listed}

-- the first line is due after a second, and each further one a fifth of a second after the last
abbrev pub is_due : ℕ → Option ℕ → Bool
is_due ms None = nat_le 1000 ms
is_due ms (Some last) = nat_le 200 (ms - last)

-- the entries that were done a second
abbrev pub rate_of : Progress → ℕ
rate_of progress = min (progress.entries * 1000) (2 ^ 64 - 1) / max progress.ms 1

-- of how many, where that is known and no more are done
abbrev pub whole_text : ℕ → Option ℕ → List ℕ
whole_text entries None = []
whole_text entries (Some whole) = if nat_lt whole entries then [] else codes " of " ++ decimal whole

-- from the line's beginning on, which CR goes back to, the verb and the entries
abbrev pub done_text : List ℕ → Progress → List ℕ
done_text verb progress = 13 ∷ verb ++ codes " " ++ decimal progress.entries ++ whole_text progress.entries progress.whole

-- their rate; what stands behind is cleared
abbrev pub rate_text : Progress → List ℕ
rate_text progress = codes " entries, " ++ decimal (rate_of progress) ++ codes " a second" ++ 27 ∷ codes "[K"

abbrev pub line_text : List ℕ → Progress → List ℕ
line_text verb progress = done_text verb progress ++ rate_text progress

-- ---- the entries of an answer that has come in part

-- so many more, up to 2^64 - 1
abbrev pub more : ℕ → ℕ → ℕ
more count added = min (count + added) (2 ^ 64 - 1)

-- where a table's line comes, so many more entries follow
abbrev pub with_header : Listed → Option HeaderText → Listed
with_header listed None = listed
with_header listed (Some header) = record listed { whole = more listed.whole header.used }

-- one line more: that of an entry, that of a table, or another
abbrev pub with_line : Listed → List ℕ → Listed
with_line listed line = if begins (codes "0x") line then record listed { entries = more listed.entries 1 } else with_header listed (header_of line)

-- the lines of a text more, of which the last stands without its line end
abbrev pub with_lines : Listed → List ℕ → Listed
with_lines listed text = fold with_line listed (parts is_line_end text)

-- the place of the last line end of a text
abbrev pub last_end_from : ℕ → Option ℕ → List ℕ → Option ℕ
last_end_from place last [] = last
last_end_from place last (b ∷ bs) = last_end_from (place + 1) (if is_line_end b then Some place else last) bs

abbrev pub last_end : List ℕ → Option ℕ
last_end text = last_end_from 0 None text

-- those lines of a text more that have ended, and how many bytes these take
abbrev pub with_more : Listed → List ℕ → Listed
with_more listed text = option_map_or (λ end. with_lines listed (take end text)) (last_end text) listed

abbrev pub taken : List ℕ → ℕ
taken text = option_map_or (λ end. end + 1) (last_end text) 0
