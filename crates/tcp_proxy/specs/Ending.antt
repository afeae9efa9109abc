-- How a table ended, as it is printed.
use Rattle.std.specs.Prelude.{◌≡◌, refl, ℕ, ◌^◌, ◌-◌, min, Bool, List, ◌++◌, Result, Ok, Err, codes, decimal, length, sum, sum_by}
use Rattle.std.specs.Fmt.{digits}
use Rattle.stick_model.specs.declared.rows.Ticket.{Ticket}
use Rattle.stick_model.specs.declared.specification.Spec.{Spec}
use Rattle.shard_book.specs.BookState.{BookState}
use Rattle.shard_book.specs.SeatState.{RefState, SeatState}
use Rattle.shard_settling.specs.Faults.{IsFault}
use Rattle.shard_settling.specs.Settled.{AreSettled, counts_in, tickets_in}
use Rattle.shard_settling.specs.declared.fault.Fault.{Fault}
use Rattle.shard_settling.specs.declared.fault.Fault.TheVariants.{MissingCalls, MissingRefs, Mismatch, Memory}
use Rattle.tcp_proxy.specs.declared.table_end.Tally.{Tally}

-- ---- what is counted

-- the events that all shards have counted, and the tickets that are out there, each number up to 2^64 - 1
abbrev pub tally_of : List ℕ → List (List Ticket) → Tally
tally_of counts tickets = record { calls = min (sum counts) (2 ^ 64 - 1); references = min (sum_by (λ (out : List Ticket). length out) tickets) (2 ^ 64 - 1) }

-- ---- how a table ends

-- the numbers count books that are settled by what their callers left
pub record CountsSettled (specs : List Spec) (keep : Bool) (seats : List SeatState) (refs : List RefState) (tally : Tally) : Type 0 where
  pub books : List BookState
  pub settled : AreSettled specs keep seats refs books
  pub counted : tally ≡ tally_of (counts_in books) (tickets_in books)

-- the fault has its cause in books that were found
pub record IsFound (specs : List Spec) (keep : Bool) (seats : List SeatState) (refs : List RefState) (fault : Fault) : Type 0 where
  pub books : List BookState
  pub cause : IsFault specs keep seats refs books fault

-- ---- what is printed

-- C calls, R references
abbrev pub tally_text : Tally → List ℕ
tally_text tally = decimal tally.calls ++ codes " calls, " ++ decimal tally.references ++ codes " references"

-- the code of what a table lacks
abbrev pub code_of : Fault → List ℕ
code_of (MissingCalls shard) = codes "S1"
code_of (MissingRefs shard) = codes "S2"
code_of (Mismatch shard) = codes "S3"
code_of Memory = codes "S4"

-- settled NAME: C calls, R references; or unsettled NAME: S1, and its kin
abbrev pub end_text : List ℕ → Result Tally Fault → List ℕ
end_text name (Ok tally) = codes "settled " ++ name ++ codes ": " ++ tally_text tally
end_text name (Err fault) = codes "unsettled " ++ name ++ codes ": " ++ code_of fault

-- ---- worked examples, typed by hand, which the checker computes

settled : end_text (codes "www") (Ok (record { calls = 22; references = 0 })) ≡ codes "settled www: 22 calls, 0 references"
unfolding digits
settled = refl

references-out : end_text (codes "other") (Ok (record { calls = 1234567890; references = 3 })) ≡ codes "settled other: 1234567890 calls, 3 references"
unfolding digits
references-out = refl

calls-missing : end_text (codes "www") (Err (MissingCalls 7)) ≡ codes "unsettled www: S1"
calls-missing = refl

references-missing : end_text (codes "www") (Err (MissingRefs 0)) ≡ codes "unsettled www: S2"
references-missing = refl

records-differ : end_text (codes "www") (Err (Mismatch 63)) ≡ codes "unsettled www: S3"
records-differ = refl

memory-short : end_text (codes "www") (Err Memory) ≡ codes "unsettled www: S4"
memory-short = refl
