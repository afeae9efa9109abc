-- Moves of a direction, one after another.
use Rattle.std.proofs.Common.{refl, sym, ap, subst, ◌∙◌, ◌≡◌, ◌<◌, ◌≤◌, ◌+◌, ◌-◌, ◌*◌, ◌^◌, ◌⊎◌, inl, inr, Bool, false, ℕ, zero, suc, List, [], ◌++◌, length, take, drop, append-nil, append_assoc, arith, length-append, length-drop}
use Rattle.std.proofs.lemmas.List.{length-take-le, take-append-drop}
use Rattle.std.proofs.Math.Seq.{drop-nil, take-nil}
use Rattle.byte_ports.specs.Bytes.{IsOneMore, Takes}
use Rattle.byte_ports.proofs.Pieces.{grown_twice, taken_twice}
use Rattle.tcp_flow.specs.FlowState.{FlowState, HasRead, HasWritten, Keeps, kept}
use Rattle.tcp_flow.specs.Passage.{HasMoved, Passage, passage, with_rest}
use Rattle.tcp_flow.specs.Turns.{DirectionState, HasFailed, HasPaused, HasTurned, IsDirection, Leaves, is_last}
use Rattle.tcp_flow.specs.declared.steps.Cause.{Cause}
use Rattle.tcp_flow.specs.declared.steps.Cause.TheVariants.{Memory, Read, Write}
use Rattle.tcp_flow.specs.declared.steps.Step.{Step}
use Rattle.tcp_flow.specs.declared.steps.Step.TheVariants.{Ended, Failed, WaitsToRead, WaitsToWrite, Yields}
use Rattle.tcp_flow.proofs.CarryLemmas.{kept_behind, kept_whole}

-- a move, and one after it
pub moved_twice : (tells told : Type 0) (left mid-left left-after written mid-written written-after : List ℕ) (old now new : Passage)
    → HasMoved tells left mid-left told written mid-written old now → HasMoved tells mid-left left-after told mid-written written-after now new
    → HasMoved tells left left-after told written written-after old new
moved_twice tells told left mid-left left-after written mid-written written-after old now new first second = record {
  bytes = first.bytes ++ second.bytes;
  piece = first.piece ++ second.piece;
  taken = taken_twice tells left mid-left left-after first.bytes second.bytes first.taken second.taken;
  given = grown_twice told written mid-written written-after first.piece second.piece first.given second.given;
  order = sym (append_assoc old.rest first.bytes second.bytes) ∙ ap (λ l. l ++ second.bytes) first.order ∙ append_assoc first.piece now.rest second.bytes
      ∙ ap (λ l. first.piece ++ l) second.order ∙ sym (append_assoc first.piece second.piece new.rest);
  read = omega (arith, length-append first.bytes second.bytes, first.read, second.read);
  written = omega (arith, length-append first.piece second.piece, first.written, second.written);
}

-- no move
pub moved_none : (tells told : Type 0) (left written : List ℕ) (old : Passage) → HasMoved tells left left told written written old old
moved_none tells told left written old = record {
  bytes = [];
  piece = [];
  taken = λ shown. refl;
  given = λ shown. sym (append-nil written);
  order = append-nil old.rest;
  read = omega arith;
  written = omega arith;
}

-- a read more, of at most so many bytes
pub one_more : (old now new turns room other : ℕ) → other ≡ room → now ≤ old + turns * room → new ≤ now + room → new ≤ old + (turns + 1) * other
one_more old now new turns room other same most more =
    let sum : (turns + 1) * room ≡ turns * room + room = grind arith in
    rw same (omega (arith, sum))

-- ---- what a flow keeps

-- one comes before the other, or not
below_or_not : (a b : ℕ) → (a < b) ⊎ (b ≤ a)
below_or_not zero zero = inr (omega arith)
below_or_not zero (suc b) = inl (omega arith)
below_or_not (suc a) zero = inr (omega arith)
below_or_not (suc a) (suc b) = elim (below_or_not a b) [ inl h ↦ inl (omega arith) | inr h ↦ inr (omega arith) ]

-- nothing
kept_none : (flow : FlowState) (buffer : List ℕ) → (Keeps flow → ⊥) → kept flow buffer ≡ []
kept_none flow buffer none =
    let no : flow.end - flow.start ≡ 0 = omega (arith, none) in
    ap (λ n. take n (drop flow.start buffer)) no

-- of nothing
kept_of_nothing : (flow : FlowState) → kept flow [] ≡ []
kept_of_nothing flow = ap (λ l. take (flow.end - flow.start) l) (drop-nil flow.start) ∙ take-nil (flow.end - flow.start)

-- so many bytes
length_kept : (flow : FlowState) (buffer : List ℕ) → (Keeps flow → flow.end ≤ length buffer) → length (kept flow buffer) ≡ flow.end - flow.start
length_kept flow buffer room = length-take-le (flow.end - flow.start) (drop flow.start buffer) (within (below_or_not flow.start flow.end))
  where
    within : (flow.start < flow.end) ⊎ (flow.end ≤ flow.start) → flow.end - flow.start ≤ length (drop flow.start buffer)
    within (inl keeps) = omega (arith, length-drop flow.start buffer, room keeps)
    within (inr none) = omega (arith, none)

-- the same, where there is nothing, of any buffer
pub none_of_any : (flow : FlowState) (here there : List ℕ) → (Keeps flow → ⊥) → passage flow here ≡ passage flow there
none_of_any flow here there none = ap (λ rest. with_rest (passage flow here) rest) (kept_none flow here none ∙ sym (kept_none flow there none))

-- ---- single moves

-- a read
pub read_moves : (tells told : Type 0) (left left-after written : List ℕ) (old new : FlowState) (buffer : List ℕ) → (Keeps old → ⊥) → HasRead tells left left-after old buffer new
    → HasMoved tells left left-after told written written (passage old []) (passage new buffer)
read_moves tells told left left-after written old new buffer empty read =
    let start : new.start ≡ 0 = ap (λ (f : FlowState). f.start) read.flow in
    let end : new.end ≡ read.count = ap (λ (f : FlowState). f.end) read.flow in
    let counted : new.read ≡ old.read + read.count = ap (λ (f : FlowState). f.read) read.flow in
    let same : new.written ≡ old.written = ap (λ (f : FlowState). f.written) read.flow in
    record {
      bytes = take read.count buffer;
      piece = [];
      taken = read.bytes;
      given = λ shown. sym (append-nil written);
      order = ap (λ l. l ++ take read.count buffer) (kept_none old [] empty) ∙ sym (kept_whole read.count buffer new start end);
      read = omega (arith, counted, length-take-le read.count buffer read.within);
      written = omega (arith, same);
    }

-- writes
pub wrote_moves : (tells told : Type 0) (left written written-after : List ℕ) (old new : FlowState) (buffer : List ℕ) → (Keeps old → old.end ≤ length buffer) → HasWritten told written written-after old buffer new
    → HasMoved tells left left told written written-after (passage old buffer) (passage new buffer)
wrote_moves tells told left written written-after old new buffer room wrote =
    let piece : List ℕ = take wrote.count (kept old buffer) in
    let behind : kept new buffer ≡ drop wrote.count (kept old buffer) = ap (λ (f : FlowState). kept f buffer) wrote.flow ∙ kept_behind old.start old.end wrote.count buffer wrote.within in
    let within : wrote.count ≤ length (kept old buffer) = omega (arith, wrote.within, length_kept old buffer room) in
    let long : length piece ≡ wrote.count = length-take-le wrote.count (kept old buffer) within in
    let same : new.read ≡ old.read = ap (λ (f : FlowState). f.read) wrote.flow in
    let counted : new.written ≡ old.written + wrote.count = ap (λ (f : FlowState). f.written) wrote.flow in
    record {
      bytes = [];
      piece = piece;
      taken = λ shown. refl;
      given = wrote.bytes;
      order = append-nil (kept old buffer) ∙ sym (take-append-drop wrote.count (kept old buffer)) ∙ ap (λ l. piece ++ l) (sym behind);
      read = omega (arith, same);
      written = omega (arith, counted, long);
    }

-- writes of what is kept in a buffer of its own
pub wrote_kept : (tells told : Type 0) (left written written-after : List ℕ) (old new : FlowState) (slice rest : List ℕ) → slice ≡ rest → (Keeps old → old.end ≤ length rest) → HasWritten told written written-after old slice new
    → HasMoved tells left left told written written-after (passage old rest) (passage new rest)
wrote_kept tells told left written written-after old new slice rest is room wrote =
    wrote_moves tells told left written written-after old new rest room (subst (λ (l : List ℕ). HasWritten told written written-after old l new) is wrote)

-- the same, where nothing is kept any more
pub wrote_all : (tells told : Type 0) (left written written-after : List ℕ) (old new : FlowState) (slice rest other : List ℕ) → slice ≡ rest → (Keeps old → old.end ≤ length rest) → HasWritten told written written-after old slice new
    → (Keeps new → ⊥) → HasMoved tells left left told written written-after (passage old rest) (passage new other)
wrote_all tells told left written written-after old new slice rest other is room wrote none =
    subst (λ (p : Passage). HasMoved tells left left told written written-after (passage old rest) p) (none_of_any new rest other none)
    (wrote_kept tells told left written written-after old new slice rest is room wrote)

-- where what is kept ends
pub wrote_room : (told : Type 0) (written written-after : List ℕ) (old new : FlowState) (buffer rest : List ℕ) → HasWritten told written written-after old buffer new → Keeps new → (Keeps old → old.end ≤ length rest)
    → new.end ≤ length rest
wrote_room told written written-after old new buffer rest wrote keeps room =
    let start : new.start ≡ old.start + wrote.count = ap (λ (f : FlowState). f.start) wrote.flow in
    let end : new.end ≡ old.end = ap (λ (f : FlowState). f.end) wrote.flow in
    omega (arith, end, room (omega (arith, start, end, keeps)))

-- a read, and writes of what it gave
pub carried_moves : (tells told : Type 0) (left left-after written written-after : List ℕ) (old now new : FlowState) (buffer : List ℕ) → (Keeps old → ⊥) → HasRead tells left left-after old buffer now
    → HasWritten told written written-after now buffer new → HasMoved tells left left-after told written written-after (passage old []) (passage new buffer)
carried_moves tells told left left-after written written-after old now new buffer empty read wrote =
    let end : now.end ≡ read.count = ap (λ (f : FlowState). f.end) read.flow in
    let room : now.end ≤ length buffer = omega (arith, end, read.within) in
    moved_twice tells told left left-after left-after written written written-after (passage old []) (passage now buffer) (passage new buffer)
    (read_moves tells told left left-after written old now buffer empty read) (wrote_moves tells told left-after written written-after now new buffer (λ _. room) wrote)

-- a read that gave nothing
pub paused_moves : (tells told : Type 0) (left left-after written : List ℕ) (failures then reads : ℕ) (old new : FlowState) (buffer : List ℕ) (step : Step) → (Keeps old → ⊥)
    → HasPaused tells left left-after failures then reads step → new ≡ old → HasMoved tells left left-after told written written (passage old []) (passage new buffer)
paused_moves tells told left left-after written failures then reads old new buffer step empty paused same =
    subst (λ (f : FlowState). HasMoved tells left left-after told written written (passage old []) (passage f buffer)) (sym same) (record {
      bytes = [];
      piece = [];
      taken = none step paused;
      given = λ shown. sym (append-nil written);
      order = append-nil (kept old []) ∙ kept_none old [] empty ∙ sym (kept_none old buffer empty);
      read = omega arith;
      written = omega arith;
    })
  where
    none : (step : Step) → HasPaused tells left left-after failures then reads step → Takes tells left left-after []
    none WaitsToRead why = why.0
    none WaitsToWrite why = elim why [ ]
    none Yields why = elim why [ ]
    none Ended why = why.0
    none (Failed Read) why = why.0
    none (Failed Write) why = elim why [ ]
    none (Failed Memory) why = elim why [ ]

-- and what has failed there
pub paused_failed : (told : Type 0) (left left-after : List ℕ) (failures then reads read writer : ℕ) (step : Step) → reads ≤ read → HasPaused told left left-after failures then reads step
    → HasFailed step read failures then writer writer
paused_failed told left left-after failures then reads read writer WaitsToRead turns why = (why.1, refl)
paused_failed told left left-after failures then reads read writer WaitsToWrite turns why = elim why [ ]
paused_failed told left left-after failures then reads read writer Yields turns why = elim why [ ]
paused_failed told left left-after failures then reads read writer Ended turns why = (why.2, refl)
paused_failed told left left-after failures then reads read writer (Failed Read) turns why = (faults why.1, refl)
  where
    faults : IsOneMore failures then ⊎ ((reads ≡ 2 ^ 40) × (then ≡ failures)) → IsOneMore failures then ⊎ ((2 ^ 40 ≤ read) × (then ≡ failures))
    faults (inl failed) = inl failed
    faults (inr many) = inr (omega (arith, turns, many.0), many.1)
paused_failed told left left-after failures then reads read writer (Failed Write) turns why = elim why [ ]
paused_failed told left left-after failures then reads read writer (Failed Memory) turns why = elim why [ ]

-- ---- turns

-- a turn that stops with bytes that the writer left in a buffer, which are kept there
pub turned_here : (tells told : Type 0) (left left-after written written-after : List ℕ) (old : Passage) (flow : FlowState) (buffer : List ℕ) → Keeps flow → flow.end ≤ length buffer
    → HasMoved tells left left-after told written written-after old (passage flow buffer) → HasTurned tells left left-after told written written-after old (passage flow buffer) WaitsToWrite
turned_here tells told left left-after written written-after old flow buffer keeps room moved =
    record { unwritten = kept flow buffer; leaves = (omega (arith, keeps, length_kept flow buffer (λ _. room)), refl); moved = moved }

-- a turn that stops with bytes that are lost
pub turned_lost : (tells told : Type 0) (left left-after written written-after : List ℕ) (old : Passage) (flow : FlowState) (buffer rest : List ℕ) (cause : Cause) → (cause ≡ Read → ⊥) → Keeps flow → flow.end ≤ length buffer
    → rest ≡ [] → HasMoved tells left left-after told written written-after old (passage flow buffer) → HasTurned tells left left-after told written written-after old (passage flow rest) (Failed cause)
turned_lost tells told left left-after written written-after old flow buffer rest cause other keeps room is moved =
    record { unwritten = kept flow buffer; leaves = lost cause other; moved = moved }
  where
    some : 0 < length (kept flow buffer)
    some = omega (arith, keeps, length_kept flow buffer (λ _. room))

    none : kept flow rest ≡ []
    none = ap (λ l. kept flow l) is ∙ kept_of_nothing flow

    lost : (cause : Cause) → (cause ≡ Read → ⊥) → Leaves (Failed cause) (kept flow buffer) (kept flow rest)
    lost Read other = elim (other refl) [ ]
    lost Write other = (some, none)
    lost Memory other = (some, none)

-- a move before a turn
pub turned_after : (tells told : Type 0) (left mid-left left-after written mid-written written-after : List ℕ) (old now new : Passage) (step : Step)
    → HasMoved tells left mid-left told written mid-written old now → HasTurned tells mid-left left-after told mid-written written-after now new step
    → HasTurned tells left left-after told written written-after old new step
turned_after tells told left mid-left left-after written mid-written written-after old now new step first turned = record {
  unwritten = turned.unwritten;
  leaves = turned.leaves;
  moved = moved_twice tells told left mid-left left-after written mid-written written-after old now (with_rest new turned.unwritten) first turned.moved;
}

-- a turn that isn't the last
pub goes_on : (tells told : Type 0) (left left-after written written-after : List ℕ) (old new : Passage) (step : Step)
    → HasTurned tells left left-after told written written-after old new step → is_last step ≡ false → HasMoved tells left left-after told written written-after old new
goes_on tells told left left-after written written-after old new step turned going =
    subst (λ (rest : List ℕ). HasMoved tells left left-after told written written-after old (with_rest new rest)) (all step turned.leaves going) turned.moved
  where
    all : (step : Step) → Leaves step turned.unwritten new.rest → is_last step ≡ false → turned.unwritten ≡ new.rest
    all WaitsToRead leaves going = leaves.0 ∙ sym leaves.1
    all WaitsToWrite leaves going = sym leaves.1
    all Yields leaves going = leaves.0 ∙ sym leaves.1
    all Ended leaves going = cc
    all (Failed cause) leaves going = cc

-- what a direction that goes on has read is what it has written and what waits
pub going_sum : (flow : FlowState) (rest : List ℕ) (over : Bool) (now : DirectionState) → record { passage = passage flow rest; over = over } ≡ now → IsDirection flow rest over
    → flow.written + (flow.end - flow.start) ≡ flow.read → now.over ≡ false → now.passage.written + length now.passage.rest ≡ now.passage.read
going_sum flow rest over now is inside sum = subst (λ (d : DirectionState). d.over ≡ false → d.passage.written + length d.passage.rest ≡ d.passage.read) is
    (λ going. omega (arith, sum, length_kept flow rest (inside.going going)))
