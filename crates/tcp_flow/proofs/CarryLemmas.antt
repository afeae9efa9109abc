-- What steps of a direction, one after another, have carried.
use Rattle.std.proofs.Common.{refl, sym, ap, subst, ◌∙◌, ◌≡◌, ◌≤◌, ◌+◌, ◌-◌, ◌^◌, ◌⊎◌, inl, inr, ℕ, List, [], ◌++◌, length, take, drop, append-nil, arith, length-append}
use Rattle.std.proofs.lemmas.List.{drop-drop, drop-take, length-take-le, take_all}
use Rattle.std.proofs.Math.Seq.{take-append-add}
use Rattle.byte_ports.specs.Bytes.{Grows, IsAtEnd, IsOneMore, Takes}
use Rattle.byte_ports.proofs.Pieces.{front_grown, grown_twice, taken_twice, taken_none}
use Rattle.tcp_flow.specs.FlowState.{FlowState, HasRead, HasStopped, HasWritten, Keeps, kept}
use Rattle.tcp_flow.specs.Carried.{Carried, Faults}
use Rattle.tcp_flow.specs.declared.pumping.Ending.{Ending}
use Rattle.tcp_flow.specs.declared.pumping.Ending.TheVariants.{EndOfInput, ReadFault, WriteFault}

-- a direction that is further in its buffer
abbrev forward : FlowState → ℕ → ℕ → FlowState
forward flow written start = record { reads = flow.reads; read = flow.read; written = written; start = start; end = flow.end }

-- what is kept behind the first bytes of what was kept
pub kept_behind : (start end count : ℕ) (buffer : List ℕ) → count ≤ end - start → take (end - (start + count)) (drop (start + count) buffer) ≡ drop count (take (end - start) (drop start buffer))
kept_behind start end count buffer within =
    let more : count + (end - (start + count)) ≡ end - start = omega (arith, within) in
    ap (λ bytes. take (end - (start + count)) bytes) (sym (drop-drop count start buffer))
    ∙ sym (drop-take count (end - (start + count)) (drop start buffer))
    ∙ ap (λ n. drop count (take n (drop start buffer))) more

-- nothing was written yet
pub written_none : (told : Type 0) (bytes : List ℕ) (flow : FlowState) (buffer : List ℕ) → HasWritten told bytes bytes flow buffer flow
written_none told bytes flow buffer =
    let same : flow.written ≡ flow.written + 0 = omega arith in
    let here : flow.start ≡ flow.start + 0 = omega arith in
    record {
      count = 0;
      within = omega arith;
      bytes = λ shown. sym (append-nil bytes);
      flow = ap (λ n. forward flow n flow.start) same ∙ ap (λ n. forward flow (flow.written + 0) n) here;
    }

-- a write more
pub written_more : (told : Type 0) (before mid after : List ℕ) (old now new : FlowState) (buffer : List ℕ) → HasWritten told before mid old buffer now → HasWritten told mid after now buffer new
    → HasWritten told before after old buffer new
written_more told before mid after old now new buffer first second =
    let at : FlowState = forward old (old.written + first.count) (old.start + first.count) in
    let more : second.count ≤ at.end - at.start = subst (λ (f : FlowState). second.count ≤ f.end - f.start) first.flow second.within in
    let behind : kept now buffer ≡ drop first.count (kept old buffer) = ap (λ (f : FlowState). kept f buffer) first.flow ∙ kept_behind old.start old.end first.count buffer first.within in
    let places : (old.written + first.count) + second.count ≡ old.written + (first.count + second.count) = omega arith in
    let starts : (old.start + first.count) + second.count ≡ old.start + (first.count + second.count) = omega arith in
    record {
      count = first.count + second.count;
      within = omega (arith, first.within, more);
      bytes = front_grown told before mid after (kept old buffer) (kept now buffer) first.count second.count behind first.bytes second.bytes;
      flow = second.flow ∙ ap (λ (f : FlowState). forward f (f.written + second.count) (f.start + second.count)) first.flow
          ∙ ap (λ n. forward old n ((old.start + first.count) + second.count)) places ∙ ap (λ n. forward old (old.written + (first.count + second.count)) n) starts;
    }

-- a write that took nothing
pub written_stopped : (told : Type 0) (before mid after : List ℕ) (old now new : FlowState) (buffer : List ℕ) → HasWritten told before mid old buffer now → Grows told mid after [] → new ≡ now
    → HasWritten told before after old buffer new
written_stopped told before mid after old now new buffer first none same = record {
  count = first.count;
  within = first.within;
  bytes = λ shown. none shown ∙ append-nil mid ∙ first.bytes shown;
  flow = same ∙ first.flow;
}

-- ---- all of a direction

-- so many bytes were carried, all that was read
pub record Whole (tells : Type 0) (left-before left-after : List ℕ) (told : Type 0) (written-before written-after : List ℕ) (flow : FlowState) : Type 0 where
  pub bytes : List ℕ
  pub taken : Takes tells left-before left-after bytes
  pub given : Grows told written-before written-after bytes
  pub size : length bytes ≡ flow.read
  pub same : flow.written ≡ flow.read
  pub turns : flow.reads ≤ flow.read

-- a direction that has carried nothing
pub whole_none : (tells : Type 0) (left : List ℕ) (told : Type 0) (written : List ℕ) (flow : FlowState) → flow ≡ record { reads = 0; read = 0; written = 0; start = 0; end = 0 } → Whole tells left left told written written flow
whole_none tells left told written flow is =
    subst (λ (f : FlowState). Whole tells left left told written written f) (sym is) (record {
      bytes = [];
      taken = λ shown. refl;
      given = λ shown. sym (append-nil written);
      size = refl;
      same = refl;
      turns = omega arith;
    })

-- what was read is kept whole
pub kept_whole : (count : ℕ) (buffer : List ℕ) (flow : FlowState) → flow.start ≡ 0 → flow.end ≡ count → kept flow buffer ≡ take count buffer
kept_whole count buffer flow start end = ap (λ s. take (flow.end - s) (drop s buffer)) start ∙ ap (λ (n : ℕ). take n buffer) (omega (arith, end))

-- a read, and a write of the first of its bytes
pub carried_more : (tells : Type 0) (left mid-left left-after : List ℕ) (told : Type 0) (written mid-written written-after : List ℕ) (old now new : FlowState) (buffer : List ℕ)
    → Whole tells left mid-left told written mid-written old → HasRead tells mid-left left-after old buffer now → HasWritten told mid-written written-after now buffer new
    → Carried tells left left-after told written written-after new.read new.written
carried_more tells left mid-left left-after told written mid-written written-after old now new buffer whole read wrote =
    let piece : List ℕ = take read.count buffer in
    let keeps : kept now buffer ≡ piece = kept_whole read.count buffer now (ap (λ (f : FlowState). f.start) read.flow) (ap (λ (f : FlowState). f.end) read.flow) in
    let long : length piece ≡ read.count = length-take-le read.count buffer read.within in
    let now_read : now.read ≡ old.read + read.count = ap (λ (f : FlowState). f.read) read.flow in
    let now_written : now.written ≡ old.written = ap (λ (f : FlowState). f.written) read.flow in
    let new_read : new.read ≡ now.read = ap (λ (f : FlowState). f.read) wrote.flow in
    let new_written : new.written ≡ now.written + wrote.count = ap (λ (f : FlowState). f.written) wrote.flow in
    let start : now.start ≡ 0 = ap (λ (f : FlowState). f.start) read.flow in
    let end : now.end ≡ read.count = ap (λ (f : FlowState). f.end) read.flow in
    let wide : wrote.count ≤ read.count = omega (arith, wrote.within, start, end) in
    let place : length whole.bytes + wrote.count ≡ new.written = omega (arith, whole.size, whole.same, now_written, new_written) in
    let shown_piece : take new.written (whole.bytes ++ piece) ≡ whole.bytes ++ take wrote.count piece = ap (λ n. take n (whole.bytes ++ piece)) (sym place) ∙ take-append-add whole.bytes piece wrote.count in
    let given : Grows told mid-written written-after (take wrote.count piece) = subst (λ (b : List ℕ). Grows told mid-written written-after (take wrote.count b)) keeps wrote.bytes in
    let all : Grows told written written-after (whole.bytes ++ take wrote.count piece) = grown_twice told written mid-written written-after whole.bytes (take wrote.count piece) whole.given given in
    record {
      bytes = whole.bytes ++ piece;
      taken = taken_twice tells left mid-left left-after whole.bytes piece whole.taken read.bytes;
      size = omega (arith, length-append whole.bytes piece, whole.size, long, now_read, new_read);
      given = subst (λ (b : List ℕ). Grows told written written-after b) (sym shown_piece) all;
      within = omega (arith, whole.same, wide, now_read, new_read, now_written, new_written);
    }

-- the same, where all of the bytes were written
pub whole_more : (tells : Type 0) (left mid-left left-after : List ℕ) (told : Type 0) (written mid-written written-after : List ℕ) (old now new : FlowState) (buffer : List ℕ)
    → Whole tells left mid-left told written mid-written old → HasRead tells mid-left left-after old buffer now → HasWritten told mid-written written-after now buffer new → (Keeps new → ⊥)
    → Whole tells left left-after told written written-after new
whole_more tells left mid-left left-after told written mid-written written-after old now new buffer whole read wrote none =
    let carried = carried_more tells left mid-left left-after told written mid-written written-after old now new buffer whole read wrote in
    let start : now.start ≡ 0 = ap (λ (f : FlowState). f.start) read.flow in
    let end : now.end ≡ read.count = ap (λ (f : FlowState). f.end) read.flow in
    let new_start : new.start ≡ now.start + wrote.count = ap (λ (f : FlowState). f.start) wrote.flow in
    let new_end : new.end ≡ now.end = ap (λ (f : FlowState). f.end) wrote.flow in
    let now_read : now.read ≡ old.read + read.count = ap (λ (f : FlowState). f.read) read.flow in
    let now_written : now.written ≡ old.written = ap (λ (f : FlowState). f.written) read.flow in
    let new_read : new.read ≡ now.read = ap (λ (f : FlowState). f.read) wrote.flow in
    let new_written : new.written ≡ now.written + wrote.count = ap (λ (f : FlowState). f.written) wrote.flow in
    let now_reads : now.reads ≡ old.reads + 1 = ap (λ (f : FlowState). f.reads) read.flow in
    let new_reads : new.reads ≡ now.reads = ap (λ (f : FlowState). f.reads) wrote.flow in
    let all : new.written ≡ new.read = omega (arith, whole.same, none, wrote.within, start, end, new_start, new_end, now_read, now_written, new_read, new_written) in
    record {
      bytes = carried.bytes;
      taken = carried.taken;
      given = λ shown. carried.given shown ∙ ap (λ (b : List ℕ). written ++ b) (ap (λ n. take n carried.bytes) all ∙ take_all new.read carried.bytes (omega (arith, carried.size)));
      size = carried.size;
      same = all;
      turns = omega (arith, whole.turns, read.some, now_reads, new_reads, now_read, new_read);
    }

-- nothing more was read
pub carried_whole : (tells : Type 0) (left mid left-after : List ℕ) (told : Type 0) (written written-after : List ℕ) (flow : FlowState) → Whole tells left mid told written written-after flow → Takes tells mid left-after []
    → Carried tells left left-after told written written-after flow.read flow.written
carried_whole tells left mid left-after told written written-after flow whole none = record {
  bytes = whole.bytes;
  taken = taken_none tells left mid left-after whole.bytes whole.taken none;
  size = whole.size;
  given = λ shown. whole.given shown ∙ ap (λ (b : List ℕ). written ++ b) (sym (take_all flow.written whole.bytes (omega (arith, whole.size, whole.same))));
  within = omega (arith, whole.same);
}

-- ---- why a direction stopped

pub stopped_takes : (told : Type 0) (before after : List ℕ) (failures then reads : ℕ) (ending : Ending) → HasStopped told before after failures then reads ending → Takes told before after []
stopped_takes told before after failures then reads EndOfInput why = why.0
stopped_takes told before after failures then reads ReadFault why = why.0
stopped_takes told before after failures then reads WriteFault why = elim why [ ]

-- the end of the input is no fault
abbrev Differs : Ending → Type 0
Differs EndOfInput = ⊥
Differs ReadFault = Unit {0}
Differs WriteFault = Unit {0}

pub stopped_end : (told : Type 0) (before after : List ℕ) (failures then reads : ℕ) (ending : Ending) → HasStopped told before after failures then reads ending → ending ≡ EndOfInput → IsAtEnd told after
stopped_end told before after failures then reads EndOfInput why is = why.1
stopped_end told before after failures then reads ReadFault why is = other is
  where
    other : ReadFault ≡ EndOfInput → IsAtEnd told after
    other is = elim (subst Differs is tt) [ ]
stopped_end told before after failures then reads WriteFault why is = elim why [ ]

pub stopped_faults : (told : Type 0) (before after : List ℕ) (failures then reads read writer writer-then : ℕ) (ending : Ending) → HasStopped told before after failures then reads ending → reads ≤ read → writer-then ≡ writer
    → Faults ending read failures then writer writer-then
stopped_faults told before after failures then reads read writer writer-then EndOfInput why turns same = (why.2, same)
stopped_faults told before after failures then reads read writer writer-then ReadFault why turns same = (faults why.1, same)
  where
    faults : IsOneMore failures then ⊎ ((reads ≡ 2 ^ 40) × (then ≡ failures)) → IsOneMore failures then ⊎ ((2 ^ 40 ≤ read) × (then ≡ failures))
    faults (inl failed) = inl failed
    faults (inr many) = inr (omega (arith, turns, many.0), many.1)
stopped_faults told before after failures then reads read writer writer-then WriteFault why turns same = elim why [ ]
