-- What is delivered where nothing more passes.
use Rattle.std.proofs.Common.{◌≡◌, inl, inr, refl, Bool, true, false, ◌&&◌, ◌||◌, not}
use Rattle.tcp_flow.specs.declared.steps.Cause.TheVariants.{Memory, Read, Write}
use Rattle.tcp_flow.specs.declared.steps.Step.{Step}
use Rattle.tcp_flow.specs.declared.steps.Step.TheVariants.{Ended, Failed, WaitsToRead, WaitsToWrite, Yields}
use Rattle.tcp_link.specs.Closing.{is_cut, reader_failed, writer_failed}
use Rattle.tcp_link.specs.Delivery.{DeliveryLaw, IsDelivered, IsGivenAll, ResetLaw, side_failed}
use Rattle.tcp_link.specs.Links.{is_done, must_be_accepted, owes_reset}
use Rattle.tcp_link.specs.Ways.{Accounts}
use Rattle.tcp_link.specs.declared.loss.Loss.{Loss}
use Rattle.tcp_link.specs.declared.way.Way.{Way}

split4 : (a b c d : Bool) → (a && b && c && d) ≡ true → (a ≡ true) × (b ≡ true) × (c ≡ true) × (d ≡ true)
split4 false b c d is = cc
split4 true false c d is = cc
split4 true true false d is = cc
split4 true true true d is = (refl, refl, refl, is)

-- none of these, so not the first two
neither : (a b c d e f : Bool) → (a || b || c || d || e || f) ≡ false → (a ≡ false) × (b ≡ false)
neither true b c d e f is = cc
neither false true c d e f is = cc
neither false false c d e f is = (refl, refl)

or_left : (a b : Bool) → a ≡ true → (a || b) ≡ true
or_left true b is = refl
or_left false b is = cc

or_right : (a b : Bool) → b ≡ true → (a || b) ≡ true
or_right true b is = refl
or_right false b is = is

-- one that is reset where nothing was lost was sent what isn't whole
cut_of : (asked cut first second : Bool) → first ≡ false → second ≡ false → (asked && (cut || first || second)) ≡ true → cut ≡ true
cut_of false cut first second first-is second-is is = cc
cut_of true true first second first-is second-is is = refl
cut_of true false true second first-is second-is is = cc
cut_of true false false true first-is second-is is = cc
cut_of true false false false first-is second-is is = cc

failed_too : (fails : Bool) → not (true && not fails) ≡ true → fails ≡ true
failed_too true is = refl
failed_too false is = cc

never_cut : (fails other : Bool) → (fails && not true) ≡ true → other ≡ true
never_cut true other is = cc
never_cut false other is = cc

-- nothing comes by a direction: all was given, or its receiver has failed
done_delivers : (way : Way) (step other : Step) (loss : Loss) → way.step ≡ step → Accounts way.direction.passage step → is_done step other loss ≡ true → IsDelivered way
done_delivers way WaitsToRead other loss is accounts done = cc
done_delivers way WaitsToWrite other loss is accounts done = cc
done_delivers way Yields other loss is accounts done = cc
done_delivers way Ended other loss is accounts done = inl accounts
done_delivers way (Failed Read) other loss is accounts done = inl accounts
done_delivers way (Failed Write) other loss is accounts done = inr (search (is))
done_delivers way (Failed Memory) other loss is accounts done = cc

-- the same of one whose sender has failed before it told its end
read_failure_delivers : (way : Way) (step : Step) → way.step ≡ step → Accounts way.direction.passage step → reader_failed step ≡ true → IsDelivered way
read_failure_delivers way WaitsToRead is accounts fails = cc
read_failure_delivers way WaitsToWrite is accounts fails = cc
read_failure_delivers way Yields is accounts fails = cc
read_failure_delivers way Ended is accounts fails = cc
read_failure_delivers way (Failed Read) is accounts fails = inl accounts
read_failure_delivers way (Failed Write) is accounts fails = cc
read_failure_delivers way (Failed Memory) is accounts fails = cc

-- a side that is reset as what it was sent isn't whole has failed, where no reset is owed to it and nothing was lost
cut_failed : (to from : Step) (loss : Loss) → is_done to from loss ≡ true → not (owes_reset to from) ≡ true → is_cut to from ≡ true → side_failed from to ≡ true
cut_failed WaitsToRead from loss done owes cut = cc
cut_failed WaitsToWrite from loss done owes cut = cc
cut_failed Yields from loss done owes cut = cc
cut_failed Ended from loss done owes cut = never_cut (writer_failed from) _ cut
cut_failed (Failed Read) from loss done owes cut = or_left (reader_failed from) _ (failed_too (reader_failed from) owes)
cut_failed (Failed Write) from loss done owes cut = or_right (reader_failed from) true refl
cut_failed (Failed Memory) from loss done owes cut = cc

pub delivers : DeliveryLaw
delivers link there back whole finished =
    let parts = split4 _ _ _ _ finished in
    let none = neither _ _ _ _ _ _ whole in
    record {
      there = done_delivers link.there link.there.step link.back.step link.client_loss refl there.accounts parts.0;
      back = done_delivers link.back link.back.step link.there.step link.server_loss refl back.accounts parts.1;
      client = λ is. cut_failed link.back.step link.there.step link.server_loss parts.1 parts.2 (cut_of (must_be_accepted link) _ _ _ none.0 none.1 is);
      server = λ is. cut_failed link.there.step link.back.step link.client_loss parts.0 parts.3 (cut_of true _ _ _ none.0 none.1 is);
    }

-- it is owed to a side by a direction whose sender has failed
owes_read : (to from : Bool) → (to && not from) ≡ true → to ≡ true
owes_read true from is = refl
owes_read false from is = cc

-- of two that exclude each other, the one that holds
quiet_first : (to from first second : Bool) → (to && not from && first || from && not to && second) ≡ true → (to && not from) ≡ true → first ≡ true
quiet_first false from first second due owes = cc
quiet_first true true first second due owes = cc
quiet_first true false true second due owes = refl
quiet_first true false false second due owes = cc

quiet_second : (to from first second : Bool) → (to && not from && first || from && not to && second) ≡ true → (from && not to) ≡ true → second ≡ true
quiet_second to false first second due owes = cc
quiet_second true true first second due owes = cc
quiet_second false true first second due owes = due

pub resets_late : ResetLaw
resets_late link moment there back due = (client, server)
  where
    client : owes_reset link.back.step link.there.step ≡ true → IsGivenAll link.back link.client_wrote moment
    client owes = record {
      delivered = read_failure_delivers link.back link.back.step refl back.accounts (owes_read (reader_failed link.back.step) _ owes);
      quiet = quiet_first (reader_failed link.back.step) (reader_failed link.there.step) _ _ due owes;
    }

    server : owes_reset link.there.step link.back.step ≡ true → IsGivenAll link.there link.server_wrote moment
    server owes = record {
      delivered = read_failure_delivers link.there link.there.step refl there.accounts (owes_read (reader_failed link.there.step) _ owes);
      quiet = quiet_second (reader_failed link.back.step) (reader_failed link.there.step) _ _ due owes;
    }
