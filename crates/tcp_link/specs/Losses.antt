-- What becomes of bytes that nobody takes any more.
use Rattle.std.specs.Prelude.{ℕ, zero, suc, ◌+◌, ◌-◌, ◌^◌, Bool, true, false, ◌&&◌, not, min, nat_le, Ok, Err}
use Rattle.std.specs.declared.result.Result.{Result}
use Rattle.tcp_flow.specs.declared.halts.Halt.{Halt}
use Rattle.tcp_flow.specs.declared.halts.Halt.TheVariants as halts
use Rattle.tcp_flow.specs.declared.steps.Step.{Step}
use Rattle.tcp_link.specs.Closing.{writer_failed}
use Rattle.tcp_link.specs.declared.loss.Loss.{Loss}
use Rattle.tcp_link.specs.declared.loss.Rest.{Rest}
use Rattle.tcp_link.specs.declared.loss.Rest.TheVariants.{More, Nothing, Waits}

-- nothing was dropped
abbrev pub no_loss : Loss
no_loss = record { bytes = 0; rest = Waits }

-- the bytes that a side still sends are dropped: the other one has failed, by the direction from it and the one to it, and it has not
abbrev pub drops : Step → Step → Bool
drops from to = writer_failed from && not (writer_failed to)

-- what a read of such bytes makes of it: they are counted; no bytes are the end, and a failure is one too
abbrev pub loss_after : Loss → Result ℕ Halt → Loss
loss_after loss (Ok zero) = record { bytes = loss.bytes; rest = Nothing }
loss_after loss (Ok (suc n)) = record { bytes = min (loss.bytes + suc n) (2 ^ 64 - 1); rest = More }
loss_after loss (Err halts.NotNow) = record { bytes = loss.bytes; rest = Waits }
loss_after loss (Err halts.Failed) = record { bytes = loss.bytes; rest = Nothing }

-- nothing more comes
abbrev pub is_spent : Rest → Bool
is_spent Waits = false
is_spent More = false
is_spent Nothing = true

-- so many bytes were dropped that their sender is to learn that nobody takes them
abbrev pub is_given_up : Loss → Bool
is_given_up loss = nat_le (2 ^ 20) loss.bytes
