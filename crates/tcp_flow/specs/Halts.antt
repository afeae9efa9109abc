-- Why a call took no bytes, and what it did to the count of failures.
use Rattle.std.specs.Prelude.{◌≡◌, ℕ, Option, Some, None}
use Rattle.std.specs.declared.io.ErrorKind.{ErrorKind}
use Rattle.std.specs.declared.io.ErrorKind.TheVariants.{Interrupted, WouldBlock}
use Rattle.byte_ports.specs.Bytes.{IsOneMore}
use Rattle.tcp_flow.specs.declared.halts.Halt.{Halt}
use Rattle.tcp_flow.specs.declared.halts.Halt.TheVariants.{Failed, NotNow}

-- a device that isn't ready has not failed
abbrev pub HasCounted : ℕ → ℕ → Halt → Type 0
HasCounted before after NotNow = after ≡ before
HasCounted before after Failed = IsOneMore before after

-- why a call took no bytes whose error is of this kind: the device isn't ready, or has failed; none where a signal came between, and the call says nothing of the device
abbrev pub halt_of : ErrorKind → Option Halt
halt_of WouldBlock = Some NotNow
halt_of Interrupted = None
halt_of kind = Some Failed
