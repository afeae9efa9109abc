-- Why a server couldn't be connected to.
use Rattle.std.specs.Prelude.{ℕ, ◌==◌, ◌||◌, Option, Some, None, if◌then◌else◌}
use Rattle.tcp_link.specs.declared.connect_fault.ConnectFault.{ConnectFault}
use Rattle.tcp_link.specs.declared.connect_fault.ConnectFault.TheVariants.{NoPort, Other, Refused, TimedOut}

-- why a connect failed, by the number of its socket's error (connect(2)). ECONNREFUSED says that the server refused it, and ETIMEDOUT that it didn't answer. EADDRNOTAVAIL or EAGAIN says that no local port was left; any other is a cause of its own. EPIPE and ECONNRESET are of a connection that was made, so that no connect failed
abbrev pub connect_fault_of : ℕ → Option ConnectFault
connect_fault_of number =
    if number == 111 then Some Refused
    else if number == 110 then Some TimedOut
    else if number == 99 || number == 11 then Some NoPort
    else if number == 32 || number == 104 then None
    else Some Other

abbrev fault_or_other : Option ConnectFault → ConnectFault
fault_or_other None = Other
fault_or_other (Some fault) = fault

-- the same of a connect that failed at once, whatever its number
abbrev pub refused_for : ℕ → ConnectFault
refused_for number = fault_or_other (connect_fault_of number)
