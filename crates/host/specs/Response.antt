-- What is seen of a host some ticks after an order, by its tick rule and its ports.
use Rattle.std.specs.Prelude.{ℕ, zero, suc, List, Ok, Result}
use Rattle.std.specs.Result.{result_and}
use Rattle.refusal.specs.Values.{Values}
use Rattle.host.specs.declared.port.Port.{Port}
use Rattle.host.specs.declared.response.Trial.{Trial}
use Rattle.host.specs.Ports.{value_at, reading, writing, written, if_ok}

-- the ports after n ticks
abbrev pub ticked : ℕ → (List Port → List Port) → List Port → List Port
ticked zero rule ports = ports
ticked (suc n) rule ports = rule (ticked n rule ports)

-- the ports after the order of a trial, and its ticks
abbrev pub trial_ports : (List Port → List Port) → List Port → Trial → List Port
trial_ports rule ports trial = ticked trial.ticks rule (written ports trial.port trial.value)

-- what a trial answers: a refusal of the port shown, then of the order, and else what the port shows after the ticks
abbrev pub responding : (List Port → List Port) → List Port → Trial → Result ℕ Values
responding rule ports trial =
    result_and (reading ports trial.shown) (result_and (writing ports trial.port trial.value) (Ok (value_at (trial_ports rule ports trial) trial.shown)))

-- and what the ports are then
abbrev pub responded : (List Port → List Port) → List Port → Trial → List Port
responded rule ports trial = if_ok (responding rule ports trial) (trial_ports rule ports trial) ports
