-- Hosts, calls, entries and instructions, as they are given.
use Rattle.std.specs.Prelude.{ℕ, ◌+◌, ◌*◌, List, map, cond, Some, None, ◌==◌}
use Rattle.std.specs.List.{range_with_len}
use Rattle.isa.specs.declared.row.Row.{Row}
use Rattle.module.specs.declared.entry.Entry.{Entry}
use Rattle.module.specs.Bytes.{byte, two, four}
use Rattle.module.specs.Layout.{row_from}
use Rattle.host.specs.declared.port.Flag.TheVariants.{Order, Sense}
use Rattle.host.specs.declared.port.Port.{Port}
use Rattle.drive.specs.declared.call.Call.{Call}
use Rattle.drive.specs.declared.call.Call.TheVariants.{Grant, Restart, PowerCycle}

-- the row of a table that begins at a byte: a flag of 0 is an order, and a 0 before the rest value says that there is none
abbrev pub row_at : List ℕ → ℕ → Port
row_at bs at =
    record {
      value = four bs at;
      low = four bs (at + 4);
      high = four bs (at + 8);
      flag = cond (byte bs (at + 12) == 0) Order Sense;
      rest = cond (byte bs (at + 13) == 0) None (Some (four bs (at + 14)));
    }

-- the first so many rows of a table
abbrev pub rows_in : List ℕ → ℕ → List Port
rows_in bs count = map (λ i. row_at bs (18 * i)) (range_with_len 0 count)

-- the call that begins at a byte: 0 is a grant, 1 a restart, and all else a power cycle
abbrev pub call_at : List ℕ → ℕ → Call
call_at bs at = cond (byte bs at == 0) (Grant (four bs (at + 1))) (cond (byte bs at == 1) Restart PowerCycle)

-- the first so many calls
abbrev pub calls_in : List ℕ → ℕ → List Call
calls_in bs count = map (λ i. call_at bs (5 * i)) (range_with_len 0 count)

-- the entry that begins at a byte
abbrev pub entry_at : List ℕ → ℕ → Entry
entry_at bs at = record { count = two bs at; arguments = byte bs (at + 2); results = byte bs (at + 3) }

-- the first so many entries
abbrev pub entries_in : List ℕ → ℕ → List Entry
entries_in bs count = map (λ i. entry_at bs (4 * i)) (range_with_len 0 count)

-- the first so many instructions
abbrev pub instructions_in : List ℕ → ℕ → List Row
instructions_in bs count = map (λ i. row_from bs (8 * i)) (range_with_len 0 count)
