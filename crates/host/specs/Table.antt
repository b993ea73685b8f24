-- The table host: its ports are the first of the rows that it stands on, as many as a host may have, and its tick changes nothing.
use Rattle.std.specs.Prelude.{List, take, drop}
use Rattle.std.proofs.Common.{arith, length-take}
use Rattle.std.specs.Borrow.{GName}
use Rattle.host.specs.declared.port.Port.{Port}
use Rattle.host.specs.declared.table.TableHost.{TableHost}
use Rattle.host.specs.Ports.{most_ports}
use Rattle.host.specs.Lawful.{LawfulHost, unchanged_ports}

abbrev pub table_ports : TableHost → List Port
table_ports table = take most_ports table.rows.now

abbrev pub table_rule : List Port → List Port
table_rule ports = ports

-- which rows are lent, by the name of the reference to them, and the rows past the ports
abbrev pub table_base : TableHost → GName × List Port
table_base table = (table.rows.ghost_name, drop most_ports table.rows.now)

pub table_lawful : LawfulHost table_base table_ports (λ _. table_rule)
table_lawful = record { few = λ _. simp length-take (omega arith); senses = λ _ _. unchanged_ports _ }
