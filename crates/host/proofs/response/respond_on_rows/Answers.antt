use Rattle.std.proofs.Common.{◌≡◌, take, ap, ◌∙◌, rules}
use Rattle.host.specs.Ports.{most_ports}
use Rattle.host.specs.Response.{responded}
use Rattle.host.specs.Table.{table_ports, table_rule}
use Rattle.host.proofs.Sweep.{rejoin}
use Rattle.host.proofs.response.respond_on_rows.Goals as goal

pub returns-clause-rows : goal.returns-clause-rows
returns-clause-rows c =
    let new = c.new-table.ensures in
    let done = c.respond.ensures in
    let last = c.respond.new.host.rows.now in
    let ports : take most_ports last ≡ responded table_rule (table_ports c.new-table.result) c.args.trial = done.ports in
    let lent = ap (λ b. b.0) done.base ∙ ap (λ b. b.0) new.base in
    let past = ap (λ b. b.1) done.base ∙ ap (λ b. b.1) new.base in
    let after = rejoin most_ports last (ports ∙ ap (λ ps. responded table_rule ps c.args.trial) new.ports) past in
    search rules
