use Rattle.std.proofs.Common.{◌≡◌, ◌<◌, length, get_or, take, set, sym, ap, ◌∙◌, arith, drop-set-lt}
use Rattle.host.specs.Ports.{most_ports, blank, ordering, ordered}
use Rattle.host.specs.Refusals.{told}
use Rattle.host.proofs.Fronts.{front_write, front_written, in_rows, inside}
use Rattle.host.proofs.table.TableHostHost.write.Goals as goal

pub bounds-self-p : goal.bounds-self-p
bounds-self-p c = in_rows most_ports c.args.self.now.rows.now c.args.p (omega (arith, ap length c.ports.ensures))

pub returns : goal.returns
returns c =
    let rows = c.args.self.now.rows.now in
    let p = c.args.p in
    let h : p < length (take most_ports rows) = omega (arith, ap length c.ports.ensures) in
    let answer : told c.order.result ≡ ordering (get_or rows p blank) c.args.v = c.order.ensures.answer in
    let port : c.order.new.self ≡ ordered (get_or rows p blank) c.args.v = c.order.ensures.port in
    record {
      answer = answer ∙ sym (front_write most_ports rows p h c.args.v);
      ports = ap (λ row. take most_ports (set rows p row)) port ∙ front_written most_ports rows p h c.args.v;
      base = ap (λ past. (c.args.self.now.rows.ghost_name, past)) (drop-set-lt most_ports rows p _ (inside most_ports rows p h));
    }
