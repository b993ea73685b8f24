use Rattle.std.proofs.lemmas.List.{take_min}
use Rattle.host.proofs.table.TableHost.ports.Goals as goal

pub returns : goal.returns
returns c = simp (c.min.ensures, take_min)
