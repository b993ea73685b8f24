use Rattle.std.proofs.Common.{◌∙◌}
use Rattle.machine.specs.View.{world_of}
use Rattle.machine.proofs.Items.{item_at}
use Rattle.machine.proofs.machine.Machine.byte.Goals as goal

pub returns : goal.returns
unfolding world_of
returns c = λ ports. c.copied.ensures ∙ item_at c.args.self.now.memory.bytes c.args.i c.get.result c.get.ensures.lookup
