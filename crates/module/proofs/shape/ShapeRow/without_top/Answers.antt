use Rattle.module.proofs.ShapeRows.{top_removed, top_past}
use Rattle.module.proofs.shape.ShapeRow.without_top.Goals as goal

pub returns : goal.returns
returns c = λ s e. top_removed c.args.self s e _ c.saturating_sub-depth.ensures c.if-depth-ge-REGISTERS.false

pub returns-then-depth-ge-REGISTERS : goal.returns-then-depth-ge-REGISTERS
returns-then-depth-ge-REGISTERS c = λ s e. top_past c.args.self s e _ c.saturating_sub-depth.ensures c.if-depth-ge-REGISTERS.true
