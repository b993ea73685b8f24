use Rattle.std.proofs.Common.{arith}
use Rattle.module.proofs.Opens.{opened_laid, routine_entered}
use Rattle.module.proofs.routine.Routine.row.Goals as goal

pub row_from-requires : goal.row_from-requires
row_from-requires c =
    let t = c.args.self.now in
    let entry = routine_entered t in
    omega (arith, (opened_laid t.module.now).long, entry.placed, entry.inside, c.requires, t.placed)
