use Rattle.std.proofs.Common.{[], arith}
use Rattle.drive.proofs.Places.{small_place}
use Rattle.drive.proofs.drive.Drive.place.Goals as goal

pub overflow_cast-result : goal.overflow_cast-result
overflow_cast-result c =
    let small = small_place c.args.self.now c.running.result c.in_ok-running.running (c.running.ensures []) c.in_ok-running.ensures.ok_part in
    omega (arith, small.0, c.routine.ensures)

pub overflow_cast-result-2 : goal.overflow_cast-result-2
overflow_cast-result-2 c =
    let small = small_place c.args.self.now c.running.result c.in_ok-running.running (c.running.ensures []) c.in_ok-running.ensures.ok_part in
    omega (arith, small.1, c.pc.ensures)
