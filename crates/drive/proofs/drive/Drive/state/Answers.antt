use Rattle.std.proofs.Common.{sym}
use Rattle.drive.proofs.Sound.{is_sound}
use Rattle.drive.proofs.Spending.{phase_is}
use Rattle.drive.proofs.drive.Drive.state.Goals as goal

pub returns : goal.returns
returns c = record { phase = λ ports. sym (phase_is c.args.self.now ports); sound = λ rule ports. is_sound rule c.args.self.now ports }
