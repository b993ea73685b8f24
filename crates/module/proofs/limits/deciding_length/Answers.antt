use Rattle.std.proofs.Common.{refl}
use Rattle.module.proofs.Fronts.{front_opens, opened_whole}
use Rattle.module.proofs.limits.deciding_length.Goals as goal

pub returns : goal.returns
returns c = record { value = refl; decides = front_opens _ refl; whole = opened_whole _ refl }
