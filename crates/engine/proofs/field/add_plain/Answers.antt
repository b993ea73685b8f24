use Rattle.std.proofs.Common.{sym}
use Rattle.engine.proofs.Adding.{is_added, same, as_they_are}
use Rattle.engine.proofs.field.add_plain.Goals as goal

pub returns : goal.returns
returns c = same _ _ _ _ (is_added _ _ _ c.add_bytes.ensures) (sym (as_they_are c.args.bytes.now))
