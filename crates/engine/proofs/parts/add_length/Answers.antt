use Rattle.std.proofs.Common.{ap, sym}
use Rattle.refusal.specs.Values.{told}
use Rattle.engine.specs.Fields.{fields_bytes}
use Rattle.engine.specs.Parts.{length_fields}
use Rattle.engine.proofs.Adding.{same}
use Rattle.engine.proofs.parts.add_length.Goals as goal

pub returns-in-Ok : goal.returns-in-Ok
returns-in-Ok c = same _ _ _ _ c.add_all.ensures (ap (λ answer. fields_bytes (length_fields (told answer))) (sym c.in-Ok.is))

pub returns-in-Err : goal.returns-in-Err
returns-in-Err c = same _ _ _ _ c.add_refusal.ensures (ap (λ answer. fields_bytes (length_fields (told answer))) (sym c.in-Err.is))
