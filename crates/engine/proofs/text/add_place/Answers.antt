use Rattle.std.proofs.Common.{ap, sym}
use Rattle.refusal.specs.Values.{told}
use Rattle.engine.specs.Fields.{fields_bytes, place_fields}
use Rattle.engine.proofs.Adding.{same}
use Rattle.engine.proofs.text.add_place.Goals as goal

pub returns-in-Ok : goal.returns-in-Ok
returns-in-Ok c = same _ _ _ _ c.add_all.ensures (ap (λ place. fields_bytes (place_fields (told place))) (sym c.in-Ok.is))

pub returns-in-Err : goal.returns-in-Err
returns-in-Err c = same _ _ _ _ c.add_refusal.ensures (ap (λ place. fields_bytes (place_fields (told place))) (sym c.in-Err.is))
