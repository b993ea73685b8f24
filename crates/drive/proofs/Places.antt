-- Where a drive stands.
use Rattle.std.proofs.Common.{◌≡◌, ℕ, ◌<◌, List, [], ◌∷◌, Some, Option, Bor, sym, ap, ◌∙◌, subst, arith}
use Rattle.std.specs.List.{AllByRecursion, slice_get}
use Rattle.module.proofs.Accepts.{accepts_checked, accepts_laid}
use Rattle.std.specs.Option.{option_map}
use Rattle.machine.specs.declared.frame.Frame.{Frame}
use Rattle.machine.specs.Level.{Level, level_of}
use Rattle.machine.specs.Foretold.{AsForetold}
use Rattle.drive.specs.declared.drive.Drive.{Drive}
use Rattle.drive.specs.View.{module_of, world_in}
use Rattle.drive.proofs.Stepping.{never, foretold_in}

first_foretold : (bs : List ℕ) (levels : List Level) (l : Level) → AllByRecursion (AsForetold bs) levels → Some l ≡ slice_get levels 0 → AsForetold bs l
first_foretold bs [] l all is = absurd cc
first_foretold bs (x ∷ levels) l all is =
    let same : x ≡ l = cc in
    subst (AsForetold bs) same all.0

-- the numbers of the place of the running routine are small
pub small_place : (d : Drive) (found : Option (Bor Frame)) (frame : Bor Frame)
    → option_map (λ (f : Bor Frame). level_of f.now) found ≡ slice_get (world_in d []).levels 0
    → found ≡ Some frame
    → ((level_of frame.now).routine < 65536) × ((level_of frame.now).pc < 65536)
small_place d found frame first is =
    let bs = module_of d in
    let laid = accepts_laid bs (accepts_checked d.machine.checked) in
    let l = level_of frame.now in
    let there : Some l ≡ slice_get (world_in d []).levels 0 = sym (ap (λ o. option_map (λ (f : Bor Frame). level_of f.now) o) is) ∙ first in
    let at = first_foretold bs (world_in d []).levels l ((never d).foretold (world_in d []) (foretold_in d [])) there in
    (omega (arith, at.routine, laid.few), omega (arith, at.place, (laid.entry l.routine at.routine).inside, laid.short))
