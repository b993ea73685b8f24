use Rattle.std.proofs.Common.{refl}
use Rattle.words.proofs.Laws.{leaves}
use Rattle.words.proofs.division.divide.Goals as goal

pub returns : goal.returns
returns c =
    record {
      value = c.part_of.ensures;
      law = leaves c.args.kind c.args.b c.args.c c.ranges.c.fits;
      examples = record {
        quotient_towards_zero = refl;
        remainder_towards_zero = refl;
        quotient_downwards = refl;
        remainder_downwards = refl;
        quotient_past_signed = refl;
        remainder_past_signed = refl;
      };
    }
