use Rattle.std.proofs.Common.{◌∙◌, arith}
use Rattle.words.proofs.Readings.{shifted_is}
use Rattle.words.proofs.calculation.shift_signed.Goals as goal

pub returns-then-c-lt32 : goal.returns-then-c-lt32
returns-then-c-lt32 c =
    c.cast_unsigned.ensures
    ∙ shifted_is c.args.b c.args.c c.cast_signed.result (omega arith) (omega arith) c.cast_signed.type_inv c.cast_signed.ensures
