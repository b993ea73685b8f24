-- The bytes of a checked module.
use Rattle.std.specs.Prelude.{ℕ, Bool, ◌&&◌, List, is_ok}
use Rattle.module.specs.Bytes.{octets}
use Rattle.module.specs.Layout.{opening}
use Rattle.module.specs.Rules.{rules}
use Rattle.module.specs.Verdict.{tried}

-- they are bytes that open, and keep all seven rules
abbrev pub accepted : List ℕ → Bool
accepted bs = octets bs && (is_ok (opening bs) && is_ok (tried rules bs))
