-- How deep a shape can be.
use Rattle.std.proofs.Common.{◌≡◌, ℕ, zero, suc, ◌+◌, ◌-◌, ◌<◌, ◌≤◌, Bool, true, false, List, length, Some, None, Option, refl, ap, arith, length-take}
use lib.ListN.{length-replicate}
use Rattle.std.proofs.lemmas.List.{length_push}
use Rattle.std.proofs.lemmas.Bool.{leb-true}
use Rattle.isa.specs.declared.instr.Instr.{Instr}
use Rattle.isa.specs.declared.instr.Instr.TheVariants.{New, Def, Kill, Mov, Swap, Calc, Divide, Load, Store, Bal, Branch, Call, Ret, Get, Put, Tick}
use Rattle.module.specs.declared.rule.Rule.TheVariants.{Stack}
use Rattle.module.specs.First.{passes}
use Rattle.module.specs.Laid.{Laid}
use Rattle.module.specs.Layout.{routines, count, arguments, instr}
use Rattle.module.specs.Ready.{Everywhere}
use Rattle.module.specs.Rules.{stacks}
use Rattle.module.specs.Shape.{passed, after, shape}

-- No instruction adds more than one register, and none that keeps the stack rule adds a 33rd.
record Step (x : Instr) (s : List Bool) : Type 0 where
  more : length (passed x s) ≤ length s + 1
  kept : stacks (length s) x ≡ true → length s ≤ 32 → length (passed x s) ≤ 32

same : (x : Instr) (s : List Bool) → passed x s ≡ s → Step x s
same x s e = record { more = omega (arith, ap length e); kept = λ _ h. omega (arith, ap length e) }

step : (x : Instr) (s : List Bool) → Step x s
step New s = record { more = omega (arith, length_push s false); kept = λ e h. omega (arith, leb-true _ _ e, length_push s false) }
step (Def n) s = record { more = omega (arith, length_push s true); kept = λ e h. omega (arith, leb-true _ _ e, length_push s true) }
step Kill s = record { more = omega (arith, length-take (length s - 1) s); kept = λ e h. omega (arith, length-take (length s - 1) s) }
step (Mov a b) s = same (Mov a b) s refl
step (Swap a b) s = same (Swap a b) s refl
step (Calc o a b c) s = same (Calc o a b c) s refl
step (Divide p k a b c) s = same (Divide p k a b c) s refl
step (Load w a b n) s = same (Load w a b n) s refl
step (Store w a b n) s = same (Store w a b n) s refl
step (Bal n) s = same (Bal n) s refl
step (Branch t a b n) s = same (Branch t a b n) s refl
step (Call a b n) s = same (Call a b n) s refl
step (Ret a) s = same (Ret a) s refl
step (Get a c) s = same (Get a c) s refl
step (Put b c) s = same (Put b c) s refl
step Tick s = same Tick s refl

after_more : (o : Option Instr) (s : List Bool) → length (after o s) ≤ length s + 1
after_more None s = omega arith
after_more (Some x) s = (step x s).more

after_kept : (o : Option Instr) (s : List Bool) → passes (stacks (length s)) o ≡ true → length s ≤ 32 → length (after o s) ≤ 32
after_kept None s e h = h
after_kept (Some x) s e h = (step x s).kept e h

module _ {bs : List ℕ} (ok : Laid bs) (r : ℕ) (lt : r < routines bs) where
  begins : length (shape bs r 0) ≤ 32
  begins = omega (arith, length-replicate (arguments bs r) false, (ok.entry r lt).takes)

  -- whatever the instructions are
  pub depth_grows : (i : ℕ) → length (shape bs r i) ≤ 32 + i
  depth_grows zero = omega (arith, begins)
  depth_grows (suc i) = omega (arith, after_more (instr bs r i) (shape bs r i), depth_grows i)

  -- where the stack rule holds
  pub depth_kept : Everywhere Stack bs → (i : ℕ) → i ≤ count bs r → length (shape bs r i) ≤ 32
  depth_kept all zero h = begins
  depth_kept all (suc i) h = after_kept (instr bs r i) (shape bs r i) (all r i lt (omega arith)) (depth_kept all i (omega arith))
