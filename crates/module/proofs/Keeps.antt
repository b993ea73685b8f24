-- One rule at one instruction, read off the sheet.
use Rattle.std.proofs.Common.{◌≡◌, ℕ, ◌+◌, ◌<◌, Bool, true, not, ◌&&◌, ◌||◌, eqb, List, length, get_or, Some, ap, ◌∙◌, arith}
use Rattle.isa.specs.declared.access.Access.{Access}
use Rattle.isa.specs.declared.instr.Instr.{Instr}
use Rattle.isa.specs.Access.{ends}
use Rattle.module.specs.declared.routine.Routine.{Routine}
use Rattle.module.specs.declared.rule.Rule.{Rule}
use Rattle.module.specs.declared.rule.Rule.TheVariants.{Stack, Callee, Registers, Constants, Target, Ending}
use Rattle.module.specs.declared.shape.ShapeRow.{ShapeRow}
use Rattle.module.specs.First.{passes}
use Rattle.module.specs.Layout.{count, instr}
use Rattle.module.specs.Ready.{InTurn, Shallow}
use Rattle.module.specs.Rules.{stacks, calls, access_in, both, within_depth, registers, spares, constants, targets, closes, holds, rule_number}
use Rattle.module.specs.Shape.{shape, row_of}
use Rattle.module.specs.Told.{bytes_in}
use Rattle.module.specs.Verdict.{blank}
use Rattle.module.proofs.Depths.{depth_kept}
use Rattle.module.proofs.Lookup.{rows_long, row_at_lem}
use Rattle.module.proofs.Opens.{opened_laid, routine_in}

module _ (q : Rule) (t : Routine) (rows : List ShapeRow) (w : InTurn q t rows) (i : ℕ) (lt : i < count (bytes_in t) t.index) (x : Instr) (e : Some x ≡ instr (bytes_in t) t.index i) where
  abbrev bs : List ℕ
  bs = bytes_in t

  abbrev r : ℕ
  r = t.index

  abbrev here : ShapeRow
  here = get_or rows i blank

  pub here_is : here ≡ row_of (shape bs r i)
  here_is = row_at_lem bs r rows w.filled i lt

  depth_is : here.depth ≡ length (shape bs r i)
  depth_is = ap (λ y. y.depth) here_is

  -- rules that stand before
  pub calls_here : rule_number Callee < rule_number q → calls bs x ≡ true
  calls_here h = ap (passes (calls bs)) e ∙ w.earlier Callee h r i (routine_in t) lt

  pub shallow : rule_number Stack < rule_number q → Shallow bs r
  shallow h j l = depth_kept (opened_laid t.module.now) r (routine_in t) (w.earlier Stack h) j (omega arith)

  pub stack_kept : (b : Bool) → b ≡ stacks here.depth x → b ≡ holds Stack bs r i
  stack_kept b p = p ∙ ap (λ d. stacks d x) depth_is ∙ ap (passes (stacks (length (shape bs r i)))) e

  pub registers_kept : (b : Bool) (g : Access) → g ≡ access_in bs r x → b ≡ (both (within_depth here.depth) g.reads && both (within_depth here.depth) g.writes) → b ≡ holds Registers bs r i
  registers_kept b g p s =
      s ∙ (λ j. both (within_depth (depth_is j)) (p j).reads && both (within_depth (depth_is j)) (p j).writes)
      ∙ ap (passes (registers bs r (length (shape bs r i)))) e

  pub constants_kept : (b : Bool) (g : Access) → g ≡ access_in bs r x → b ≡ both (spares (shape bs r i)) g.writes → b ≡ holds Constants bs r i
  constants_kept b g p s =
      s ∙ ap (λ (y : Access). both (spares (shape bs r i)) y.writes) p ∙ ap (passes (constants bs r (shape bs r i))) e

  pub target_kept : (b : Bool) → b ≡ targets bs r (shape bs r i) x → b ≡ holds Target bs r i
  target_kept b s = s ∙ ap (passes (targets bs r (shape bs r i))) e

  pub ending_kept : (b : Bool) → b ≡ (not (eqb (i + 1) (length rows)) || ends x) → b ≡ holds Ending bs r i
  ending_kept b s =
      s ∙ ap (λ n. not (eqb (i + 1) n) || ends x) (rows_long bs r rows w.filled) ∙ ap (passes (closes bs r i)) e
