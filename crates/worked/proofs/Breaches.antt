-- Rules 6, 9 and 10 at one instruction of any module.
use Rattle.std.proofs.Common.{◌≡◌, ℕ, zero, suc, Bool, true, false, not, ◌&&◌, leb, ltb, List, [], ◌∷◌, ◌++◌, length, take, drop, Some, get_or, refl, ap, ◌∙◌}
use Rattle.std.proofs.Math.Bool.{and-false}
use Rattle.std.proofs.lemmas.Option.{none-some}
use Rattle.std.proofs.lemmas.Bool.{false≢true}
use Rattle.isa.specs.declared.instr.Instr.{Instr}
use Rattle.isa.specs.declared.instr.Instr.TheVariants.{New, Def, Kill, Mov, Swap, Calc, Divide, Load, Store, Bal, Branch, Call, Ret, Get, Put, Tick}
use Rattle.isa.specs.Access.{target}
use Rattle.module.specs.declared.rule.Rule.TheVariants.{Stack, Constants, Target}
use Rattle.module.specs.First.{passes}
use Rattle.module.specs.Layout.{count, instr}
use Rattle.module.specs.Rules.{holds, stacks, constants, targets, same_shape, all_variables}
use Rattle.module.specs.Shape.{shape, passed, after as passing_on}

-- rule 6

pub new_holds : (bs : List ℕ) (r i : ℕ) (room : Bool) → instr bs r i ≡ Some New → leb (length (shape bs r i)) 31 ≡ room → holds Stack bs r i ≡ room
new_holds bs r i room e h = ap (passes (stacks (length (shape bs r i)))) e ∙ h

-- rule 9

spared : (s : List Bool) (a : ℕ) → get_or s a false ≡ true → all_variables (take 1 (drop a s)) ≡ false
spared [] a h = absurd (false≢true h)
spared (f ∷ s) zero h = ap (λ g. not g && true) h
spared (f ∷ s) (suc a) h = spared s a h

pub mov_breaks : (bs : List ℕ) (r i a b : ℕ) → instr bs r i ≡ Some (Mov a b) → get_or (shape bs r i) a false ≡ true → holds Constants bs r i ≡ false
mov_breaks bs r i a b e h =
    ap (passes (constants bs r (shape bs r i))) e
    ∙ ap (λ x. x && all_variables (take 0 (drop 0 (shape bs r i)))) (spared (shape bs r i) a h)

-- rule 10

deeper : (s : List Bool) → same_shape (s ++ (false ∷ [])) s ≡ false
deeper [] = refl
deeper (true ∷ s) = deeper s
deeper (false ∷ s) = deeper s

kept_by : (x : Instr) (s : List Bool) (n : ℕ) → target x ≡ Some n → passed x s ≡ s
kept_by New s n h = absurd (none-some n h)
kept_by (Def v) s n h = absurd (none-some n h)
kept_by Kill s n h = absurd (none-some n h)
kept_by (Mov a b) s n h = refl
kept_by (Swap a b) s n h = refl
kept_by (Calc o a b c) s n h = refl
kept_by (Divide p k a b c) s n h = refl
kept_by (Load w a b v) s n h = refl
kept_by (Store w a b v) s n h = refl
kept_by (Bal v) s n h = refl
kept_by (Branch t a b v) s n h = refl
kept_by (Call a b v) s n h = refl
kept_by (Ret a) s n h = refl
kept_by (Get a c) s n h = refl
kept_by (Put b c) s n h = refl
kept_by Tick s n h = refl

pub branch_breaks : (bs : List ℕ) (r i : ℕ) (x : Instr) → instr bs r i ≡ Some x → instr bs r (suc i) ≡ Some New → target x ≡ Some (suc (suc i)) → holds Target bs r i ≡ false
branch_breaks bs r i x e new t =
    let s = shape bs r i in
    let there : shape bs r (suc (suc i)) ≡ s ++ (false ∷ [])
    = (λ j. passing_on (new j) (passing_on (e j) s)) ∙ ap (λ u. u ++ (false ∷ [])) (kept_by x s _ t) in
    ap (passes (targets bs r s)) e
    ∙ ap (passes (λ n. ltb n (count bs r) && same_shape (shape bs r n) s)) t
    ∙ ap (λ u. ltb (suc (suc i)) (count bs r) && same_shape u s) there
    ∙ ap (λ f. ltb (suc (suc i)) (count bs r) && f) (deeper s)
    ∙ and-false (ltb (suc (suc i)) (count bs r))
