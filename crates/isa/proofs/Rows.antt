-- A row and its instruction give each other.
use Rattle.std.proofs.Common.{◌≡◌, ℕ, true, false, eqb, Some, None, sym, refl, ap, ◌∙◌, ⊎_elim, arith}
use Rattle.std.proofs.lemmas.Bool.{cases_Bool, cond-true, cond-false, cond_both}
use Rattle.std.proofs.lemmas.Bool.Decides.{nat_tests}
use Rattle.isa.specs.declared.row.Row.{Row}
use Rattle.isa.specs.declared.instr.Operation.TheVariants.{Add, Sub, Mul, And, Or, Xor, Sl, Srl, Sra}
use Rattle.isa.specs.declared.instr.Part.TheVariants.{Quotient, Remainder}
use Rattle.isa.specs.declared.instr.Kind.TheVariants.{Unsigned, TowardsZero, Downwards}
use Rattle.isa.specs.declared.instr.Width.TheVariants.{One, Two, Four}
use Rattle.isa.specs.declared.instr.Test.TheVariants.{Equal, Less, LessSigned}
use Rattle.isa.specs.declared.instr.Instr.{Instr}
use Rattle.isa.specs.declared.instr.Instr.TheVariants.{New, Def, Kill, Mov, Swap, Calc, Divide, Load, Store, Bal, Branch, Call, Ret, Get, Put, Tick}
use Rattle.isa.specs.Form.{within, well_formed, opcode, operation, instruction, decoded, row, encoded}

-- the row of an instruction, whatever its fields are, decodes to it
pub row_decoded : (i : Instr) → decoded (encoded i) ≡ Some i
row_decoded New = refl
row_decoded (Def n) = refl
row_decoded Kill = refl
row_decoded (Mov a b) = refl
row_decoded (Swap a b) = refl
row_decoded (Calc o a b c) = elim o as (λ x. decoded (encoded (Calc x a b c)) ≡ Some (Calc x a b c)) [
  | Add ↦ refl
  | Sub ↦ refl
  | Mul ↦ refl
  | And ↦ refl
  | Or ↦ refl
  | Xor ↦ refl
  | Sl ↦ refl
  | Srl ↦ refl
  | Sra ↦ refl
]
row_decoded (Divide p k a b c) = elim p as (λ x. decoded (encoded (Divide x k a b c)) ≡ Some (Divide x k a b c)) [
  | Quotient ↦ elim k as (λ y. decoded (encoded (Divide Quotient y a b c)) ≡ Some (Divide Quotient y a b c)) [ Unsigned ↦ refl | TowardsZero ↦ refl | Downwards ↦ refl ]
  | Remainder ↦ elim k as (λ y. decoded (encoded (Divide Remainder y a b c)) ≡ Some (Divide Remainder y a b c)) [ Unsigned ↦ refl | TowardsZero ↦ refl | Downwards ↦ refl ]
]
row_decoded (Load w a b n) = elim w as (λ x. decoded (encoded (Load x a b n)) ≡ Some (Load x a b n)) [ One ↦ refl | Two ↦ refl | Four ↦ refl ]
row_decoded (Store w a b n) = elim w as (λ x. decoded (encoded (Store x a b n)) ≡ Some (Store x a b n)) [ One ↦ refl | Two ↦ refl | Four ↦ refl ]
row_decoded (Bal n) = refl
row_decoded (Branch t a b n) = elim t as (λ x. decoded (encoded (Branch x a b n)) ≡ Some (Branch x a b n)) [ Equal ↦ refl | Less ↦ refl | LessSigned ↦ refl ]
row_decoded (Call a b n) = refl
row_decoded (Ret a) = refl
row_decoded (Get a c) = refl
row_decoded (Put b c) = refl
row_decoded Tick = refl

same_row : (x : Row) (op c n : ℕ) → op ≡ x.op → c ≡ x.c → n ≡ x.n → row op x.a x.b c n ≡ x
same_row x op c n p q r = λ i. row (p i) x.a x.b (q i) (r i)

opcode_back : (op : ℕ) → within 5 15 op ≡ true → within 8 9 op ≡ false → opcode (operation op) ≡ op
opcode_back op h k = grind (arith, nat_tests)

back : (x : Row) → well_formed x ≡ true → encoded (instruction x) ≡ x
back x h =
    cond_both (eqb x.op 0) _ _ (λ i. encoded i ≡ x) (λ e. grind (arith, nat_tests)) (λ n1.
    cond_both (eqb x.op 1) _ _ (λ i. encoded i ≡ x) (λ e. grind (arith, nat_tests)) (λ n2.
    cond_both (eqb x.op 2) _ _ (λ i. encoded i ≡ x) (λ e. grind (arith, nat_tests)) (λ n3.
    cond_both (eqb x.op 3) _ _ (λ i. encoded i ≡ x) (λ e. grind (arith, nat_tests)) (λ n4.
    cond_both (eqb x.op 4) _ _ (λ i. encoded i ≡ x) (λ e. grind (arith, nat_tests)) (λ n5.
    cond_both (within 8 9 x.op) _ _ (λ i. encoded i ≡ x) (λ e. grind (arith, nat_tests)) (λ d.
    cond_both (within 5 15 x.op) _ _ (λ i. encoded i ≡ x) (λ e. same_row x _ _ _ (opcode_back x.op e d) refl (grind (arith, nat_tests))) (λ n6.
    cond_both (eqb x.op 16) _ _ (λ i. encoded i ≡ x) (λ e. grind (arith, nat_tests)) (λ n7.
    cond_both (eqb x.op 17) _ _ (λ i. encoded i ≡ x) (λ e. grind (arith, nat_tests)) (λ n8.
    cond_both (eqb x.op 18) _ _ (λ i. encoded i ≡ x) (λ e. grind (arith, nat_tests)) (λ n9.
    cond_both (within 19 21 x.op) _ _ (λ i. encoded i ≡ x) (λ e. grind (arith, nat_tests)) (λ n10.
    cond_both (eqb x.op 22) _ _ (λ i. encoded i ≡ x) (λ e. grind (arith, nat_tests)) (λ n11.
    cond_both (eqb x.op 23) _ _ (λ i. encoded i ≡ x) (λ e. grind (arith, nat_tests)) (λ n12.
    cond_both (eqb x.op 24) _ _ (λ i. encoded i ≡ x) (λ e. grind (arith, nat_tests)) (λ n13.
    cond_both (eqb x.op 25) _ _ (λ i. encoded i ≡ x) (λ e. grind (arith, nat_tests)) (λ n14.
    let last : x.op ≡ 26 = grind (arith, nat_tests) in grind (arith, nat_tests))))))))))))))))

-- and no other row does
pub row_unique : (i : Instr) (x : Row) → decoded x ≡ Some i → encoded i ≡ x
row_unique i x e =
    ⊎_elim
    (λ h. let s : Some (instruction x) ≡ Some i = sym (cond-true _ _ _ h) ∙ e in
    let same : instruction x ≡ i = grind arith in
    ap encoded (sym same) ∙ back x h)
    (λ h. let s : None ≡ Some i = sym (cond-false _ _ _ h) ∙ e in absurd (grind arith))
    (cases_Bool (well_formed x))
