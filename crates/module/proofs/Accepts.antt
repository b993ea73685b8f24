-- What an accepted module keeps.
use Rattle.std.proofs.Common.{◌≡◌, ℕ, zero, suc, ◌+◌, ◌-◌, ◌<◌, ◌≤◌, Bool, true, false, not, ◌&&◌, ◌||◌, ltb, ◌⊎◌, List, [], ◌∷◌, length, get_or, take, drop, is_ok, IfOk, Some, None, Ok, Err, Result, sym, refl, ap, ◌∙◌, ⊎_elim, arith, length-drop, length-take}
use Rattle.std.proofs.lemmas.List.{get_or-take, get_or-drop}
use Rattle.std.proofs.lemmas.Bool.{and_parts, and_from, cond-true, eq-eqb, ltb-true, lt-ltb, leb-true, false≢true, not-true}
use Rattle.std.proofs.lemmas.Bool.Decides.{nat_tests}
use Rattle.refusal.specs.Values.{author_at, told}
use Rattle.refusal.specs.declared.Refusal.{Refusal}
use Rattle.isa.specs.declared.access.Span.{Span}
use Rattle.isa.specs.declared.instr.Instr.{Instr}
use Rattle.isa.specs.declared.instr.Instr.TheVariants.{Call, Ret}
use Rattle.isa.specs.Access.{ends}
use Rattle.isa.specs.Form.{well_formed, instruction}
use Rattle.module.specs.declared.body.Body.{Body}
use Rattle.module.specs.declared.checked.Checked.{Checked}
use Rattle.module.specs.declared.opened.Opened.{Opened}
use Rattle.module.specs.declared.rule.Rule.{Rule}
use Rattle.module.specs.declared.rule.Rule.TheVariants.{Form, Stack, Callee, Registers, Constants, Target, Ending}
use Rattle.module.specs.Accepted.{accepted}
use Rattle.module.specs.Bytes.{Octets, octets}
use Rattle.module.specs.First.{passes}
use Rattle.module.specs.Kept.{In, Reads, Writes, Kept, KeptEverywhere}
use Rattle.module.specs.Laid.{Laid}
use Rattle.module.specs.Layout.{routines, count, arguments, results, opening, row_at, instr}
use Rattle.module.specs.Ready.{Everywhere}
use Rattle.module.specs.Rules.{stacks, calls, access_in, both, within_depth, registers, all_variables, spares, constants, same_flag, same_shape, targets, closes, rule_number, rules}
use Rattle.module.specs.Shape.{shape}
use Rattle.module.specs.Told.{bytes_of, bytes_behind}
use Rattle.module.specs.Verdict.{breach, tried}
use Rattle.module.proofs.Depths.{depth_kept}
use Rattle.module.proofs.Opens.{laid, unless_ok}
use Rattle.module.proofs.Passes.{everywhere}

-- the parts of acceptance that are used further
parts : (bs : List ℕ) → accepted bs ≡ true → (is_ok (opening bs) ≡ true) × (is_ok (tried rules bs) ≡ true)
parts bs h =
    let p = and_parts (octets bs) (is_ok (opening bs) && is_ok (tried rules bs)) h in
    and_parts (is_ok (opening bs)) (is_ok (tried rules bs)) p.1

octets_from : (bs : List ℕ) → Octets bs → octets bs ≡ true
octets_from [] h = refl
octets_from (b ∷ bs) h = and_from _ _ (lt-ltb b 256 (h 0)) (octets_from bs (λ k. h (suc k)))

-- an opened module that keeps the rules
pub accepts : (o : Opened) → tried rules (bytes_of o) ≡ Ok tt → accepted (bytes_of o) ≡ true
accepts o keeps = and_from _ _ (octets_from (bytes_of o) o.octets) (and_from _ _ (ap is_ok o.opens) (ap is_ok keeps))

pub accepts_by : (r : Result (Unit {0}) Refusal) (o : Opened) → told r ≡ tried rules (bytes_of o) → IfOk r (λ _. accepted (bytes_of o) ≡ true)
accepts_by (Ok u) o e = accepts o (sym e)
accepts_by (Err x) o e = tt

pub accepts_checked : (m : Checked) → accepted (bytes_of m.opened) ≡ true
accepts_checked m = accepts m.opened m.keeps

pub accepts_body : (t : Body) → accepted (bytes_behind t) ≡ true
accepts_body t = t.keeps

pub accepts_laid : (bs : List ℕ) → accepted bs ≡ true → Laid bs
accepts_laid bs h = laid bs (parts bs h).0

-- all rules hold everywhere
rules_hold : (bs : List ℕ) → is_ok (tried rules bs) ≡ true → (q : Rule) → Everywhere q bs
rules_hold bs h =
    let n = routines bs in
    let a = unless_ok (author_at (rule_number Form)) (breach Form bs n 0) _ h in
    let b = unless_ok (author_at (rule_number Stack)) (breach Stack bs n 0) _ a.1 in
    let c = unless_ok (author_at (rule_number Callee)) (breach Callee bs n 0) _ b.1 in
    let d = unless_ok (author_at (rule_number Registers)) (breach Registers bs n 0) _ c.1 in
    let e = unless_ok (author_at (rule_number Constants)) (breach Constants bs n 0) _ d.1 in
    let f = unless_ok (author_at (rule_number Target)) (breach Target bs n 0) _ e.1 in
    let g = unless_ok (author_at (rule_number Ending)) (breach Ending bs n 0) _ f.1 in
    λ q. elim q as (λ p. Everywhere p bs) [
      | Form ↦ everywhere Form bs a.0
      | Stack ↦ everywhere Stack bs b.0
      | Callee ↦ everywhere Callee bs c.0
      | Registers ↦ everywhere Registers bs d.0
      | Constants ↦ everywhere Constants bs e.0
      | Target ↦ everywhere Target bs f.0
      | Ending ↦ everywhere Ending bs g.0
    ]

pub accepts_rules : (bs : List ℕ) → accepted bs ≡ true → (q : Rule) → Everywhere q bs
accepts_rules bs h = rules_hold bs (parts bs h).1

-- an equation from the test of it
flags_same : (f g : Bool) → same_flag f g ≡ true → f ≡ g
flags_same true g h = sym h
flags_same false true h = absurd (false≢true h)
flags_same false false h = refl

pub shapes_same : (s t : List Bool) → same_shape s t ≡ true → s ≡ t
shapes_same [] [] h = refl
shapes_same [] (g ∷ t) h = absurd (false≢true h)
shapes_same (f ∷ s) [] h = absurd (false≢true h)
shapes_same (f ∷ s) (g ∷ t) h =
    let p = and_parts (same_flag f g) (same_shape s t) h in
    λ i. flags_same f g p.0 i ∷ shapes_same s t p.1 i

-- a variable of a span
variable_at : (s : List Bool) (k : ℕ) → all_variables s ≡ true → k < length s → get_or s k true ≡ false
variable_at [] k h lt = absurd (omega arith)
variable_at (f ∷ s) zero h lt = not-true f (and_parts (not f) (all_variables s) h).0
variable_at (f ∷ s) (suc k) h lt = variable_at s k (and_parts (not f) (all_variables s) h).1 (omega arith)

in_depth : (d : ℕ) (p : Span) (k : ℕ) → within_depth d p ≡ true → In p k → k < d
in_depth d p k h m = omega (arith, leb-true (p.first + p.len) d h, m.0, m.1)

pub in_variables : (s : List Bool) (p : Span) (k : ℕ) → spares s p ≡ true → In p k → k < length s → get_or s k true ≡ false
in_variables s p k h m lt =
    let j = k - p.first in
    let e : p.first + j ≡ k = omega (arith, m.0) in
    let part = drop p.first s in
    let small : j < length (take p.len part) = omega (arith, length-take p.len part, length-drop p.first s, m.0, m.1) in
    sym (get_or-take p.len part j true (omega (arith, m.0, m.1)) ∙ get_or-drop p.first s j true ∙ ap (λ x. get_or s x true) e)
    ∙ variable_at (take p.len part) j h small

module _ (bs : List ℕ) (ok : Laid bs) (all : (q : Rule) → Everywhere q bs) (r i : ℕ) (lr : r < routines bs) (li : i < count bs r) (x : Instr) (e : instr bs r i ≡ Some x) where
  abbrev deep : ℕ
  deep = length (shape bs r i)

  -- a rule at this instruction
  at_x : (f : Instr → Bool) → passes f (instr bs r i) ≡ true → f x ≡ true
  at_x f h = ap (passes f) (sym e) ∙ h

  stack : stacks deep x ≡ true
  stack = at_x (stacks deep) (all Stack r i lr li)

  call : calls bs x ≡ true
  call = at_x (calls bs) (all Callee r i lr li)

  fit : registers bs r deep x ≡ true
  fit = at_x (registers bs r deep) (all Registers r i lr li)

  spare : constants bs r (shape bs r i) x ≡ true
  spare = at_x (constants bs r (shape bs r i)) (all Constants r i lr li)

  aim : targets bs r (shape bs r i) x ≡ true
  aim = at_x (targets bs r (shape bs r i)) (all Target r i lr li)

  close : closes bs r i x ≡ true
  close = at_x (closes bs r i) (all Ending r i lr li)

  reads_fit : both (within_depth deep) (access_in bs r x).reads ≡ true
  reads_fit = (and_parts (both (within_depth deep) (access_in bs r x).reads) (both (within_depth deep) (access_in bs r x).writes) fit).0

  writes_fit : both (within_depth deep) (access_in bs r x).writes ≡ true
  writes_fit = (and_parts (both (within_depth deep) (access_in bs r x).reads) (both (within_depth deep) (access_in bs r x).writes) fit).1

  -- of two spans that pass a test
  one_of : (f : Span → Bool) (P : Type 0) (p : Span × Span) (k : ℕ) → both f p ≡ true → ((q : Span) → f q ≡ true → In q k → P) → In p.0 k ⊎ In p.1 k → P
  one_of f P p k h g =
      let t = and_parts (f p.0) (f p.1) h in ⊎_elim (g p.0 t.0) (g p.1 t.1)

  reads_in : (k : ℕ) → Reads bs r x k → k < deep
  reads_in k = one_of (within_depth deep) (k < deep) (access_in bs r x).reads k reads_fit (λ q h. in_depth deep q k h)

  writes_in : (k : ℕ) → Writes bs r x k → k < deep
  writes_in k = one_of (within_depth deep) (k < deep) (access_in bs r x).writes k writes_fit (λ q h. in_depth deep q k h)

  pub kept : Kept bs r i x
  kept = record {
    formed = all Form r i lr li;
    added = ⊎_elim
        (λ p. leb-true deep 31 (ap (stacks deep) (sym p) ∙ stack))
        (λ p. leb-true deep 31 (ap (stacks deep) (sym p.1) ∙ stack));
    removed = λ p. leb-true 1 deep (ap (stacks deep) (sym p) ∙ stack);
    called = λ a b n p.
        let there : ltb n (routines bs) ≡ true = ap (calls bs) (sym p) ∙ call in
        let spans : registers bs r deep (Call a b n) ≡ true = ap (registers bs r deep) (sym p) ∙ fit in
        let reads : b + arguments bs n ≤ deep = grind (arith, nat_tests) in
        let writes : a + results bs n ≤ deep = grind (arith, nat_tests) in
        (ltb-true n (routines bs) there, reads, writes);
    returned = λ a p.
        let spans : registers bs r deep (Ret a) ≡ true = ap (registers bs r deep) (sym p) ∙ fit in grind (arith, nat_tests);
    read = reads_in;
    written = λ k m.
        let lt = writes_in k m in
        (lt, one_of (spares (shape bs r i)) (get_or (shape bs r i) k true ≡ false) (access_in bs r x).writes k spare (λ q h w. in_variables (shape bs r i) q k h w lt) m);
    aimed = λ n p.
        let there : (ltb n (count bs r) && same_shape (shape bs r n) (shape bs r i)) ≡ true
        = ap (passes (λ m. ltb m (count bs r) && same_shape (shape bs r m) (shape bs r i))) (sym p) ∙ aim in
        let parts = and_parts (ltb n (count bs r)) (same_shape (shape bs r n) (shape bs r i)) there in
        (ltb-true n (count bs r) parts.0, shapes_same (shape bs r n) (shape bs r i) parts.1);
    closed = λ p. ap (λ b. not b || ends x) (sym (eq-eqb (i + 1) (count bs r) p)) ∙ close;
    shallow = depth_kept ok r lr (all Stack) i (omega arith);
  }

-- an accepted module keeps the rules at every instruction
pub accepts_kept : (bs : List ℕ) → accepted bs ≡ true → KeptEverywhere bs
accepts_kept bs h r i lr li =
    let all = accepts_rules bs h in
    let x = instruction (row_at bs r i) in
    let e : instr bs r i ≡ Some x = cond-true (well_formed (row_at bs r i)) (Some x) None (all Form r i lr li) in
    (x, e, kept bs (accepts_laid bs h) all r i lr li x e)
