-- What it asks of registers that an instruction has a rule there.
use Rattle.std.proofs.Common.{◌≡◌, ℕ, ◌+◌, ◌<◌, ◌≤◌, Bool, true, false, cond, not, ◌&&◌, ◌||◌, eqb, ltb, List, [], ◌∷◌, length, Some, None, Option, sym, refl, ap, ◌∙◌, subst, arith}
use Rattle.std.proofs.lemmas.List.{length-map, get_or-map}
use Rattle.std.proofs.lemmas.Bool.{and_parts, ltb-true, leb-true, eqb-true, ne_eqb, false≢true}
use Rattle.isa.specs.declared.access.Access.{Access}
use Rattle.isa.specs.declared.access.Span.{Span}
use Rattle.isa.specs.declared.instr.Instr.{Instr}
use Rattle.isa.specs.declared.instr.Instr.TheVariants.{New, Def, Kill, Mov, Swap, Calc, Divide, Load, Store, Bal, Branch, Call, Ret, Get, Put, Tick}
use Rattle.module.specs.declared.body.Body.{Body}
use Rattle.module.specs.Accepted.{accepted}
use Rattle.module.specs.Told.{bytes_behind}
use Rattle.module.specs.Kept.{In}
use Rattle.module.specs.Laid.{Laid}
use Rattle.module.specs.Layout.{routines, count, instr}
use Rattle.module.specs.Places.{inside, instr_at}
use Rattle.module.proofs.Accepts.{accepts_laid, accepts_body, in_variables}
use Rattle.module.specs.Rules.{stacks, calls, access_in, both, within_depth, registers, spares, constants}
use Rattle.machine.specs.declared.frame.Register.{Register}
use Rattle.machine.specs.declared.frame.Register.TheVariants.{Variable}
use Rattle.machine.specs.Level.{Level, is_constant, variable_at}
use Rattle.machine.specs.declared.machine.Machine.{Machine}
use Rattle.machine.specs.Nested.{running_routine, waiting, newest_of}
use Rattle.machine.specs.World.{shape_of, allowed, allowed_at, here, calls_routine, awaited, is_return, able}

pub length-shape : (rs : List Register) → length (shape_of rs) ≡ length rs
length-shape rs = length-map rs is_constant

-- the spans of registers that are read, and the first that is written, lie below the depth
pub record Fit (access : Access) (depth : ℕ) : Type 0 where
  pub read : access.reads.0.first + access.reads.0.len ≤ depth
  pub read2 : access.reads.1.first + access.reads.1.len ≤ depth
  pub write : access.writes.0.first + access.writes.0.len ≤ depth

-- what a rule asks of an instruction x of routine r at so many registers
pub record Legal (bs : List ℕ) (r : ℕ) (x : Instr) (depth : ℕ) : Type 0 where
  pub stacked : stacks depth x ≡ true
  pub called : calls bs x ≡ true
  pub fit : Fit (access_in bs r x) depth

pub legal : (bs : List ℕ) (r : ℕ) (x : Instr) (s : List Bool) → allowed bs r x s ≡ true → Legal bs r x (length s)
unfolding allowed
legal bs r x s h =
    let d = length s in
    let acc = access_in bs r x in
    let p = and_parts (stacks d x) (calls bs x && (registers bs r d x && constants bs r s x)) h in
    let q = and_parts (calls bs x) (registers bs r d x && constants bs r s x) p.1 in
    let t = and_parts (registers bs r d x) (constants bs r s x) q.1 in
    let u = and_parts (both (within_depth d) acc.reads) (both (within_depth d) acc.writes) t.0 in
    let reads = and_parts (within_depth d acc.reads.0) (within_depth d acc.reads.1) u.0 in
    let writes = and_parts (within_depth d acc.writes.0) (within_depth d acc.writes.1) u.1 in
    record {
      stacked = p.0;
      called = q.0;
      fit = record {
        read = leb-true _ d reads.0;
        read2 = leb-true _ d reads.1;
        write = leb-true _ d writes.0;
      };
    }

-- it writes no constant
pub spared : (bs : List ℕ) (r : ℕ) (x : Instr) (s : List Bool) → allowed bs r x s ≡ true → constants bs r s x ≡ true
unfolding allowed
spared bs r x s h =
    let p = and_parts (stacks (length s) x) (calls bs x && (registers bs r (length s) x && constants bs r s x)) h in
    let q = and_parts (calls bs x) (registers bs r (length s) x && constants bs r s x) p.1 in
    (and_parts (registers bs r (length s) x) (constants bs r s x) q.1).1

-- A routine that stands at the instruction x, which has a rule there. In a module that is laid out as the format says, places
-- have small numbers.
pub record Ready (bs : List ℕ) (l : Level) (x : Instr) : Type 0 where
  pub stands : here bs l ≡ Some x
  pub legal : Legal bs l.routine x (length l.registers)
  pub spare : both (spares (shape_of l.registers)) (access_in bs l.routine x).writes ≡ true
  pub routine : l.routine < routines bs
  pub routine_low : l.routine < 65536
  pub place_low : l.pc < 65536

pub inside_parts : (bs : List ℕ) (r i : ℕ) → inside bs r i ≡ true → (r < routines bs) × (i < count bs r)
unfolding inside
inside_parts bs r i h =
    let p = and_parts (ltb r (routines bs)) (ltb i (count bs r)) h in
    (ltb-true r (routines bs) p.0, ltb-true i (count bs r) p.1)

pub some_if : {X : Type 0} (b : Bool) (o : Option X) (x : X) → cond b o None ≡ Some x → b ≡ true
some_if true o x e = refl
some_if false o x e = let z : ◌≡◌ {A = ℕ} 0 1 = cc in absurd (omega arith)

-- an instruction stands at a place that there is
pub placed : (bs : List ℕ) (r i : ℕ) (x : Instr) → instr_at bs r i ≡ Some x → (r < routines bs) × (i < count bs r)
unfolding instr_at
placed bs r i x e = inside_parts bs r i (some_if (inside bs r i) (instr bs r i) x e)

-- in a module that is laid out as the format says, a place has small numbers
pub low : (bs : List ℕ) → Laid bs → (r i : ℕ) → r < routines bs → i < count bs r → (r < 65536) × (i < 65536)
low bs laid r i h g =
    let entry = laid.entry r h in
    (omega (arith, h, laid.few), omega (arith, g, entry.inside, laid.short))

module _ (bs : List ℕ) (ok : accepted bs ≡ true) where
  -- a routine that stands at an instruction, which has a rule there
  pub ready_at : (l : Level) (x : Instr) → here bs l ≡ Some x → allowed_at bs l (here bs l) ≡ true → Ready bs l x
  unfolding allowed_at
  ready_at l x e h =
      let p = placed bs l.routine l.pc x e in
      let small = low bs (accepts_laid bs ok) l.routine l.pc p.0 p.1 in
      let rules = legal bs l.routine x (shape_of l.registers) (sym (ap (allowed_at bs l) e) ∙ h) in
      record {
        stands = e;
        legal = subst (Legal bs l.routine x) (length-shape l.registers) rules;
        spare = spared bs l.routine x (shape_of l.registers) (sym (ap (allowed_at bs l) e) ∙ h);
        routine = p.0;
        routine_low = small.0;
        place_low = small.1;
      }

  pub ready : (l : Level) (ls : List Level) (x y : Instr) → able bs l ls ≡ true → here bs l ≡ Some x → x ≡ y → Ready bs l y
  unfolding able
  ready l ls x y h e is = ready_at l y (e ∙ ap Some is) (and_parts (allowed_at bs l (here bs l)) _ h).0

-- the running routine of a machine, over a body of its module
pub stands_ready : (t : Body) (m : Machine) (x : Instr) {y : Instr} → able (bytes_behind t) (running_routine m.stack) (waiting m.stack) ≡ true →
    here (bytes_behind t) (running_routine m.stack) ≡ Some x → x ≡ y → Ready (bytes_behind t) (running_routine m.stack) y
stands_ready t m x h e is = ready (bytes_behind t) (accepts_body t) (running_routine m.stack) (waiting m.stack) x _ h e is

-- the registers that it writes are variables
module _ {bs : List ℕ} {l : Level} {x : Instr} (r : Ready bs l x) where
  in_span : (p : Span) (k : ℕ) → spares (shape_of l.registers) p ≡ true → In p k → k < length l.registers → variable_at l k
  in_span p k h m lt =
      sym (get_or-map is_constant l.registers k (Variable 0) true lt)
      ∙ in_variables (shape_of l.registers) p k h m (omega (arith, lt, length-shape l.registers))

  parts : (spares (shape_of l.registers) (access_in bs l.routine x).writes.0 ≡ true) × (spares (shape_of l.registers) (access_in bs l.routine x).writes.1 ≡ true)
  parts = and_parts (spares (shape_of l.registers) (access_in bs l.routine x).writes.0) _ r.spare

  pub first_spare : (k : ℕ) → In (access_in bs l.routine x).writes.0 k → k < length l.registers → variable_at l k
  first_spare k m lt = in_span (access_in bs l.routine x).writes.0 k parts.0 m lt

  pub second_spare : (k : ℕ) → In (access_in bs l.routine x).writes.1 k → k < length l.registers → variable_at l k
  second_spare k m lt = in_span (access_in bs l.routine x).writes.1 k parts.1 m lt

-- the newest of the routines that wait stands at a call of routine r
pub record Waits (bs : List ℕ) (r : ℕ) (ls : List Level) : Type 0 where
  pub a : ℕ
  pub b : ℕ
  pub some : 0 < length ls
  pub caller : Ready bs (newest_of ls) (Call a b r)

-- a test of what an instruction calls, as the instruction
pub record Calls (r : ℕ) (o : Option Instr) : Type 0 where
  pub a : ℕ
  pub b : ℕ
  pub is : o ≡ Some (Call a b r)

pub calls_it : (r : ℕ) (o : Option Instr) → calls_routine r o ≡ true → Calls r o
unfolding calls_routine
calls_it r None h = absurd (false≢true h)
calls_it r (Some New) h = absurd (false≢true h)
calls_it r (Some (Def n)) h = absurd (false≢true h)
calls_it r (Some Kill) h = absurd (false≢true h)
calls_it r (Some (Mov a b)) h = absurd (false≢true h)
calls_it r (Some (Swap a b)) h = absurd (false≢true h)
calls_it r (Some (Calc o a b c)) h = absurd (false≢true h)
calls_it r (Some (Divide p k a b c)) h = absurd (false≢true h)
calls_it r (Some (Load w a b n)) h = absurd (false≢true h)
calls_it r (Some (Store w a b n)) h = absurd (false≢true h)
calls_it r (Some (Bal n)) h = absurd (false≢true h)
calls_it r (Some (Branch t a b n)) h = absurd (false≢true h)
calls_it r (Some (Call a b n)) h = record { a = a; b = b; is = ap (λ m. Some (Call a b m)) (eqb-true n r h) }
calls_it r (Some (Ret a)) h = absurd (false≢true h)
calls_it r (Some (Get a c)) h = absurd (false≢true h)
calls_it r (Some (Put b c)) h = absurd (false≢true h)
calls_it r (Some Tick) h = absurd (false≢true h)

or_true : (x y : Bool) → (x || y) ≡ true → x ≡ false → y ≡ true
or_true x y h e = sym (ap (λ b. b || y) e) ∙ h

module _ (bs : List ℕ) (ok : accepted bs ≡ true) where
  waits : (r : ℕ) (ls : List Level) → awaited bs r ls ≡ true → Waits bs r ls
  unfolding awaited
  waits r [] h = absurd (false≢true h)
  waits r (g ∷ gs) h =
      let p = and_parts (allowed_at bs g (here bs g)) (calls_routine r (here bs g)) h in
      let call = calls_it r (here bs g) p.1 in
      record { a = call.a; b = call.b; some = omega arith; caller = ready_at bs ok g (Call call.a call.b r) call.is p.0 }

  -- a routine other than 0 that returns is waited for
  pub returning : (l : Level) (ls : List Level) (a : ℕ) → able bs l ls ≡ true → here bs l ≡ Some (Ret a) → (l.routine ≡ 0 → ⊥) → Waits bs l.routine ls
  unfolding able is_return
  returning l ls a h e n =
      let p = (and_parts (allowed_at bs l (here bs l)) _ h).1 in
      let q = or_true (not (is_return (here bs l))) _ p (ap (λ o. not (is_return o)) e) in
      waits l.routine ls (or_true (eqb l.routine 0) _ q (ne_eqb l.routine 0 n))
