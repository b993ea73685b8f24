-- A module that check accepted is never stuck.
use Rattle.std.proofs.Common.{◌≡◌, ℕ, suc, ◌+◌, ◌-◌, ◌<◌, ◌≤◌, Bool, true, false, not, ◌||◌, eqb, ltb, List, [], ◌∷◌, map, length, get_or, take, drop, set, replicate, Some, None, Ok, Err, Option, Result, sym, refl, ap, ◌∙◌, subst, inl, inr, add-one, arith}
use Rattle.std.proofs.lemmas.List.{map-set, set-get_or, map_push, take-map, length-take-le, length-drop}
use Rattle.std.proofs.lemmas.Bool.{and_parts, and_from, or_left, or_right, cond_both, eq-eqb, lt-ltb, false≢true}
use Rattle.std.specs.List.{AllByRecursion}
use Rattle.refusal.specs.Values.{Values}
use Rattle.isa.specs.declared.instr.Instr.{Instr}
use Rattle.isa.specs.declared.instr.Instr.TheVariants.{New, Def, Kill, Mov, Swap, Calc, Divide, Load, Store, Bal, Branch, Call, Ret, Get, Put, Tick}
use Rattle.isa.specs.Access.{one, target, ends}
use Rattle.words.specs.Words.{divided, passing}
use Rattle.host.specs.declared.port.Port.{Port}
use Rattle.host.specs.Ports.{reading, writing}
use Rattle.faults.specs.Causes.{CauseValues}
use Rattle.module.specs.declared.rule.Rule.{Rule}
use Rattle.module.specs.declared.rule.Rule.TheVariants.{Stack, Callee, Registers, Constants}
use Rattle.module.specs.Accepted.{accepted}
use Rattle.module.specs.First.{passes}
use Rattle.module.specs.Kept.{In, Writes, Kept}
use Rattle.module.specs.Layout.{count, arguments, results, instr}
use Rattle.module.specs.Places.{inside}
use Rattle.module.specs.Rules.{stacks, calls, registers, constants, same_flag, same_shape}
use Rattle.module.specs.Shape.{passed, shape}
use Rattle.module.specs.Shape.{after as shape_after}
use Rattle.module.proofs.Accepts.{accepts_laid, accepts_kept, accepts_rules, shapes_same}
use Rattle.module.proofs.At.{an_instruction}
use Rattle.machine.specs.declared.frame.Register.{Register}
use Rattle.machine.specs.declared.frame.Register.TheVariants.{Variable, Constant}
use Rattle.machine.specs.Level.{Level, level, is_constant, value_of, value, onward, wrote, jumped, copied, values_from, given}
use Rattle.machine.specs.Memory.{fits, loading}
use Rattle.machine.specs.Foretold.{AsForetold, is_foretold, all_foretold, linked, levels_as_foretold, as_foretold_in, as_foretold, NeverStuck}
use Rattle.machine.specs.World.{Phase, running, ended, tripped, World, Move, goes, trips, or_trip, or_refused, into, entered, resumed, handed, effect, shape_of, allowed, allowed_at, here, calls_routine, awaited, able, is_return, after, step_in, while_running, step}
use Rattle.machine.specs.World.{ends as the_end}
use Rattle.machine.proofs.Copies.{values_length}
use Rattle.machine.proofs.Legal.{Ready, length-shape, inside_parts, calls_it, ready_at}
use Rattle.machine.proofs.Steps.{step_in_goes}

-- a shape is the same as itself
same_flag_itself : (f : Bool) → same_flag f f ≡ true
same_flag_itself true = refl
same_flag_itself false = refl

same_shape_lem : (s : List Bool) → same_shape s s ≡ true
same_shape_lem [] = refl
same_shape_lem (f ∷ s) = and_from _ _ (same_flag_itself f) (same_shape_lem s)

-- writing a register that is no constant keeps the shape
shape-set : (rs : List Register) (a v : ℕ) → get_or (shape_of rs) a true ≡ false → shape_of (set rs a (Variable v)) ≡ shape_of rs
shape-set rs a v h =
    map-set is_constant rs a (Variable v) ∙ ap (set (shape_of rs) a) (sym h) ∙ set-get_or (shape_of rs) a true

-- and so does writing several
shape-given : (vs : List ℕ) (rs : List Register) (a : ℕ) → ((k : ℕ) → k < length vs → get_or (shape_of rs) (a + k) true ≡ false) →
    shape_of (given rs a vs) ≡ shape_of rs
shape-given [] rs a h = refl
shape-given (v ∷ vs) rs a h =
    let z : a + 0 ≡ a = omega arith in
    let first = shape-set rs a v (ap (λ n. get_or (shape_of rs) n true) (sym z) ∙ h 0 (omega arith)) in
    let later : (k : ℕ) → k < length vs → get_or (shape_of (set rs a (Variable v))) (a + 1 + k) true ≡ false
    = λ k lt.
    let e : a + 1 + k ≡ a + (k + 1) = omega arith in
    ap (λ s. get_or s (a + 1 + k) true) first ∙ ap (λ n. get_or (shape_of rs) n true) e ∙ h (k + 1) (omega arith) in
    shape-given vs (set rs a (Variable v)) (a + 1) later ∙ first

-- copies are variables
shape-copied : (rs : List Register) (b n : ℕ) → b + n ≤ length rs → shape_of (copied rs b n) ≡ replicate n false
shape-copied rs b n h =
    let all = length-take-le n (drop b rs) (omega (arith, length-drop b rs)) in
    all_false (take n (drop b rs)) ∙ ap (λ k. replicate k false) all
  where
    all_false : (xs : List Register) → shape_of (map (λ x. Variable (value_of x)) xs) ≡ replicate (length xs) false
    all_false [] = refl
    all_false (x ∷ xs) = ap (λ s. false ∷ s) (all_false xs)

-- a register is one of the span of itself
itself : (a : ℕ) → In (one a) a
itself a = (omega arith, omega arith)

module _ (bs : List ℕ) where
  -- the test that a routine is as foretold, read plainly, and back
  told : (l : Level) → is_foretold bs l ≡ true → AsForetold bs l
  unfolding is_foretold
  told l h =
      let p = and_parts (inside bs l.routine l.pc) _ h in
      let q = inside_parts bs l.routine l.pc p.0 in
      record { routine = q.0; place = q.1; registers = shapes_same _ _ p.1 }

  tell : (l : Level) → AsForetold bs l → is_foretold bs l ≡ true
  unfolding is_foretold inside
  tell l t =
      let s = shape bs l.routine l.pc in
      and_from _ _ (and_from _ _ (lt-ltb _ _ t.routine) (lt-ltb _ _ t.place)) (ap (λ x. same_shape x s) t.registers ∙ same_shape_lem s)

  -- a routine that is as foretold, above those that wait
  in_place : (l : Level) (ls : List Level) → is_foretold bs l ≡ true → all_foretold bs ls ≡ true → linked bs l.routine ls ≡ true →
      levels_as_foretold bs (l ∷ ls) ≡ true
  unfolding levels_as_foretold all_foretold
  in_place l ls f h k = and_from _ _ (and_from _ _ f h) k

  -- and these parts of it again
  levels_parts : (l : Level) (ls : List Level) → levels_as_foretold bs (l ∷ ls) ≡ true →
      (is_foretold bs l ≡ true) × (all_foretold bs ls ≡ true) × (linked bs l.routine ls ≡ true)
  unfolding levels_as_foretold all_foretold
  levels_parts l ls h =
      let p = and_parts (all_foretold bs (l ∷ ls)) (linked bs l.routine ls) h in
      let q = and_parts (is_foretold bs l) (all_foretold bs ls) p.0 in
      (q.0, q.1, p.1)

  -- the running routine is as foretold
  pub head_foretold : (l : Level) (ls : List Level) → levels_as_foretold bs (l ∷ ls) ≡ true → AsForetold bs l
  head_foretold l ls h = told l (levels_parts l ls h).0

  -- the running routine moved on, and those that wait did not
  pub head_replaced : (l l' : Level) (ls : List Level) → levels_as_foretold bs (l ∷ ls) ≡ true → AsForetold bs l' → l'.routine ≡ l.routine →
      levels_as_foretold bs (l' ∷ ls) ≡ true
  head_replaced l l' ls h t e =
      let p = levels_parts l ls h in
      in_place l' ls (tell l' t) p.1 (ap (λ r. linked bs r ls) e ∙ p.2)

  -- what an instruction comes to is as foretold
  abbrev Fine : Move → Type 0
  Fine (goes ls memory ports) = levels_as_foretold bs ls ≡ true
  Fine the_end = Unit {0}
  Fine (trips cause) = Unit {0}

  -- and then the machine is as foretold
  after_foretold : (w : World) (l : Level) (m : Move) → levels_as_foretold bs w.levels ≡ true → Fine m → as_foretold bs (after w l m) ≡ true
  unfolding after as_foretold as_foretold_in
  after_foretold w l (goes ls memory ports) h f = f
  after_foretold w l the_end h f = refl
  after_foretold w l (trips cause) h f = h

  -- the test of all nested routines, read plainly
  each : (ls : List Level) → all_foretold bs ls ≡ true → AllByRecursion (AsForetold bs) ls
  unfolding all_foretold
  each [] h = tt
  each (l ∷ ls) h = let p = and_parts (is_foretold bs l) (all_foretold bs ls) h in (told l p.0, each ls p.1)

  each_of : (ls : List Level) → levels_as_foretold bs ls ≡ true → AllByRecursion (AsForetold bs) ls
  unfolding levels_as_foretold
  each_of [] h = tt
  each_of (l ∷ ls) h = each (l ∷ ls) (and_parts (all_foretold bs (l ∷ ls)) (linked bs l.routine ls) h).0

  each_in : (p : Phase) (ls : List Level) → as_foretold_in bs p ls ≡ true → AllByRecursion (AsForetold bs) ls
  unfolding as_foretold_in
  each_in running ls h = each_of ls h
  each_in ended [] h = tt
  each_in ended (l ∷ ls) h = absurd (false≢true h)
  each_in (tripped trip) ls h = each_of ls h

module _ (bs : List ℕ) (ok : accepted bs ≡ true) where
  -- a routine that is as foretold stands at the instruction x, which keeps the rules there
  record At (l : Level) (x : Instr) : Type 0 where
    told : AsForetold bs l
    stands : here bs l ≡ Some x
    is : instr bs l.routine l.pc ≡ Some x
    kept : Kept bs l.routine l.pc x

  at : (l : Level) (x : Instr) → AsForetold bs l → here bs l ≡ Some x → At l x
  at l x t e =
      let k = accepts_kept bs ok l.routine l.pc t.routine t.place in
      let i : instr bs l.routine l.pc ≡ Some x = sym (an_instruction bs l.routine l.pc t.routine t.place) ∙ e in
      let found = k.1 in
      let same : k.0 ≡ x = cc in
      record { told = t; stands = e; is = i; kept = subst (Kept bs l.routine l.pc) same k.2 }

  -- there is such an instruction
  somewhere : (l : Level) → AsForetold bs l → (x : Instr) × At l x
  somewhere l t =
      let k = accepts_kept bs ok l.routine l.pc t.routine t.place in
      (k.0, at l k.0 t (an_instruction bs l.routine l.pc t.routine t.place ∙ k.1))

  module _ (l : Level) (x : Instr) (st : At l x) where
    -- a rule of the check at this instruction
    ruled : (f : Instr → Bool) → passes f (instr bs l.routine l.pc) ≡ true → f x ≡ true
    ruled f h = ap (passes f) (sym st.is) ∙ h

    -- the instruction has a rule
    legal_here : allowed_at bs l (here bs l) ≡ true
    unfolding allowed allowed_at
    legal_here =
        let r = l.routine in
        let s = shape bs r l.pc in
        let rule : (q : Rule) → _ = λ q. accepts_rules bs ok q r l.pc st.told.routine st.told.place in
        ap (allowed_at bs l) st.stands ∙ ap (allowed bs r x) st.told.registers
        ∙ and_from _ _ (ruled (stacks (length s)) (rule Stack))
        (and_from _ _ (ruled (calls bs) (rule Callee))
        (and_from _ _ (ruled (registers bs r (length s)) (rule Registers)) (ruled (constants bs r s) (rule Constants))))

    -- no constant is written
    spared : (k : ℕ) → Writes bs l.routine x k → get_or (shape_of l.registers) k true ≡ false
    spared k w = ap (λ s. get_or s k true) st.told.registers ∙ (st.kept.written k w).1

    -- there are as many registers as foretold
    deep : {n : ℕ} → n ≤ length (shape bs l.routine l.pc) → n ≤ length l.registers
    deep h = omega (arith, length-shape l.registers, ap length st.told.registers)

    -- one instruction on
    on : (rs : List Register) → ends x ≡ false → shape_of rs ≡ passed x (shape_of l.registers) → is_foretold bs (onward l rs) ≡ true
    on rs f s =
        let r = l.routine in
        let last : l.pc + 1 ≡ count bs r → ⊥ = λ e. false≢true (sym f ∙ st.kept.closed e) in
        let more : l.pc + 1 < count bs r = omega (arith, st.told.place) in
        let next : shape_of rs ≡ shape bs r (suc l.pc)
        = s ∙ ap (passed x) st.told.registers ∙ ap (λ o. shape_after o (shape bs r l.pc)) (sym st.is) in
        tell bs (onward l rs) (record { routine = st.told.routine; place = more; registers = next ∙ ap (shape bs r) (sym (add-one l.pc)) })

    -- a branch
    off : (n : ℕ) → target x ≡ Some n → is_foretold bs (jumped l n) ≡ true
    off n e =
        let to = st.kept.aimed n e in
        tell bs (jumped l n) (record { routine = st.told.routine; place = to.0; registers = st.told.registers ∙ sym to.1 })

  -- a routine that waited takes its results
  back : (g : Level) (a b r : ℕ) (vs : List ℕ) → At g (Call a b r) → length vs ≡ results bs r → is_foretold bs (resumed bs g vs) ≡ true
  unfolding resumed into
  back g a b r vs st n =
      let kept = shape-given vs g.registers a (λ k lt. spared g (Call a b r) st (a + k) (inl (omega arith, omega arith))) in
      on g (Call a b r) st _ refl (ap (λ o. shape_of (given g.registers (into bs g.routine o) vs)) st.stands ∙ kept)

  -- so does the newest of those that wait
  hands : (r : ℕ) (vs : List ℕ) (ls : List Level) (memory : List ℕ) (ports : List Port) → all_foretold bs ls ≡ true →
      linked bs r ls ≡ true → length vs ≡ results bs r → Fine bs (handed bs vs ls memory ports)
  unfolding handed resumed all_foretold linked
  hands r vs [] memory ports h k n = tt
  hands r vs (g ∷ gs) memory ports h k n =
      let p = and_parts (is_foretold bs g) (all_foretold bs gs) h in
      let q = and_parts (calls_routine r (here bs g)) (linked bs g.routine gs) k in
      let c = calls_it r (here bs g) q.0 in
      let call = at g (Call c.a c.b r) (told bs g p.0) c.is in
      in_place bs (resumed bs g vs) gs (back g c.a c.b r vs call n) p.1 q.1

  -- a routine begins with its arguments as variables
  begins_with : (l : Level) (a b n : ℕ) → At l (Call a b n) → AsForetold bs (entered bs b n l)
  unfolding entered
  begins_with l a b n st =
      let c = st.kept.called a b n refl in
      let room : b + arguments bs n ≤ length l.registers = deep l _ st c.1 in
      record {
        routine = c.0;
        place = omega (arith, ((accepts_laid bs ok).entry n c.0).full);
        registers = shape-copied l.registers b (arguments bs n) room;
      }

  -- a routine that returns has all its results
  gives : (l : Level) (a : ℕ) → At l (Ret a) → length (values_from l.registers a (results bs l.routine)) ≡ results bs l.routine
  gives l a st = values_length l.registers a (results bs l.routine) (deep l _ st (st.kept.returned a refl))

  module _ (rule : List Port → List Port) (l : Level) (ls : List Level) (memory : List ℕ) (ports : List Port) where
    -- To show P of what any instruction comes to, show it where the same routine goes on as foretold, of a trip, of a call, and of
    -- a return. It takes nothing of those that wait.
    record Cases (P : Move → Type 0) : Type 0 where
      stays : (g : Level) (memory : List ℕ) (ports : List Port) → is_foretold bs g ≡ true → g.routine ≡ l.routine → P (goes (g ∷ ls) memory ports)
      stops : (cause : CauseValues) → P (trips cause)
      enters : (a b n : ℕ) → At l (Call a b n) → P (goes (entered bs b n l ∷ (l ∷ ls)) memory ports)
      leaves : (a : ℕ) → At l (Ret a) → P (handed bs (values_from l.registers a (results bs l.routine)) ls memory ports)
      finishes : P the_end

    module _ (P : Move → Type 0) (cases : Cases P) where
      -- one instruction on with these registers
      moves : (x : Instr) (rs : List Register) {memory : List ℕ} {ports : List Port} → At l x → ends x ≡ false → shape_of rs ≡ passed x (shape_of l.registers) →
          P (goes (onward l rs ∷ ls) memory ports)
      moves x rs st f s = cases.stays (onward l rs) _ _ (on l x st rs f s) refl

      -- one register is written
      writes : (x : Instr) (a v : ℕ) {memory : List ℕ} {ports : List Port} → At l x → ends x ≡ false → passed x (shape_of l.registers) ≡ shape_of l.registers →
          Writes bs l.routine x a → P (goes (wrote l a v ∷ ls) memory ports)
      writes x a v st f s w = moves x (set l.registers a (Variable v)) st f (shape-set l.registers a v (spared l x st a w) ∙ sym s)

      -- a branch
      branches : (x : Instr) (n : ℕ) → At l x → target x ≡ Some n → P (goes (jumped l n ∷ ls) memory ports)
      branches x n st e = cases.stays (jumped l n) _ _ (off l x st n e) refl

      -- where it trips for want of a value, or for the host's refusal, there is no more to show than how it goes on
      or_trip_lem : (o : Option ℕ) (cause : CauseValues) (next : ℕ → Move) → ((v : ℕ) → P (next v)) → P (or_trip o cause next)
      or_trip_lem (Some v) cause next h = h v
      or_trip_lem None cause next h = cases.stops cause

      or_refused_lem : {X : Type 0} (o : Result X Values) (port : ℕ) (next : X → Move) → ((v : X) → P (next v)) → P (or_refused o port next)
      or_refused_lem (Ok v) port next h = h v
      or_refused_lem (Err e) port next h = cases.stops _

      -- P holds of what any instruction comes to
      every : (x : Instr) → At l x → P (effect bs rule x l ls memory ports)
      unfolding effect
      every New st = moves New _ st refl (map_push is_constant l.registers (Variable 0))
      every (Def n) st = moves (Def n) _ st refl (map_push is_constant l.registers (Constant n))
      every Kill st =
          let rs = l.registers in
          let less = ap (λ n. take (n - 1) (shape_of rs)) (sym (length-shape rs)) in
          moves Kill _ st refl (sym (take-map is_constant (length rs - 1) rs) ∙ less)
      every (Mov a b) st = writes (Mov a b) a _ st refl refl (inl (itself a))
      every (Swap a b) st =
          let rs = l.registers in
          let first = shape-set rs a (value l b) (spared l (Swap a b) st a (inl (itself a))) in
          let free = spared l (Swap a b) st b (inr (itself b)) in
          moves (Swap a b) _ st refl (shape-set (set rs a (Variable (value l b))) b (value l a) (ap (λ s. get_or s b true) first ∙ free) ∙ first)
      every (Calc o a b c) st = writes (Calc o a b c) a _ st refl refl (inl (itself a))
      every (Divide p m a b c) st =
          or_trip_lem (divided p m (value l b) (value l c)) _ _ (λ v. writes (Divide p m a b c) a v st refl refl (inl (itself a)))
      every (Load w a b n) st =
          or_trip_lem (loading memory (value l b + n) w) _ _ (λ v. writes (Load w a b n) a v st refl refl (inl (itself a)))
      every (Store w a b n) st =
          cond_both (fits (value l b + n) w) _ _ P (λ _. moves (Store w a b n) l.registers st refl refl) (λ _. cases.stops _)
      every (Bal n) st = branches (Bal n) n st refl
      every (Branch t a b n) st =
          cond_both (passing t (value l a) (value l b)) _ _ (λ g. P (goes (g ∷ ls) memory ports))
          (λ _. branches (Branch t a b n) n st refl)
          (λ _. moves (Branch t a b n) l.registers st refl refl)
      every (Call a b n) st = cond_both (ltb (length ls) 31) _ _ P (λ _. cases.enters a b n st) (λ _. cases.stops _)
      every (Ret a) st = cond_both (eqb l.routine 0) _ _ P (λ _. cases.finishes) (λ _. cases.leaves a st)
      every (Get a c) st = or_refused_lem (reading ports c) _ _ (λ v. writes (Get a c) a v st refl refl (inl (itself a)))
      every (Put b c) st = or_refused_lem (writing ports c (value l b)) _ _ (λ _. moves (Put b c) l.registers st refl refl)
      every Tick st = moves Tick l.registers st refl refl

    module _ (h : is_foretold bs l ≡ true) (hs : all_foretold bs ls ≡ true) (k : linked bs l.routine ls ≡ true) where
      -- a routine that called waits at its call
      calling : (a b n : ℕ) → At l (Call a b n) → levels_as_foretold bs (entered bs b n l ∷ (l ∷ ls)) ≡ true
      unfolding entered all_foretold linked calls_routine
      calling a b n st =
          in_place bs (entered bs b n l) (l ∷ ls) (tell bs (entered bs b n l) (begins_with l a b n st)) (and_from _ _ h hs)
          (and_from _ _ (ap (calls_routine n) st.stands ∙ eq-eqb n n refl) k)

      -- every instruction leaves a machine as foretold
      fine : (x : Instr) → At l x → Fine bs (effect bs rule x l ls memory ports)
      fine = every (Fine bs) (record {
        stays = λ g memory ports f e. in_place bs g ls f hs (ap (λ r. linked bs r ls) e ∙ k);
        stops = λ cause. tt;
        enters = calling;
        leaves = λ a st. hands l.routine _ ls memory ports hs k (gives l a st);
        finishes = tt;
      })

  -- as foretold, a routine that returns is waited for, or is the first
  is_awaited : (r : ℕ) (ls : List Level) → all_foretold bs ls ≡ true → linked bs r ls ≡ true → (eqb r 0 || awaited bs r ls) ≡ true
  unfolding awaited all_foretold linked
  is_awaited r [] h k = or_left _ _ k
  is_awaited r (g ∷ gs) h k =
      let p = somewhere g (told bs g (and_parts (is_foretold bs g) (all_foretold bs gs) h).0) in
      let c = (and_parts (calls_routine r (here bs g)) (linked bs g.routine gs) k).0 in
      or_right (eqb r 0) _ (and_from _ _ (legal_here g p.0 p.1) c)

  -- a next step, after which all is as foretold
  next : (rule : List Port → List Port) (w : World) (ls : List Level) → levels_as_foretold bs w.levels ≡ true → levels_as_foretold bs ls ≡ true →
      (v : World) × (step_in bs rule w ls ≡ Some v) × (as_foretold bs v ≡ true)
  unfolding levels_as_foretold able
  next rule w [] all h = absurd (false≢true h)
  next rule w (l ∷ ls) all h =
      let p = levels_parts bs l ls h in
      let s = somewhere l (told bs l p.0) in
      let m = effect bs rule s.0 l ls w.memory w.ports in
      let can : able bs l ls ≡ true
      = and_from _ _ (legal_here l s.0 s.1) (or_right (not (is_return (here bs l))) _ (is_awaited l.routine ls p.1 p.2)) in (
        after w l m,
        step_in_goes bs rule w l ls s.0 can s.1.stands,
        after_foretold bs w l m all (fine rule l ls w.memory w.ports p.0 p.1 p.2 s.0 s.1),
      )

  -- a routine as foretold stands at an instruction that has a rule there
  pub foretold_ready : (l : Level) → AsForetold bs l → (x : Instr) × (here bs l ≡ Some x) × Ready bs l x
  foretold_ready l t =
      let s = somewhere l t in
      (s.0, s.1.stands, ready_at bs ok l s.0 s.1.stands (legal_here l s.0 s.1))

  -- and has a step whatever waits, but for RET
  pub foretold_able : (l : Level) (ls : List Level) (x : Instr) → AsForetold bs l → here bs l ≡ Some x → is_return (Some x) ≡ false → able bs l ls ≡ true
  unfolding able
  foretold_able l ls x t e n =
      and_from _ _ (legal_here l x (at l x t e)) (or_left (not (is_return (here bs l))) _ (ap (λ o. not (is_return o)) e ∙ ap not n))

  -- no list is its own rest
  no_rest : (l : Level) (ls : List Level) → l ∷ ls ≡ ls → ⊥
  no_rest l ls e = let n : suc (length ls) ≡ length ls = ap length e in omega (arith, n)

  module _ (rule : List Port → List Port) (l l' : Level) (ls : List Level) (memory memory' : List ℕ) (ports ports' : List Port) where
    -- a return leaves fewer that wait
    not_handed : (vs : List ℕ) (ls : List Level) → handed bs vs ls memory ports ≡ goes (l' ∷ ls) memory' ports' → ⊥
    unfolding handed
    not_handed vs [] e = let z : ◌≡◌ {A = ℕ} 0 1 = cc in omega arith
    not_handed vs (g ∷ gs) e = let rest : gs ≡ g ∷ gs = cc in no_rest g gs (sym rest)

    -- where the run goes on and the same routines wait, the running one is as foretold, and is the same
    abbrev Stays : Move → Type 0
    Stays m = m ≡ goes (l' ∷ ls) memory' ports' → (AsForetold bs l') × (l'.routine ≡ l.routine)

    stays_lem : (x : Instr) → At l x → Stays (effect bs rule x l ls memory ports)
    stays_lem = every rule l ls memory ports Stays (record {
      stays = λ g memory ports f r e. let same : g ≡ l' = cc in (told bs l' (ap (is_foretold bs) (sym same) ∙ f), ap (λ (z : Level). z.routine) (sym same) ∙ r);
      stops = λ cause e. let z : ◌≡◌ {A = ℕ} 0 1 = cc in absurd (omega arith);
      enters = λ a b n st e. let rest : l ∷ ls ≡ ls = cc in absurd (no_rest l ls rest);
      leaves = λ a st e. absurd (not_handed _ ls e);
      finishes = λ e. let z : ◌≡◌ {A = ℕ} 0 1 = cc in absurd (omega arith);
    })

  -- Where the run goes on and the same routines wait, the running one is as foretold. It takes nothing of those that wait.
  pub stays_in_routine : (rule : List Port → List Port) (l l' : Level) (x : Instr) (ls : List Level) (memory memory' : List ℕ) (ports ports' : List Port) →
      AsForetold bs l → here bs l ≡ Some x → effect bs rule x l ls memory ports ≡ goes (l' ∷ ls) memory' ports' → AsForetold bs l'
  stays_in_routine rule l l' x ls memory memory' ports ports' t h e = (stays_lem rule l l' ls memory memory' ports ports' x (at l x t h) e).0

  -- and it is the same routine
  pub same_routine : (rule : List Port → List Port) (l l' : Level) (x : Instr) (ls : List Level) (memory memory' : List ℕ) (ports ports' : List Port) →
      AsForetold bs l → here bs l ≡ Some x → effect bs rule x l ls memory ports ≡ goes (l' ∷ ls) memory' ports' → l'.routine ≡ l.routine
  same_routine rule l l' x ls memory memory' ports ports' t h e = (stays_lem rule l l' ls memory memory' ports ports' x (at l x t h) e).1

  -- routine 0 begins with no registers
  first_place_lem : AsForetold bs (level 0 0 [])
  first_place_lem =
      let laid = accepts_laid bs ok in
      record {
        routine = omega (arith, laid.some);
        place = omega (arith, (laid.entry 0 (omega (arith, laid.some))).full);
        registers = ap (λ n. replicate n false) (sym laid.main.0);
      }

-- an accepted module is never stuck
pub never_stuck : (bs : List ℕ) → accepted bs ≡ true → NeverStuck bs
unfolding as_foretold as_foretold_in step all_foretold linked
never_stuck bs ok = record {
  begins = λ ports. in_place bs (level 0 0 []) [] (tell bs (level 0 0 []) (first_place_lem bs ok)) refl refl;
  goes_on = λ rule w e h.
      let all = ap (λ p. as_foretold_in bs p w.levels) (sym e) ∙ h in
      let n = next bs ok rule w w.levels all all in
      (n.0, ap (λ p. while_running p (step_in bs rule w w.levels)) e ∙ n.1, n.2);
  foretold = λ w h. each_in bs w.phase w.levels h;
}
