use Rattle.std.proofs.Common.{Some, subst, ◌≡◌, ◌+◌, ◌<◌, ◌∷◌, Bool, true, false, cond, List, None, sym, refl, ap, ◌∙◌, rules, arith}
use Rattle.std.proofs.lemmas.Bool.{cond-true, cond-false, leb-true}
use Rattle.std.specs.Option.{is_some, IfNone}
use Rattle.words.specs.Words.{calculated, divided, passing}
use Rattle.host.specs.Ports.{writing, written}
use Rattle.host.specs.Refusals.{told}
use Rattle.host.proofs.Ticks.{refused_written}
use Rattle.faults.specs.declared.cause.Cause.TheVariants.{ZeroDivisor, MemoryPassed}
use Rattle.faults.specs.Causes.{by_engine}
use Rattle.module.specs.Layout.{count}
use Rattle.module.specs.Told.{bytes_behind}
use Rattle.module.proofs.Accepts.{accepts_body}
use Rattle.machine.specs.declared.within.Stop.TheVariants.{Trip}
use Rattle.machine.specs.Level.{Level, level_of, value, jumped, wrote}
use Rattle.machine.specs.Memory.{fits, loading, storing}
use Rattle.machine.specs.World.{goes, trips, or_trip, or_refused, effect, is_return}
use Rattle.machine.proofs.Soundness.{foretold_ready}
use Rattle.machine.proofs.Steps.{next, on_none}
use Rattle.machine.proofs.Legal.{first_spare, second_spare}
use Rattle.machine.proofs.OwnSteps.{ready_here, moved, stopped}
use Rattle.machine.proofs.frame.Frame.perform.Goals as goal

pub overflow_add-next : goal.overflow_add-next
overflow_add-next g c =
    let t = c.args.code in
    omega (arith, (foretold_ready (bytes_behind t) (accepts_body t) (jumped (level_of c.args.self.now) c.args.pc) c.requires.foretold).2.place_low)

pub invariant_of-site : goal.invariant_of-site
invariant_of-site g c =
    record { there = subst (λ r. c.args.pc < count (bytes_behind c.args.code) r) (sym c.requires.routine) c.requires.foretold.place }

pub push-requires : goal.push-requires
push-requires g c =
    let r = ready_here c.args.code (jumped (level_of c.args.self.now) c.args.pc) c.requires.routine c.instruction.ensures c.requires.foretold c.in-New.is in
    let h = leb-true _ 31 r.legal.stacked in
    omega (arith, h)

pub push-requires-in-Def : goal.push-requires-in-Def
push-requires-in-Def g c =
    let r = ready_here c.args.code (jumped (level_of c.args.self.now) c.args.pc) c.requires.routine c.instruction.ensures c.requires.foretold c.in-Def.is in
    let h = leb-true _ 31 r.legal.stacked in
    omega (arith, h)

pub pop-requires : goal.pop-requires
pop-requires g c =
    let r = ready_here c.args.code (jumped (level_of c.args.self.now) c.args.pc) c.requires.routine c.instruction.ensures c.requires.foretold c.in-Kill.is in
    let h = leb-true 1 _ r.legal.stacked in
    omega (arith, h)

pub read-requires : goal.read-requires
read-requires g c =
    let r = ready_here c.args.code (jumped (level_of c.args.self.now) c.args.pc) c.requires.routine c.instruction.ensures c.requires.foretold c.in-Mov.is in
    omega (arith, r.legal.fit.read)

pub write-requires : goal.write-requires
write-requires g c =
    let r = ready_here c.args.code (jumped (level_of c.args.self.now) c.args.pc) c.requires.routine c.instruction.ensures c.requires.foretold c.in-Mov.is in
    record { there = omega (arith, r.legal.fit.write); variable = first_spare r c.in-Mov.a (omega arith) (omega (arith, r.legal.fit.write)) }

pub swap-requires-clause-first : goal.swap-requires-clause-first
swap-requires-clause-first g c =
    let r = ready_here c.args.code (jumped (level_of c.args.self.now) c.args.pc) c.requires.routine c.instruction.ensures c.requires.foretold c.in-Swap.is in
    omega (arith, r.legal.fit.read)

pub swap-requires-clause-second : goal.swap-requires-clause-second
swap-requires-clause-second g c =
    let r = ready_here c.args.code (jumped (level_of c.args.self.now) c.args.pc) c.requires.routine c.instruction.ensures c.requires.foretold c.in-Swap.is in
    omega (arith, r.legal.fit.read2)

pub swap-requires-clause-variables : goal.swap-requires-clause-variables
swap-requires-clause-variables g c =
    let r = ready_here c.args.code (jumped (level_of c.args.self.now) c.args.pc) c.requires.routine c.instruction.ensures c.requires.foretold c.in-Swap.is in
    (first_spare r c.in-Swap.a (omega arith) (omega (arith, r.legal.fit.read)), second_spare r c.in-Swap.b (omega arith) (omega (arith, r.legal.fit.read2)))

pub read-requires-in-Calc : goal.read-requires-in-Calc
read-requires-in-Calc g c =
    let r = ready_here c.args.code (jumped (level_of c.args.self.now) c.args.pc) c.requires.routine c.instruction.ensures c.requires.foretold c.in-Calc.is in
    omega (arith, r.legal.fit.read)

pub read-requires-in-Calc-2 : goal.read-requires-in-Calc-2
read-requires-in-Calc-2 g c =
    let r = ready_here c.args.code (jumped (level_of c.args.self.now) c.args.pc) c.requires.routine c.instruction.ensures c.requires.foretold c.in-Calc.is in
    omega (arith, r.legal.fit.read2)

pub write-requires-in-Calc : goal.write-requires-in-Calc
write-requires-in-Calc g c =
    let r = ready_here c.args.code (jumped (level_of c.args.self.now) c.args.pc) c.requires.routine c.instruction.ensures c.requires.foretold c.in-Calc.is in
    record { there = omega (arith, r.legal.fit.write); variable = first_spare r c.in-Calc.a (omega arith) (omega (arith, r.legal.fit.write)) }

pub read-requires-in-Divide : goal.read-requires-in-Divide
read-requires-in-Divide g c =
    let r = ready_here c.args.code (jumped (level_of c.args.self.now) c.args.pc) c.requires.routine c.instruction.ensures c.requires.foretold c.in-Divide.is in
    omega (arith, r.legal.fit.read)

pub read-requires-in-Divide-2 : goal.read-requires-in-Divide-2
read-requires-in-Divide-2 g c =
    let r = ready_here c.args.code (jumped (level_of c.args.self.now) c.args.pc) c.requires.routine c.instruction.ensures c.requires.foretold c.in-Divide.is in
    omega (arith, r.legal.fit.read2)

pub write-requires-in-Divide : goal.write-requires-in-Divide
write-requires-in-Divide g c =
    let r = ready_here c.args.code (jumped (level_of c.args.self.now) c.args.pc) c.requires.routine c.instruction.ensures c.requires.foretold c.in-Divide.is in
    record { there = omega (arith, r.legal.fit.write); variable = first_spare r c.in-Divide.a (omega arith) (omega (arith, r.legal.fit.write)) }

pub address-address-requires : goal.address-address-requires
address-address-requires g c =
    let r = ready_here c.args.code (jumped (level_of c.args.self.now) c.args.pc) c.requires.routine c.instruction.ensures c.requires.foretold c.in-Load.is in
    omega (arith, r.legal.fit.read)

pub write-requires-in-Load : goal.write-requires-in-Load
write-requires-in-Load g c =
    let r = ready_here c.args.code (jumped (level_of c.args.self.now) c.args.pc) c.requires.routine c.instruction.ensures c.requires.foretold c.in-Load.is in
    record { there = omega (arith, r.legal.fit.write); variable = first_spare r c.in-Load.a (omega arith) (omega (arith, r.legal.fit.write)) }

pub address-address-requires-in-Store : goal.address-address-requires-in-Store
address-address-requires-in-Store g c =
    let r = ready_here c.args.code (jumped (level_of c.args.self.now) c.args.pc) c.requires.routine c.instruction.ensures c.requires.foretold c.in-Store.is in
    omega (arith, r.legal.fit.read2)

pub read-requires-in-Store : goal.read-requires-in-Store
read-requires-in-Store g c =
    let r = ready_here c.args.code (jumped (level_of c.args.self.now) c.args.pc) c.requires.routine c.instruction.ensures c.requires.foretold c.in-Store.is in
    omega (arith, r.legal.fit.read)

pub read-requires-in-Branch : goal.read-requires-in-Branch
read-requires-in-Branch g c =
    let r = ready_here c.args.code (jumped (level_of c.args.self.now) c.args.pc) c.requires.routine c.instruction.ensures c.requires.foretold c.in-Branch.is in
    omega (arith, r.legal.fit.read)

pub read-requires-in-Branch-2 : goal.read-requires-in-Branch-2
read-requires-in-Branch-2 g c =
    let r = ready_here c.args.code (jumped (level_of c.args.self.now) c.args.pc) c.requires.routine c.instruction.ensures c.requires.foretold c.in-Branch.is in
    omega (arith, r.legal.fit.read2)

pub write-requires-in-Ok : goal.write-requires-in-Ok
write-requires-in-Ok g c =
    let r = ready_here c.args.code (jumped (level_of c.args.self.now) c.args.pc) c.requires.routine c.instruction.ensures c.requires.foretold c.in-Get.is in
    record { there = omega (arith, r.legal.fit.write); variable = first_spare r c.in-Get.a (omega arith) (omega (arith, r.legal.fit.write)) }

pub read-requires-in-Put : goal.read-requires-in-Put
read-requires-in-Put g c =
    let r = ready_here c.args.code (jumped (level_of c.args.self.now) c.args.pc) c.requires.routine c.instruction.ensures c.requires.foretold c.in-Put.is in
    omega (arith, r.legal.fit.read)

pub returns-in-New-clause-moves : goal.returns-in-New-clause-moves
unfolding effect is_return value
returns-in-New-clause-moves g c =
    let l = jumped (level_of c.args.self.now) c.args.pc in
    moved c.args.code l c.requires.routine c.instruction.ensures c.requires.foretold c.in-New.is refl (λ ls. refl) (ap (λ k. jumped k (c.args.pc + 1)) c.push.ensures)

pub returns-in-Def-clause-moves : goal.returns-in-Def-clause-moves
unfolding effect is_return value
returns-in-Def-clause-moves g c =
    let l = jumped (level_of c.args.self.now) c.args.pc in
    moved c.args.code l c.requires.routine c.instruction.ensures c.requires.foretold c.in-Def.is refl (λ ls. refl) (ap (λ k. jumped k (c.args.pc + 1)) c.push-in-Def.ensures)

pub returns-in-Kill-clause-moves : goal.returns-in-Kill-clause-moves
unfolding effect is_return value
returns-in-Kill-clause-moves g c =
    let l = jumped (level_of c.args.self.now) c.args.pc in
    moved c.args.code l c.requires.routine c.instruction.ensures c.requires.foretold c.in-Kill.is refl (λ ls. refl) (ap (λ k. jumped k (c.args.pc + 1)) c.pop.ensures)

pub returns-in-Mov-clause-moves : goal.returns-in-Mov-clause-moves
unfolding effect is_return value
returns-in-Mov-clause-moves g c =
    let l = jumped (level_of c.args.self.now) c.args.pc in
    moved c.args.code l c.requires.routine c.instruction.ensures c.requires.foretold c.in-Mov.is refl (λ ls. refl) (ap (λ k. jumped k (c.args.pc + 1)) c.write.ensures ∙ ap (wrote l c.in-Mov.a) c.read.ensures)

pub returns-in-Swap-clause-moves : goal.returns-in-Swap-clause-moves
unfolding effect is_return value
returns-in-Swap-clause-moves g c =
    let l = jumped (level_of c.args.self.now) c.args.pc in
    moved c.args.code l c.requires.routine c.instruction.ensures c.requires.foretold c.in-Swap.is refl (λ ls. refl) (ap (λ k. jumped k (c.args.pc + 1)) c.swap.ensures)

pub returns-in-Calc-clause-moves : goal.returns-in-Calc-clause-moves
unfolding effect is_return value
returns-in-Calc-clause-moves g c =
    let l = jumped (level_of c.args.self.now) c.args.pc in
    let v = c.calculate-v.ensures ∙ (λ i. calculated c.in-Calc.operation (c.read-in-Calc.ensures i) (c.read-in-Calc-2.ensures i)) in
    moved c.args.code l c.requires.routine c.instruction.ensures c.requires.foretold c.in-Calc.is refl (λ ls. refl) (ap (λ k. jumped k (c.args.pc + 1)) c.write-in-Calc.ensures ∙ ap (wrote l c.in-Calc.a) v)

pub returns-in_ok-v-in-Divide-clause-moves : goal.returns-in_ok-v-in-Divide-clause-moves
unfolding effect is_return value
returns-in_ok-v-in-Divide-clause-moves g c =
    let l = jumped (level_of c.args.self.now) c.args.pc in
    let divides = c.divide-divided.ensures.value ∙ (λ i. divided c.in-Divide.part c.in-Divide.kind (c.read-in-Divide.ensures i) (c.read-in-Divide-2.ensures i)) in
    let found : c.divide-divided.result ≡ Some c.in_ok-v-in-Divide.v = search rules in
    moved c.args.code l c.requires.routine c.instruction.ensures c.requires.foretold c.in-Divide.is refl (λ ls. ap (λ o. or_trip o (by_engine 1 0) (λ v. goes (wrote l c.in-Divide.a v ∷ ls) c.args.memory.now.bytes (g.H.Host.ports c.args.host.now))) (sym divides ∙ found)) (ap (λ k. jumped k (c.args.pc + 1)) c.write-in-Divide.ensures)

pub returns-in_ok-v-in-Load-clause-moves : goal.returns-in_ok-v-in-Load-clause-moves
unfolding effect is_return value
returns-in_ok-v-in-Load-clause-moves g c =
    let l = jumped (level_of c.args.self.now) c.args.pc in
    let loads = c.load-loaded.ensures ∙ ap (λ a. loading c.args.memory.now.bytes a c.in-Load.width) c.address-address.ensures in
    let found : c.load-loaded.result ≡ Some c.in_ok-v-in-Load.v = search rules in
    moved c.args.code l c.requires.routine c.instruction.ensures c.requires.foretold c.in-Load.is refl (λ ls. ap (λ o. or_trip o (by_engine 2 (value l c.in-Load.b + c.in-Load.n)) (λ v. goes (wrote l c.in-Load.a v ∷ ls) c.args.memory.now.bytes (g.H.Host.ports c.args.host.now))) (sym loads ∙ found)) (ap (λ k. jumped k (c.args.pc + 1)) c.write-in-Load.ensures)

pub returns-in_ok-or_trip-in-Store-clause-moves : goal.returns-in_ok-or_trip-in-Store-clause-moves
unfolding effect is_return value
returns-in_ok-or_trip-in-Store-clause-moves g c =
    let l = jumped (level_of c.args.self.now) c.args.pc in
    let at = value l c.in-Store.b + c.in-Store.n in
    let w = c.in-Store.width in
    let address : c.address-address-in-Store.result ≡ at = c.address-address-in-Store.ensures in
    let answer : is_some c.store-stored.result ≡ fits at w = c.store-stored.ensures.answer ∙ ap (λ a. fits a w) address in
    let stores : c.store-stored.new.self.bytes ≡ storing c.args.memory.now.bytes at w (value l c.in-Store.a) =
    c.store-stored.ensures.memory ∙ (λ i. storing c.args.memory.now.bytes (address i) w (c.read-in-Store.ensures i)) in
    let found : c.store-stored.result ≡ Some tt = search rules in
    let fit : fits at w ≡ true = sym answer ∙ ap is_some found in
    let kept = stores ∙ cond-true (fits at w) _ _ fit in
    moved c.args.code l c.requires.routine c.instruction.ensures c.requires.foretold c.in-Store.is refl (λ ls. cond-true (fits at w) _ _ fit ∙ ap (λ bytes. goes (next l ∷ ls) bytes (g.H.Host.ports c.args.host.now)) (sym kept)) refl

pub returns-in-Bal-clause-moves : goal.returns-in-Bal-clause-moves
unfolding effect is_return value
returns-in-Bal-clause-moves g c =
    let l = jumped (level_of c.args.self.now) c.args.pc in
    moved c.args.code l c.requires.routine c.instruction.ensures c.requires.foretold c.in-Bal.is refl (λ ls. refl) refl

pub returns-then-passes-clause-moves : goal.returns-then-passes-clause-moves
unfolding effect is_return value
returns-then-passes-clause-moves g c =
    let l = jumped (level_of c.args.self.now) c.args.pc in
    let goes_to = λ (b : Bool) (ls : List Level). goes (cond b (jumped l c.in-Branch.n) (next l) ∷ ls) c.args.memory.now.bytes (g.H.Host.ports c.args.host.now) in
    let test = c.if-passes.ensures ∙ (λ i. passing c.in-Branch.test (c.read-in-Branch.ensures i) (c.read-in-Branch-2.ensures i)) in
    moved c.args.code l c.requires.routine c.instruction.ensures c.requires.foretold c.in-Branch.is refl (λ ls. ap (λ b. goes_to b ls) (sym test)) refl

pub returns-else-passes-clause-moves : goal.returns-else-passes-clause-moves
unfolding effect is_return value
returns-else-passes-clause-moves g c =
    let l = jumped (level_of c.args.self.now) c.args.pc in
    let goes_to = λ (b : Bool) (ls : List Level). goes (cond b (jumped l c.in-Branch.n) (next l) ∷ ls) c.args.memory.now.bytes (g.H.Host.ports c.args.host.now) in
    let test = c.if-passes.ensures ∙ (λ i. passing c.in-Branch.test (c.read-in-Branch.ensures i) (c.read-in-Branch-2.ensures i)) in
    moved c.args.code l c.requires.routine c.instruction.ensures c.requires.foretold c.in-Branch.is refl (λ ls. ap (λ b. goes_to b ls) (sym test)) refl

pub returns-in-Ok-clause-moves : goal.returns-in-Ok-clause-moves
unfolding effect is_return value
returns-in-Ok-clause-moves g c =
    let l = jumped (level_of c.args.self.now) c.args.pc in
    moved c.args.code l c.requires.routine c.instruction.ensures c.requires.foretold c.in-Get.is refl (λ ls. ap (λ r. or_refused r c.in-Get.c (λ v. goes (wrote l c.in-Get.a v ∷ ls) c.args.memory.now.bytes (g.H.Host.ports c.args.host.now))) (sym c.read-in-Get.ensures.answer ∙ ap told c.in-Ok.is)) (ap (λ k. jumped k (c.args.pc + 1)) c.write-in-Ok.ensures)

pub returns-in-Ok-write-clause-moves : goal.returns-in-Ok-write-clause-moves
unfolding effect is_return value
returns-in-Ok-write-clause-moves g c =
    let l = jumped (level_of c.args.self.now) c.args.pc in
    let ports = g.H.Host.ports c.args.host.now in
    let said : told c.write-in-Put.result ≡ writing ports c.in-Put.c (value l c.in-Put.b) =
    c.write-in-Put.ensures.answer ∙ ap (writing ports c.in-Put.c) c.read-in-Put.ensures in
    let left : g.H.Host.ports c.write-in-Put.new.self ≡ written ports c.in-Put.c (value l c.in-Put.b) =
    c.write-in-Put.ensures.ports ∙ ap (written ports c.in-Put.c) c.read-in-Put.ensures in
    moved c.args.code l c.requires.routine c.instruction.ensures c.requires.foretold c.in-Put.is refl (λ ls. ap (λ r. or_refused r c.in-Put.c (λ _. goes (next l ∷ ls) c.args.memory.now.bytes (written ports c.in-Put.c (value l c.in-Put.b)))) (sym said ∙ ap told c.in-Ok-write.is) ∙ ap (goes (next l ∷ ls) c.args.memory.now.bytes) (sym left)) refl

pub returns-in-Tick-clause-moves : goal.returns-in-Tick-clause-moves
unfolding effect is_return value
returns-in-Tick-clause-moves g c =
    let l = jumped (level_of c.args.self.now) c.args.pc in
    moved c.args.code l c.requires.routine c.instruction.ensures c.requires.foretold c.in-Tick.is refl (λ ls. ap (goes (next l ∷ ls) c.args.memory.now.bytes) (sym c.tick.ensures.ports)) refl

pub returns-in_err-v-in-Divide-clause-stops : goal.returns-in_err-v-in-Divide-clause-stops
unfolding effect value
returns-in_err-v-in-Divide-clause-stops g c =
    let l = jumped (level_of c.args.self.now) c.args.pc in
    let divides = c.divide-divided.ensures.value ∙ (λ i. divided c.in-Divide.part c.in-Divide.kind (c.read-in-Divide.ensures i) (c.read-in-Divide-2.ensures i)) in
    let none : c.divide-divided.result ≡ None = search rules in
    let why : c.or_trip.new.stop ≡ Some (Trip ZeroDivisor) = subst (λ o. IfNone o (c.or_trip.new.stop ≡ Some (Trip ZeroDivisor))) none c.or_trip.ensures.stop in
    on_none c.from_residual.result (rw why (stopped c.args.code l c.requires.routine c.instruction.ensures c.in-Divide.is (λ ls. ap (λ o. or_trip o (by_engine 1 0) (λ v. goes (wrote l c.in-Divide.a v ∷ ls) c.args.memory.now.bytes (g.H.Host.ports c.args.host.now))) (sym divides ∙ none))))

pub returns-in_err-v-in-Load-clause-stops : goal.returns-in_err-v-in-Load-clause-stops
unfolding effect value
returns-in_err-v-in-Load-clause-stops g c =
    let l = jumped (level_of c.args.self.now) c.args.pc in
    let loads = c.load-loaded.ensures ∙ ap (λ a. loading c.args.memory.now.bytes a c.in-Load.width) c.address-address.ensures in
    let none : c.load-loaded.result ≡ None = search rules in
    let why : c.or_trip-in-Load.new.stop ≡ Some (Trip (MemoryPassed c.address-address.result)) = subst (λ o. IfNone o (c.or_trip-in-Load.new.stop ≡ Some (Trip (MemoryPassed c.address-address.result)))) none c.or_trip-in-Load.ensures.stop in
    on_none c.from_residual-in_err-v-in-Load.result (rw why (stopped c.args.code l c.requires.routine c.instruction.ensures c.in-Load.is (λ ls. ap (λ o. or_trip o (by_engine 2 (value l c.in-Load.b + c.in-Load.n)) (λ v. goes (wrote l c.in-Load.a v ∷ ls) c.args.memory.now.bytes (g.H.Host.ports c.args.host.now))) (sym loads ∙ none) ∙ ap (λ a. trips (by_engine 2 a)) (sym c.address-address.ensures))))

pub returns-in_err-or_trip-in-Store-clause-stops : goal.returns-in_err-or_trip-in-Store-clause-stops
unfolding effect value
returns-in_err-or_trip-in-Store-clause-stops g c =
    let l = jumped (level_of c.args.self.now) c.args.pc in
    let at = value l c.in-Store.b + c.in-Store.n in
    let w = c.in-Store.width in
    let address : c.address-address-in-Store.result ≡ at = c.address-address-in-Store.ensures in
    let answer : is_some c.store-stored.result ≡ fits at w = c.store-stored.ensures.answer ∙ ap (λ a. fits a w) address in
    let none : c.store-stored.result ≡ None = search rules in
    let why : c.or_trip-in-Store.new.stop ≡ Some (Trip (MemoryPassed c.address-address-in-Store.result)) = subst (λ o. IfNone o (c.or_trip-in-Store.new.stop ≡ Some (Trip (MemoryPassed c.address-address-in-Store.result)))) none c.or_trip-in-Store.ensures.stop in
    let pass : fits at w ≡ false = sym answer ∙ ap is_some none in
    on_none c.from_residual-in_err-or_trip-in-Store.result (rw why (stopped c.args.code l c.requires.routine c.instruction.ensures c.in-Store.is (λ ls. cond-false (fits at w) _ _ pass ∙ ap (λ a. trips (by_engine 2 a)) (sym address))))

pub returns-in-Err-clause-stops : goal.returns-in-Err-clause-stops
unfolding effect value
returns-in-Err-clause-stops g c =
    let l = jumped (level_of c.args.self.now) c.args.pc in
    stopped c.args.code l c.requires.routine c.instruction.ensures c.in-Get.is (λ ls. ap (λ r. or_refused r c.in-Get.c (λ v. goes (wrote l c.in-Get.a v ∷ ls) c.args.memory.now.bytes (g.H.Host.ports c.args.host.now))) (sym c.read-in-Get.ensures.answer ∙ ap told c.in-Err.is))

pub returns-in-Err-write-clause-stops : goal.returns-in-Err-write-clause-stops
unfolding effect value
returns-in-Err-write-clause-stops g c =
    let l = jumped (level_of c.args.self.now) c.args.pc in
    let ports = g.H.Host.ports c.args.host.now in
    let said : told c.write-in-Put.result ≡ writing ports c.in-Put.c (value l c.in-Put.b) =
    c.write-in-Put.ensures.answer ∙ ap (writing ports c.in-Put.c) c.read-in-Put.ensures in
    let left : g.H.Host.ports c.write-in-Put.new.self ≡ written ports c.in-Put.c (value l c.in-Put.b) =
    c.write-in-Put.ensures.ports ∙ ap (written ports c.in-Put.c) c.read-in-Put.ensures in
    stopped c.args.code l c.requires.routine c.instruction.ensures c.in-Put.is (λ ls. ap (λ r. or_refused r c.in-Put.c (λ _. goes (next l ∷ ls) c.args.memory.now.bytes (written ports c.in-Put.c (value l c.in-Put.b)))) (sym said ∙ ap told c.in-Err-write.is))

pub returns-in-Err-write-clause-rested : goal.returns-in-Err-write-clause-rested
unfolding value
returns-in-Err-write-clause-rested g c =
    let l = jumped (level_of c.args.self.now) c.args.pc in
    let ports = g.H.Host.ports c.args.host.now in
    let said : told c.write-in-Put.result ≡ writing ports c.in-Put.c (value l c.in-Put.b) =
    c.write-in-Put.ensures.answer ∙ ap (writing ports c.in-Put.c) c.read-in-Put.ensures in
    let left : g.H.Host.ports c.write-in-Put.new.self ≡ written ports c.in-Put.c (value l c.in-Put.b) =
    c.write-in-Put.ensures.ports ∙ ap (written ports c.in-Put.c) c.read-in-Put.ensures in
    left ∙ refused_written ports c.in-Put.c (value l c.in-Put.b) _ (sym said ∙ ap told c.in-Err-write.is)
