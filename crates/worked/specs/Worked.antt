-- The worked cases. A case that holds of all inputs is said of all.
use Rattle.std.specs.Prelude.{◌≡◌, ◌≢◌, ℕ, suc, ◌+◌, ◌-◌, ◌^◌, ◌<◌, ◌≤◌, true, false, List, [], ◌∷◌, ◌++◌, length, take, replicate, Some, Ok, Err, is_ok, slice_index_or}
use Rattle.refusal.specs.Values.{author}
use Rattle.isa.specs.declared.instr.Instr.{Instr}
use Rattle.isa.specs.declared.instr.Instr.TheVariants.{New, Def, Mov, Load, Store, Bal, Branch, Ret, Get, Put, Tick}
use Rattle.isa.specs.declared.instr.Operation.TheVariants.{Sl, Srl, Sra}
use Rattle.isa.specs.declared.instr.Test.TheVariants.{Equal}
use Rattle.isa.specs.declared.instr.Width.{Width}
use Rattle.isa.specs.declared.instr.Width.TheVariants.{Four}
use Rattle.isa.specs.Access.{target}
use Rattle.words.specs.Words.{calculated, DivisionExamples}
use Rattle.module.specs.declared.rule.Rule.TheVariants.{Stack, Constants, Target}
use Rattle.module.specs.Bytes.{four}
use Rattle.module.specs.Layout.{routines, image_length, counts_right, instr, opening}
use Rattle.module.specs.Rules.{holds}
use Rattle.module.specs.Shape.{shape}
use Rattle.module.specs.Verdict.{checking}
use Rattle.host.specs.declared.port.Port.{Port}
use Rattle.host.specs.Axis.{ports_with, new_axis, OrderedTo120}
use Rattle.faults.specs.Faults.{FaultValues}
use Rattle.machine.specs.Level.{Level, value, wrote}
use Rattle.machine.specs.World.{running, ended, tripped, World, world, step}
use Rattle.machine.specs.Fuel.{TickRule}
use Rattle.drive.specs.declared.call.Call.TheVariants.{Restart}
use Rattle.drive.specs.Calls.{outcome}
use Rattle.drive.specs.Log.{Log, after_call}
use Rattle.drive.specs.View.{noted_all}
use Rattle.worked.specs.Modules.{contents, sample_bytes, raised_bytes, program, load_at, Checks}
use Rattle.worked.specs.Runs.{StandsAt, passed_at, refused_at_2, granted, Grants}

pub record Worked : Type 0 where
  -- The sample has 60 bytes: NEW, DEF 1200, PUT 1 to port 0, TICK, GET 0 from port 2, RET 0.
  pub sample_length : length sample_bytes ≡ 60
  pub sample_program : sample_bytes ≡ program (New ∷ Def 1200 ∷ Put 1 0 ∷ Tick ∷ Get 0 2 ∷ Ret 0 ∷ [])
  -- It opens with one routine, no image and six instructions, and check accepts it over every sheet that is long enough.
  pub sample_opens : opening sample_bytes ≡ Ok (record { routines = 1; image = 0; total = 6 })
  pub sample_passes : (rows : ℕ) → 6 ≤ rows → checking sample_bytes rows ≡ Ok tt
  -- Its first 59 bytes, and it with any byte more, are refused with 4.
  pub sample_shorter : opening (take 59 sample_bytes) ≡ Err (author 4 0 0)
  pub sample_longer : (b : ℕ) → opening (sample_bytes ++ (b ∷ [])) ≡ Err (author 4 0 0)
  -- So are all bytes that have the contents of a module that opens, and another length.
  pub other_length : (bs cs : List ℕ) → is_ok (opening bs) ≡ true → take (contents bs) cs ≡ take (contents bs) bs → length cs ≢ length bs → opening cs ≡ Err (author 4 0 0)
  -- N of 0 is refused with 2, and so is N of 65 or more.
  pub no_routine : (bs : List ℕ) → 4 ≤ length bs → routines bs ≡ 0 → opening bs ≡ Err (author 2 0 0)
  pub many_routines : (bs : List ℕ) → 4 ≤ length bs → 65 ≤ routines bs → opening bs ≡ Err (author 2 0 0)
  -- N of 64 passes that test, if the image is not too long, and is not refused with 2.
  pub most_routines : (bs : List ℕ) → routines bs ≡ 64 → image_length bs ≤ 4096 → counts_right bs ≡ true
  pub most_not_refused : (bs : List ℕ) → routines bs ≡ 64 → image_length bs ≤ 4096 → opening bs ≢ Err (author 2 0 0)
  -- In every module NEW keeps rule 6 where it finds at most 31 registers, and breaks it where it finds more.
  pub new_keeps : (bs : List ℕ) (r i : ℕ) → instr bs r i ≡ Some New → length (shape bs r i) ≤ 31 → holds Stack bs r i ≡ true
  pub new_breaks : (bs : List ℕ) (r i : ℕ) → instr bs r i ≡ Some New → 32 ≤ length (shape bs r i) → holds Stack bs r i ≡ false
  -- So 32 NEW are accepted, and a 33rd is refused with 6.
  pub new_32 : Checks (replicate 32 New ++ (Ret 0 ∷ [])) (Ok tt)
  pub new_33 : Checks (replicate 33 New ++ (Ret 0 ∷ [])) (Err (author 6 0 32))
  -- In every module MOV into a constant breaks rule 9; so MOV into the register of a DEF is refused with 9.
  pub mov_breaks : (bs : List ℕ) (r i a b : ℕ) → instr bs r i ≡ Some (Mov a b) → slice_index_or (shape bs r i) a false ≡ true → holds Constants bs r i ≡ false
  pub mov_into_def : Checks (Def 7 ∷ Mov 0 0 ∷ Ret 0 ∷ []) (Err (author 9 0 1))
  -- In every module a branch over a NEW, to the instruction after it, breaks rule 10, whatever the branch; so it is refused with 10.
  pub branch_breaks : (bs : List ℕ) (r i : ℕ) (x : Instr) → instr bs r i ≡ Some x → instr bs r (suc i) ≡ Some New → target x ≡ Some (suc (suc i)) → holds Target bs r i ≡ false
  pub branch_over_new : Checks (New ∷ Branch Equal 0 0 3 ∷ New ∷ Ret 0 ∷ []) (Err (author 10 0 1))
  -- −7 by 2 is −3 with −1 left towards zero, and −4 with 1 left downwards; −2 ^ 31 by −1 towards zero is 2147483648 with 0 left.
  pub quotients : DivisionExamples
  -- A load of width 4 works at 4,092 and at each address below; from 4,093 on it trips with cause 2 and the address as its
  -- detail, and all else is as before.
  pub load_to_4092 : (bs : List ℕ) (rule : TickRule) (a b n : ℕ) (l : Level) (ls : List Level) (memory : List ℕ) (ports : List Port)
      → StandsAt bs (Load Four a b n) l ls
      → value l b + n ≤ 4092
      → step bs rule (world running (l ∷ ls) memory ports) ≡ Some (world running (wrote l a (four memory (value l b + n)) ∷ ls) memory ports)
  pub load_from_4093 : (bs : List ℕ) (rule : TickRule) (a b n : ℕ) (l : Level) (ls : List Level) (memory : List ℕ) (ports : List Port)
      → StandsAt bs (Load Four a b n) l ls
      → 4093 ≤ value l b + n
      → step bs rule (world running (l ∷ ls) memory ports) ≡ Some (world (tripped (passed_at l.routine l.pc (value l b + n))) (l ∷ ls) memory ports)
  -- 4294967295 + 1 is address 4294967296, and not 0: a load there trips, and so does a store, of any width.
  pub load_not_wrapped : (bs : List ℕ) (rule : TickRule) (w : Width) (a b : ℕ) (l : Level) (ls : List Level) (memory : List ℕ) (ports : List Port)
      → StandsAt bs (Load w a b 1) l ls
      → value l b ≡ 4294967295
      → step bs rule (world running (l ∷ ls) memory ports) ≡ Some (world (tripped (passed_at l.routine l.pc 4294967296)) (l ∷ ls) memory ports)
  pub store_not_wrapped : (bs : List ℕ) (rule : TickRule) (w : Width) (a b : ℕ) (l : Level) (ls : List Level) (memory : List ℕ) (ports : List Port)
      → StandsAt bs (Store w a b 1) l ls
      → value l b ≡ 4294967295
      → step bs rule (world running (l ∷ ls) memory ports) ≡ Some (world (tripped (passed_at l.routine l.pc 4294967296)) (l ∷ ls) memory ports)
  -- Check accepts three modules that load there, and granted 10,000 over a new axis the one that loads at 4,092 ends after its
  -- four steps, and those that load at 4,093 and at 4294967296 trip at the load.
  pub load_passes : Checks (load_at 4092 0) (Ok tt)
  pub load_past_passes : Checks (load_at 4093 0) (Ok tt)
  pub load_not_wrapped_passes : Checks (load_at 4294967295 1) (Ok tt)
  pub load_run : granted (program (load_at 4092 0)) 10000 ≡ Ok (4, ended) ∷ []
  pub load_run_past : granted (program (load_at 4093 0)) 10000 ≡ Ok (3, tripped (passed_at 0 2 4093)) ∷ []
  pub load_run_not_wrapped : granted (program (load_at 4294967295 1)) 10000 ≡ Ok (3, tripped (passed_at 0 2 4294967296)) ∷ []
  -- 2147483648 by SRA 32 is 4294967295, and by SRL 32 it is 0.
  pub sra_32 : calculated Sra 2147483648 32 ≡ 4294967295
  pub srl_32 : calculated Srl 2147483648 32 ≡ 0
  -- From a shift of 32 on, SL and SRL give 0, and SRA gives 32 copies of the sign bit.
  pub sl_far : (b c : ℕ) → 32 ≤ c → calculated Sl b c ≡ 0
  pub srl_far : (b c : ℕ) → 32 ≤ c → calculated Srl b c ≡ 0
  pub sra_far_positive : (b c : ℕ) → 32 ≤ c → b < 2 ^ 31 → calculated Sra b c ≡ 0
  pub sra_far_negative : (b c : ℕ) → 32 ≤ c → 2 ^ 31 ≤ b → calculated Sra b c ≡ 2 ^ 32 - 1
  -- A new axis that is ordered to 120 at a ramp of 50 has the speeds 50, 100, 120 and the positions 50, 150, 270.
  pub axis : OrderedTo120 new_axis
  -- The sample, granted 10,000 over a new axis, ends after 6 steps, and leaves the ports 1200, 50, 50, 50 and no fault. So it
  -- does with any fuel from 6 on.
  pub sample_ends : (fuel : ℕ) → 6 ≤ fuel → fuel ≤ 10000 → Grants sample_bytes fuel (6, ended) (ports_with 1200 50 50 50) []
  -- With its order raised to 4,000, check accepts it too, it trips at its 3rd step, and it leaves the ports 0, 50, 0, 0 and
  -- the fault 6 3 0 2 0 0. So it does with any fuel from 3 on.
  pub raised_passes : (rows : ℕ) → 6 ≤ rows → checking raised_bytes rows ≡ Ok tt
  pub raised_trips : (fuel : ℕ) → 3 ≤ fuel → fuel ≤ 10000
      → Grants raised_bytes fuel (3, tripped refused_at_2) (ports_with 0 50 0 0) (record { cause = 6; layer = 3; routine = 0; instruction = 2; detail = 0; mark = 0 } ∷ [])
  -- RET passes the shape on, as BAL does; so what follows a RET has the registers before it.
  pub shape_after_ret : (bs : List ℕ) (r i a : ℕ) → instr bs r i ≡ Some (Ret a) → shape bs r (suc i) ≡ shape bs r i
  pub shape_after_bal : (bs : List ℕ) (r i n : ℕ) → instr bs r i ≡ Some (Bal n) → shape bs r (suc i) ≡ shape bs r i
  pub past_ret : Checks (New ∷ Ret 0 ∷ Mov 0 0 ∷ Ret 0 ∷ []) (Ok tt)
  -- A restart enters nothing: it keeps the entries of every log, and every list of faults.
  pub restart_enters_nothing : (bs : List ℕ) (rule : TickRule) (w : World) → (outcome bs rule Restart w).entries ≡ []
  pub restart_keeps_entries : (bs : List ℕ) (rule : TickRule) (l : Log) → (after_call bs rule Restart l).entries ≡ l.entries
  pub restart_keeps_faults : (bs : List ℕ) (rule : TickRule) (w : World) (faults : List FaultValues) → noted_all faults (outcome bs rule Restart w).entries ≡ faults
