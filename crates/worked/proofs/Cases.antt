-- The worked cases.
use Rattle.std.proofs.Common.{◌≡◌, ℕ, ◌^◌, ◌≤◌, true, false, leb, ltb, List, [], ◌++◌, Result, refl, ap, ◌∙◌, arith}
use Rattle.std.proofs.lemmas.List.{append-nil}
use Rattle.std.proofs.lemmas.Bool.{cond-true, cond-false, le-leb, le-ltb}
use Rattle.std.proofs.lemmas.Bool.Decides.{nat_tests}
use Rattle.refusal.specs.Values.{Values, caller}
use Rattle.isa.specs.declared.instr.Width.TheVariants.{Four}
use Rattle.module.specs.Layout.{provided}
use Rattle.module.specs.Places.{inside, instr_at}
use Rattle.module.specs.Shape.{shape, after as passing_on}
use Rattle.machine.specs.Level.{value}
use Rattle.machine.specs.World.{Phase, running, ended, tripped, World, able, after, effect, allowed, allowed_at, awaited, is_return, calls_routine, handed, entered, resumed, into, step, step_in}
use Rattle.machine.specs.Fuel.{TickRule}
use Rattle.drive.specs.declared.call.Call.TheVariants.{Restart}
use Rattle.drive.specs.Calls.{Outcome, refusal, unless_refused, done, outcome}
use Rattle.drive.specs.View.{noted_all}
use Rattle.worked.specs.Worked.{Worked}
use Rattle.worked.proofs.Lengths.{other_refused}
use Rattle.worked.proofs.Counts.{wrong_counts, none_wrong, many_wrong, most_right, not_refused}
use Rattle.worked.proofs.Breaches.{new_holds, mov_breaks, branch_breaks}
use Rattle.worked.proofs.Loads.{load_works, load_trips, store_trips, far, not_wrapped}
use Rattle.worked.proofs.Grants.{sample_ends, raised_trips}

-- a sheet that is long enough

enough : {X : Type 0} (n : ℕ) (answer : Result X Values) (rows : ℕ) → n ≤ rows → provided (leb n rows) (caller 12) answer ≡ answer
enough n answer rows h = cond-true (leb n rows) _ _ (le-leb n rows h)

-- a shift by 32 or more

near : (c : ℕ) → 32 ≤ c → ltb c 32 ≡ false
near c h = le-ltb c 32 h

-- a restart

no_entries : (phase : Phase) (w : World) (o : Outcome) → o.entries ≡ [] → (unless_refused (refusal Restart phase) w o).entries ≡ []
no_entries running w o e = refl
no_entries ended w o e = e
no_entries (tripped t) w o e = e

restart_enters_nothing : (bs : List ℕ) (rule : TickRule) (w : World) → (outcome bs rule Restart w).entries ≡ []
restart_enters_nothing bs rule w = no_entries w.phase w (done bs rule Restart w) refl

pub worked : Worked
unfolding step step_in able after effect allowed allowed_at awaited is_return calls_routine handed entered resumed into instr_at inside value
worked =
    record {
      sample_length = refl;
      sample_program = refl;
      sample_opens = refl;
      sample_passes = enough 6 _;
      sample_shorter = refl;
      sample_longer = λ b. refl;
      other_length = other_refused;
      no_routine = λ bs h e. wrong_counts bs h (none_wrong bs e);
      many_routines = λ bs h e. wrong_counts bs h (many_wrong bs e);
      most_routines = most_right;
      most_not_refused = λ bs e h. not_refused bs (most_right bs e h);
      new_keeps = λ bs r i e h. new_holds bs r i true e (le-leb _ _ h);
      new_breaks = λ bs r i e h. new_holds bs r i false e (grind (arith, nat_tests));
      new_32 = enough 33 _;
      new_33 = enough 34 _;
      mov_breaks = mov_breaks;
      mov_into_def = enough 3 _;
      branch_breaks = branch_breaks;
      branch_over_new = enough 4 _;
      quotients = record {
        quotient_towards_zero = refl;
        remainder_towards_zero = refl;
        quotient_downwards = refl;
        remainder_downwards = refl;
        quotient_past_signed = refl;
        remainder_past_signed = refl;
      };
      load_to_4092 = λ bs rule a b n l ls memory ports at h. load_works bs rule l ls memory ports Four a b n at (le-leb _ _ (omega arith));
      load_from_4093 = λ bs rule a b n l ls memory ports at h. load_trips bs rule l ls memory ports Four a b n at (grind (arith, nat_tests));
      load_not_wrapped = λ bs rule w a b l ls memory ports at e. load_trips bs rule l ls memory ports w a b 1 at (far bs rule l ls memory ports w b e) ∙ not_wrapped bs rule l ls memory ports b e;
      store_not_wrapped = λ bs rule w a b l ls memory ports at e. store_trips bs rule l ls memory ports w a b 1 at (far bs rule l ls memory ports w b e) ∙ not_wrapped bs rule l ls memory ports b e;
      load_passes = enough 4 _;
      load_past_passes = enough 4 _;
      load_not_wrapped_passes = enough 4 _;
      load_run = refl;
      load_run_past = refl;
      load_run_not_wrapped = refl;
      sra_32 = refl;
      srl_32 = refl;
      sl_far = λ b c h. cond-false (ltb c 32) _ _ (near c h);
      srl_far = λ b c h. cond-false (ltb c 32) _ _ (near c h);
      sra_far_positive = λ b c h k. cond-false (ltb c 32) _ _ (near c h) ∙ cond-true (ltb b (2 ^ 31)) _ _ (grind (arith, nat_tests));
      sra_far_negative = λ b c h k. cond-false (ltb c 32) _ _ (near c h) ∙ cond-false (ltb b (2 ^ 31)) _ _ (le-ltb b (2 ^ 31) k);
      axis = record { one = refl; two = refl; three = refl };
      sample_ends = sample_ends;
      raised_passes = enough 6 _;
      raised_trips = raised_trips;
      shape_after_ret = λ bs r i a e. ap (λ o. passing_on o (shape bs r i)) e;
      shape_after_bal = λ bs r i n e. ap (λ o. passing_on o (shape bs r i)) e;
      past_ret = enough 4 _;
      restart_enters_nothing = restart_enters_nothing;
      restart_keeps_entries = λ bs rule l. ap (λ es. l.entries ++ es) (restart_enters_nothing bs rule l.world) ∙ append-nil l.entries;
      restart_keeps_faults = λ bs rule w faults. ap (noted_all faults) (restart_enters_nothing bs rule w);
    }
