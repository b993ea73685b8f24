-- Frames and those of them that wait.
use Rattle.std.proofs.Common.{◌≡◌, ℕ, zero, suc, ◌+◌, ◌-◌, ◌<◌, ◌≤◌, List, [], ◌∷◌, ◌++◌, map, length, take, drop, get_or, set, sym, refl, ap, ◌∙◌, add-one, arith, get_or-set_other, get_or-set_same}
use Rattle.std.proofs.lemmas.List.{length-map, map-set, get_or-map, length-take, length-take-le, set-append_left, set-append_right, take-append-drop, get_or-take, get_or-drop}
use Rattle.machine.specs.declared.frame.Frame.{Frame}
use Rattle.machine.specs.declared.stack.Stack.{Stack}
use Rattle.machine.specs.Level.{Level, level_of}
use Rattle.machine.specs.Nested.{no_routine, level_at, below, running_routine, waiting, newest_of}

-- a frame has as many registers as its depth says
pub depth_is : (f : Frame) → length f.registers ≡ 32 → length (level_of f).registers ≡ f.depth
depth_is f whole = length-take-le f.depth f.registers (omega (arith, f.few))

-- no routine has more than 32 registers
pub few_registers : (f : Frame) → length (level_of f).registers ≤ 32
few_registers f = omega (arith, length-take f.depth f.registers, f.few)

pub level_at_lem : (frames : List Frame) (k : ℕ) (d : Frame) → k < length frames → level_at frames k ≡ level_of (get_or frames k d)
level_at_lem frames k d h = get_or-map level_of frames k d no_routine h

pub length-below : (frames : List Frame) (n : ℕ) → length (below frames n) ≡ n
length-below frames zero = refl
length-below frames (suc n) = ap suc (length-below frames n)

-- a frame that is replaced leaves those below
pub below_set : (frames : List Frame) (k n : ℕ) (f : Frame) → n ≤ k → below (set frames k f) n ≡ below frames n
below_set frames k zero f h = refl
below_set frames k (suc n) f h =
    let ne : n ≡ k → ⊥ = λ e. omega arith in
    let one : level_at (set frames k f) n ≡ level_at frames n =
    ap (λ ls. get_or ls n no_routine) (map-set level_of frames k f) ∙ get_or-set_other (map level_of frames) k n (level_of f) no_routine ne in
    let rest = below_set frames k n f (omega arith) in
    cc

pub set_same : (frames : List Frame) (k : ℕ) (f : Frame) → k < length frames → level_at (set frames k f) k ≡ level_of f
set_same frames k f h =
    ap (λ ls. get_or ls k no_routine) (map-set level_of frames k f) ∙ get_or-set_same (map level_of frames) k (level_of f) no_routine (omega (arith, length-map frames level_of))

pub below_more : (frames : List Frame) (n : ℕ) → below frames (n + 1) ≡ level_at frames n ∷ below frames n
below_more frames n = ap (below frames) (add-one n)

-- the newest of those that wait, and the others
pub below_split : (frames : List Frame) (n : ℕ) → 0 < n → below frames n ≡ level_at frames (n - 1) ∷ below frames (n - 1)
below_split frames n h = let e : n ≡ n - 1 + 1 = omega arith in ap (below frames) e ∙ below_more frames (n - 1)

pub running_is : (s : Stack) (d : Frame) → length s.frames ≡ 32 → running_routine s ≡ level_of (get_or s.frames s.top.index d)
unfolding running_routine
running_is s d whole = level_at_lem s.frames s.top.index d (omega (arith, s.top.nested))

pub some_waits : (s : Stack) → 0 < length (waiting s) → 0 < s.top.index
unfolding waiting
some_waits s h = omega (arith, length-below s.frames s.top.index)

pub first_waiting : (s : Stack) (d : Frame) → 0 < s.top.index → length s.frames ≡ 32 → newest_of (waiting s) ≡ level_of (get_or s.frames (s.top.index - 1) d)
unfolding waiting
first_waiting s d h whole = ap newest_of (below_split s.frames s.top.index h) ∙ level_at_lem s.frames (s.top.index - 1) d (omega (arith, s.top.nested))

-- there is room for one more
pub room_above : (s : Stack) → length (waiting s) < 31 → s.top.index < 31
unfolding waiting
room_above s h = omega (arith, length-below s.frames s.top.index)

-- at most 31 routines wait
pub few_waiting : (s : Stack) → length (waiting s) ≤ 31
unfolding waiting
few_waiting s = omega (arith, length-below s.frames s.top.index, s.top.nested)

pub split_first : (ls : List Level) → 0 < length ls → ls ≡ newest_of ls ∷ drop 1 ls
split_first [] h = absurd (omega arith)
split_first (l ∷ ls) h = refl

-- the stack s, with a frame f in the place of the running one
abbrev pub with_frame : Stack → Frame → Stack
with_frame s f = record { frames = set s.frames s.top.index f; top = s.top }

module _ (s : Stack) (whole : length s.frames ≡ 32) (f : Frame) where
  pub frame_runs : running_routine (with_frame s f) ≡ level_of f
  unfolding running_routine
  frame_runs = set_same s.frames s.top.index f (omega (arith, s.top.nested))

  pub frame_waits : waiting (with_frame s f) ≡ waiting s
  unfolding waiting
  frame_waits = below_set s.frames s.top.index s.top.index f (omega arith)

-- the frames of a stack, cut in two parts where a routine begins or ends
module _ (s : Stack) (whole : length s.frames ≡ 32) (low high : List Frame) where
  -- where a routine is to begin
  module _ (room : s.top.index < 31) (front : low ≡ take (s.top.index + 1) s.frames) (back : high ≡ drop (s.top.index + 1) s.frames) where
    pub calling : (d : Frame) → level_of (get_or low s.top.index d) ≡ running_routine s
    calling d = ap (λ l. level_of (get_or l s.top.index d)) front ∙ ap level_of (get_or-take (s.top.index + 1) s.frames s.top.index d (omega arith)) ∙ sym (running_is s d whole)

    begun : (f : Frame) → low ++ set high 0 f ≡ set s.frames (s.top.index + 1) f
    begun f =
        let k = s.top.index + 1 in
        let zero_is : 0 ≡ k - k = omega arith in
        let long : length low ≡ k = ap length front ∙ length-take-le k s.frames (omega arith) in
        ap (λ n. low ++ set high n f) zero_is
        ∙ sym (set-append_right low high k k f long (omega arith))
        ∙ ap (λ l. set l k f) ((λ i. front i ++ back i) ∙ take-append-drop k s.frames)

    pub begun_running : (f : Frame) → level_at (low ++ set high 0 f) (s.top.index + 1) ≡ level_of f
    begun_running f = ap (λ l. level_at l (s.top.index + 1)) (begun f) ∙ set_same s.frames (s.top.index + 1) f (omega arith)

    pub begun_waiting : (f : Frame) → below (low ++ set high 0 f) (s.top.index + 1) ≡ running_routine s ∷ waiting s
    unfolding running_routine waiting
    begun_waiting f =
        ap (λ l. below l (s.top.index + 1)) (begun f) ∙ below_set s.frames (s.top.index + 1) (s.top.index + 1) f (omega arith) ∙ below_more s.frames s.top.index

  -- where one ends
  module _ (some : 0 < s.top.index) (front : low ≡ take s.top.index s.frames) (back : high ≡ drop s.top.index s.frames) where
    pub ending : (d : Frame) → level_of (get_or high 0 d) ≡ running_routine s
    ending d =
        ap (λ l. level_of (get_or l 0 d)) back
        ∙ ap level_of (get_or-drop s.top.index s.frames 0 d)
        ∙ ap (λ n. level_of (get_or s.frames n d)) (omega arith)
        ∙ sym (running_is s d whole)

    pub going_on : (d : Frame) → level_of (get_or low (s.top.index - 1) d) ≡ newest_of (waiting s)
    going_on d =
        ap (λ l. level_of (get_or l (s.top.index - 1) d)) front
        ∙ ap level_of (get_or-take s.top.index s.frames (s.top.index - 1) d (omega arith))
        ∙ sym (first_waiting s d some whole)

    ended : (f : Frame) → set low (s.top.index - 1) f ++ high ≡ set s.frames (s.top.index - 1) f
    ended f =
        let long : length low ≡ s.top.index = ap length front ∙ length-take-le s.top.index s.frames (omega (arith, s.top.nested)) in
        sym (set-append_left low high (s.top.index - 1) f (omega arith))
        ∙ ap (λ l. set l (s.top.index - 1) f) ((λ i. front i ++ back i) ∙ take-append-drop s.top.index s.frames)

    pub ended_running : (f : Frame) → level_at (set low (s.top.index - 1) f ++ high) (s.top.index - 1) ≡ level_of f
    ended_running f = ap (λ l. level_at l (s.top.index - 1)) (ended f) ∙ set_same s.frames (s.top.index - 1) f (omega (arith, s.top.nested))

    pub ended_waiting : (f : Frame) → below (set low (s.top.index - 1) f ++ high) (s.top.index - 1) ≡ drop 1 (waiting s)
    unfolding waiting
    ended_waiting f =
        ap (λ l. below l (s.top.index - 1)) (ended f)
        ∙ below_set s.frames (s.top.index - 1) (s.top.index - 1) f (omega arith)
        ∙ ap (drop 1) (sym (below_split s.frames s.top.index some))
