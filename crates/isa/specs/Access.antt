-- What an instruction reads, writes, calls and goes to.
use Rattle.std.specs.Prelude.{ℕ, Bool, true, false, Some, None, Option}
use Rattle.isa.specs.declared.access.Access.{Access}
use Rattle.isa.specs.declared.access.Signature.{Signature}
use Rattle.isa.specs.declared.access.Span.{Span}
use Rattle.isa.specs.declared.instr.Instr.{Instr}
use Rattle.isa.specs.declared.instr.Instr.TheVariants.{New, Def, Kill, Mov, Swap, Calc, Divide, Load, Store, Bal, Branch, Call, Ret, Get, Put, Tick}

-- len registers from first on
abbrev pub span : ℕ → ℕ → Span
span first len = record { first = first; len = len }

-- register r alone
abbrev pub one : ℕ → Span
one r = span r 1

-- no register
abbrev pub none : Span
none = span 0 0

-- no register in either span
abbrev pub nothing : Span × Span
nothing = (none, none)

-- what is read and what is written, two spans of each; where fewer are needed, none stands for the others
abbrev pub touches : Span × Span → Span × Span → Access
touches reads writes = record { reads = reads; writes = writes }

-- the registers that an instruction reads and writes, where called is what the routine that it calls takes and gives, and
-- own what its own routine does
abbrev pub access : Instr → Signature → Signature → Access
access New called own = touches nothing nothing
access (Def n) called own = touches nothing nothing
access Kill called own = touches nothing nothing
access (Mov a b) called own = touches (one b, none) (one a, none)
access (Swap a b) called own = touches (one a, one b) (one a, one b)
access (Calc o a b c) called own = touches (one b, one c) (one a, none)
access (Divide p k a b c) called own = touches (one b, one c) (one a, none)
access (Load w a b n) called own = touches (one b, none) (one a, none)
access (Store w a b n) called own = touches (one a, one b) nothing
access (Bal n) called own = touches nothing nothing
access (Branch t a b n) called own = touches (one a, one b) nothing
access (Call a b n) called own = touches (span b called.arguments, none) (span a called.results, none)
access (Ret a) called own = touches (span a own.results, none) nothing
access (Get a c) called own = touches nothing (one a, none)
access (Put b c) called own = touches (one b, none) nothing
access Tick called own = touches nothing nothing

-- the routine that an instruction calls, if it calls one
abbrev pub callee : Instr → Option ℕ
callee New = None
callee (Def n) = None
callee Kill = None
callee (Mov a b) = None
callee (Swap a b) = None
callee (Calc o a b c) = None
callee (Divide p k a b c) = None
callee (Load w a b n) = None
callee (Store w a b n) = None
callee (Bal n) = None
callee (Branch t a b n) = None
callee (Call a b n) = Some n
callee (Ret a) = None
callee (Get a c) = None
callee (Put b c) = None
callee Tick = None

-- the instruction that a branch goes to when it is taken; no other instruction has one
abbrev pub target : Instr → Option ℕ
target New = None
target (Def n) = None
target Kill = None
target (Mov a b) = None
target (Swap a b) = None
target (Calc o a b c) = None
target (Divide p k a b c) = None
target (Load w a b n) = None
target (Store w a b n) = None
target (Bal n) = Some n
target (Branch t a b n) = Some n
target (Call a b n) = None
target (Ret a) = None
target (Get a c) = None
target (Put b c) = None
target Tick = None

-- an instruction that never goes on to the next: BAL and RET
abbrev pub ends : Instr → Bool
ends New = false
ends (Def n) = false
ends Kill = false
ends (Mov a b) = false
ends (Swap a b) = false
ends (Calc o a b c) = false
ends (Divide p k a b c) = false
ends (Load w a b n) = false
ends (Store w a b n) = false
ends (Bal n) = true
ends (Branch t a b n) = false
ends (Call a b n) = false
ends (Ret a) = true
ends (Get a c) = false
ends (Put b c) = false
ends Tick = false
