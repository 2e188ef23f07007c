-- Two refusals with one code are one.
use Rattle.std.specs.Prelude.{◌≡◌, ℕ, List, [], refl, cond, nat_eq}
use Rattle.std.proofs.Common.{ap}
use Rattle.std.specs.Coded.{Coded, code_by, coded×, coded_list, coded_ℕ}
use Rattle.ghc_term.specs.declared.limit.Limit.{Limit}
use Rattle.ghc_term.specs.declared.limit.Limit.TheVariants.{Text, Clauses, Arity, Depth, Goals, Variables, Term, Print, Line, Version}
use Rattle.ghc_term.specs.declared.fault.Fault.{Fault}
use Rattle.ghc_term.specs.declared.fault.Fault.TheVariants.{Memory, Syntax, NotFlat, Repeated, Undefined, Limit as of_limit, NoGoal, NoClause, Waits, NoMatch, Clash, Cycle, Arithmetic, NoStream, TailBound, NotKept, HasConsequence, NotShelved, Changed, Stale, NotLawful, Full, NoVariable, History, Command, Device}
use Rattle.ghc_term.specs.Fault.{fault_number}

-- the place of a limit among the limits
abbrev pub place_of_limit : Limit → ℕ
place_of_limit Text = 0
place_of_limit Clauses = 1
place_of_limit Arity = 2
place_of_limit Depth = 3
place_of_limit Goals = 4
place_of_limit Variables = 5
place_of_limit Term = 6
place_of_limit Print = 7
place_of_limit Line = 8
place_of_limit Version = 9

-- the limit at a place among the limits
abbrev pub limit_at : ℕ → Limit
limit_at n =
    cond (nat_eq n 0) Text
    (cond (nat_eq n 1) Clauses
    (cond (nat_eq n 2) Arity
    (cond (nat_eq n 3) Depth
    (cond (nat_eq n 4) Goals
    (cond (nat_eq n 5) Variables
    (cond (nat_eq n 6) Term
    (cond (nat_eq n 7) Print
    (cond (nat_eq n 8) Line
    Version))))))))

-- What a limit is written as is read back as that limit.
pub limit_back : (l : Limit) → limit_at (place_of_limit l) ≡ l
limit_back Text = refl
limit_back Clauses = refl
limit_back Arity = refl
limit_back Depth = refl
limit_back Goals = refl
limit_back Variables = refl
limit_back Term = refl
limit_back Print = refl
limit_back Line = refl
limit_back Version = refl

-- the code of limits: two limits with one code are one
abbrev pub limit_code : Coded Limit
limit_code = code_by ℕ coded_ℕ place_of_limit limit_at limit_back

-- what a refusal tells: two numbers and a name, 0 or empty where it tells none
abbrev pub Told : Type 0
Told = ℕ × (ℕ × List ℕ)

-- what a refusal tells besides its number
abbrev pub told_by : Fault → Told
told_by Memory = (0, (0, []))
told_by (Syntax line column) = (line, (column, []))
told_by (NotFlat clause) = (clause, (0, []))
told_by (Repeated clause variable) = (clause, (0, variable))
told_by (Undefined name arity) = (arity, (0, name))
told_by (of_limit limit) = (place_of_limit limit, (0, []))
told_by NoGoal = (0, (0, []))
told_by NoClause = (0, (0, []))
told_by Waits = (0, (0, []))
told_by NoMatch = (0, (0, []))
told_by Clash = (0, (0, []))
told_by Cycle = (0, (0, []))
told_by Arithmetic = (0, (0, []))
told_by NoStream = (0, (0, []))
told_by TailBound = (0, (0, []))
told_by NotKept = (0, (0, []))
told_by (HasConsequence step) = (step, (0, []))
told_by NotShelved = (0, (0, []))
told_by Changed = (0, (0, []))
told_by Stale = (0, (0, []))
told_by (NotLawful earlier later) = (earlier, (later, []))
told_by Full = (0, (0, []))
told_by NoVariable = (0, (0, []))
told_by (History line) = (line, (0, []))
told_by Command = (0, (0, []))
told_by Device = (0, (0, []))

-- the refusal of this number that tells this
abbrev pub fault_at : ℕ → Told → Fault
fault_at n t =
    cond (nat_eq n 1) Memory
    (cond (nat_eq n 2) (Syntax t.0 t.1.0)
    (cond (nat_eq n 3) (NotFlat t.0)
    (cond (nat_eq n 4) (Repeated t.0 t.1.1)
    (cond (nat_eq n 5) (Undefined t.1.1 t.0)
    (cond (nat_eq n 6) (of_limit (limit_at t.0))
    (cond (nat_eq n 7) NoGoal
    (cond (nat_eq n 8) NoClause
    (cond (nat_eq n 9) Waits
    (cond (nat_eq n 10) NoMatch
    (cond (nat_eq n 11) Clash
    (cond (nat_eq n 12) Cycle
    (cond (nat_eq n 13) Arithmetic
    (cond (nat_eq n 14) NoStream
    (cond (nat_eq n 15) TailBound
    (cond (nat_eq n 16) NotKept
    (cond (nat_eq n 17) (HasConsequence t.0)
    (cond (nat_eq n 18) NotShelved
    (cond (nat_eq n 19) Changed
    (cond (nat_eq n 20) Stale
    (cond (nat_eq n 21) (NotLawful t.0 t.1.0)
    (cond (nat_eq n 22) Full
    (cond (nat_eq n 23) NoVariable
    (cond (nat_eq n 24) (History t.0)
    (cond (nat_eq n 25) Command
    Device))))))))))))))))))))))))

-- What a refusal is written as is read back as that refusal.
pub fault_back : (f : Fault) → fault_at (fault_number f) (told_by f) ≡ f
fault_back Memory = refl
fault_back (Syntax line column) = refl
fault_back (NotFlat clause) = refl
fault_back (Repeated clause variable) = refl
fault_back (Undefined name arity) = refl
fault_back (of_limit limit) = ap of_limit (limit_back limit)
fault_back NoGoal = refl
fault_back NoClause = refl
fault_back Waits = refl
fault_back NoMatch = refl
fault_back Clash = refl
fault_back Cycle = refl
fault_back Arithmetic = refl
fault_back NoStream = refl
fault_back TailBound = refl
fault_back NotKept = refl
fault_back (HasConsequence step) = refl
fault_back NotShelved = refl
fault_back Changed = refl
fault_back Stale = refl
fault_back (NotLawful earlier later) = refl
fault_back Full = refl
fault_back NoVariable = refl
fault_back (History line) = refl
fault_back Command = refl
fault_back Device = refl

-- the code of refusals: two refusals with one code are one
abbrev pub fault_code : Coded Fault
fault_code = code_by (ℕ × Told) (coded× coded_ℕ (coded× coded_ℕ (coded× coded_ℕ (coded_list coded_ℕ)))) (λ f. (fault_number f, told_by f)) (λ p. fault_at p.0 p.1) fault_back
