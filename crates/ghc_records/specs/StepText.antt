-- The texts of steps and of records.
use Rattle.std.specs.Prelude.{ℕ, ◌+◌, List, [], ◌∷◌, ◌++◌, codes, map, Option, Some, None}
use Rattle.std.specs.Fmt.{decimal}
use Rattle.std.specs.FinMap as finite
use Rattle.std.specs.FinSet as set
use Rattle.ghc_term.specs.declared.var_name.VarName.{VarName}
use Rattle.ghc_term.specs.declared.goal_name.GoalName.{GoalName}
use Rattle.ghc_term.specs.Tree.{Tree}
use Rattle.ghc_term.specs.Goal.{Goal}
use Rattle.ghc_term.specs.Text.{variable_text, term_text}
use Rattle.ghc_term.specs.GoalText.{goal_text}
use Rattle.ghc_term.specs.Bindings.{name_cmp}
use Rattle.ghc_term.specs.Sets.{Variables}
use Rattle.ghc_term.specs.Store.{StoreValue}
use Rattle.ghc_fire.specs.declared.act.Act.{Act}
use Rattle.ghc_fire.specs.declared.act.Act.TheVariants.{ByClause as by_clause, Unified as unified, Assigned as assigned, Given as given, Closed as closed, Asked as asked}
use Rattle.ghc_records.specs.Record.{Record}
use Rattle.ghc_records.specs.Journal.{Step, step_of}

-- a goal's name, `n.m`
abbrev pub goal_name_text : GoalName → List ℕ
goal_name_text g = decimal g.step ++ (codes "." ++ decimal g.place)

-- the texts that follow the first, each after the mark
abbrev pub followed_by : List ℕ → List (List ℕ) → List ℕ
followed_by mark [] = []
followed_by mark (text ∷ texts) = mark ++ (text ++ followed_by mark texts)

-- goals as they are written, with a comma and a space between them, and `true` where there is none
abbrev pub body_text : List Goal → List ℕ
body_text [] = codes "true"
body_text (g ∷ gs) = goal_text g ++ followed_by (codes ", ") (map goal_text gs)

-- an act: `by 2`, `eq`, `is`, `in T`, `end` or `ask BODY`
abbrev pub act_text : Act → List ℕ
act_text (by_clause k) = codes "by " ++ decimal k
act_text unified = codes "eq"
act_text assigned = codes "is"
act_text (given u) = codes "in " ++ term_text u
act_text closed = codes "end"
act_text (asked gs) = codes "ask " ++ body_text gs

-- the name of the goal that a step consumed, or `-` where it consumed none, and a space after it
abbrev pub consumed_text : Option GoalName → List ℕ
consumed_text None = codes "- "
consumed_text (Some g) = goal_name_text g ++ codes " "

-- a step: its number, the goal that it consumed, and its act, as `1 0.1 by 2`, or `2 - ask r(_0_1)` without a goal
abbrev pub step_text : Step → List ℕ
step_text s = decimal s.number ++ (codes " " ++ (consumed_text s.goal ++ act_text s.act))

-- the texts with the mark between them, and `-` where there is none
abbrev pub listed : List ℕ → List (List ℕ) → List ℕ
listed mark [] = codes "-"
listed mark (text ∷ texts) = text ++ followed_by mark texts

-- the names by step, then place, each once
abbrev pub by_name : List VarName → List VarName
by_name xs = finite.keys (finite.from_entries {R = name_cmp} (map (λ x. (x, tt {0})) xs))

-- the variables of a set by step, then place, as `_0_1,_0_2`
abbrev pub variables_text : Variables → List ℕ
variables_text xs = listed (codes ",") (map variable_text (by_name (set.items xs)))

-- a binding as written, as `_0_1=[1|_1_1]`
abbrev pub binding_text : VarName × Tree → List ℕ
binding_text b = variable_text b.0 ++ (codes "=" ++ term_text b.1)

-- bindings by their variables, as `_0_1=a;_0_2=b`
abbrev pub bindings_text : StoreValue → List ℕ
bindings_text binds = listed (codes ";") (map binding_text (finite.entries binds))

-- the names that step n gives to the goals that it makes, from place i on
abbrev pub names_given : ℕ → ℕ → List Goal → List GoalName
names_given n i [] = []
names_given n i (g ∷ gs) = record { step = n; place = i } ∷ names_given n (i + 1) gs

-- the names of the goals that step n makes, as `1.1,1.2`
abbrev pub makes_text : ℕ → List Goal → List ℕ
makes_text n gs = listed (codes ",") (map goal_name_text (names_given n 1 gs))

-- a record: its step, and what it read, bound and made, as `1 0.1 by 2 reads - binds - makes 1.1,1.2`
abbrev pub record_text : Record → List ℕ
record_text r =
    step_text (step_of r)
    ++ (codes " reads " ++ (variables_text r.effect.reads ++ (codes " binds " ++ (bindings_text r.effect.binds ++ (codes " makes " ++ makes_text r.number r.effect.makes)))))
