use Rattle.std.specs.Prelude.{IfOk}
use Rattle.ghc_depend.proofs.Words.{◌≡◌, ℕ, Some, refl, slice_get_within, List, [], Result, Ok, Err, OnErr, sym, subst, inl, inr, In, Record, numbers, stands_held, IsKeptAs, AreConsequencesOf}
use Rattle.ghc_depend.proofs.consequence.consequences.Goals as goal

-- where the step is kept, an error is of a kept step
where_kept : {T E : Type 0} (r : Result T E) (kept : List Record) (n : ℕ) (a : Record) → IsKeptAs kept n a → OnErr r ((b : Record) × IsKeptAs kept n b)
where_kept (Ok x) kept n a own = tt
where_kept (Err e) kept n a own = (a, own)

if_ok : {X E : Type 0} (r : Result X E) {A B : X → Type 0} → IfOk r A → ((x : X) → A x → B x) → IfOk r B
if_ok (Ok x) h f = f x h
if_ok (Err e) h f = tt

pub returns-in_default-clause-found : goal.returns-in_default-clause-found
returns-in_default-clause-found c = ([], inl (c.in_default.ensures.none, refl), sym c.new.ensures.items)

pub consequences_by_users-requires : goal.consequences_by_users-requires
consequences_by_users-requires c =
    let f = c.in-Some.ensures.found in
    (f.0, (subst (In f.0) (sym c.len-count.ensures.slots) (stands_held c.args.records.now.slots c.in-Some.own f.0 f.1), f.2))

pub consequences_by_pass-requires-clause-there : goal.consequences_by_pass-requires-clause-there
consequences_by_pass-requires-clause-there c = let f = c.in-Some.ensures.found in (f.0, f.1)

pub consequences_by_pass-requires-clause-within : goal.consequences_by_pass-requires-clause-within
consequences_by_pass-requires-clause-within c = let f = c.in-Some.ensures.found in slice_get_within c.args.records.now.slots c.in-Some.own (Some f.0) f.1

pub returns-in-None-clause-found : goal.returns-in-None-clause-found
returns-in-None-clause-found c =
    let f = c.in-Some.ensures.found in
    let kept = subst (In f.0) (sym c.len-count.ensures.slots) (stands_held c.args.records.now.slots c.in-Some.own f.0 f.1) in
    if_ok c.consequences_by_pass.result c.consequences_by_pass.ensures (λ ns told. let h = told f.0 f.1 in (h.0, inr (f.0, (kept, f.2), h.1), h.2))

pub returns-in-None-clause-kept : goal.returns-in-None-clause-kept
returns-in-None-clause-kept c =
    let f = c.in-Some.ensures.found in
    where_kept c.consequences_by_pass.result c.args.records.now.held c.args.number f.0 (subst (In f.0) (sym c.len-count.ensures.slots) (stands_held c.args.records.now.slots c.in-Some.own f.0 f.1), f.2)

pub returns-in_err-found-clause-kept : goal.returns-in_err-found-clause-kept
returns-in_err-found-clause-kept c =
    let f = c.in-Some.ensures.found in
    where_kept c.from_residual.result c.args.records.now.held c.args.number f.0 (subst (In f.0) (sym c.len-count.ensures.slots) (stands_held c.args.records.now.slots c.in-Some.own f.0 f.1), f.2)
