use Rattle.ghc_records.proofs.Words.{◌≡◌, ℕ, Bool, true, false, cond, not, List, [], ◌∷◌, ◌||◌, nat_eq, is_eq, nat_cmp, tie, refl, sym, ap, ◌∙◌, list_any, true_from_ne_false, In}
use Rattle.ghc_records.proofs.NumberSets.{any_number, number_any, number_put}
use Rattle.ghc_records.proofs.text.step_numbers.put_other.Goals as goal

-- a tree compares numbers, and finds those that its list of keys has
abbrev has_by : ℕ → List ℕ → Bool
has_by n ks = list_any (λ k. is_eq (nat_cmp n k)) ks

any_by : (n : ℕ) (ks : List ℕ) → has_by n ks ≡ list_any (nat_eq n) ks
any_by n [] = refl
any_by n (k ∷ ks) = ap (λ b. b || has_by n ks) (sym (tie n k)) ∙ ap (λ b. nat_eq n k || b) (any_by n ks)

is_new : (ks : List ℕ) (n : ℕ) (b : Bool) → b ≡ not (has_by n ks) → b ≡ true → ¬ In n ks
is_new ks n b is e i = let clash : true ≡ false = sym e ∙ is ∙ ap not (any_by n ks ∙ any_number n ks i) in cc

is_known : (ks : List ℕ) (n : ℕ) (b : Bool) → b ≡ not (has_by n ks) → b ≡ false → In n ks
is_known ks n b is e = number_any n ks (sym (any_by n ks) ∙ true_from_ne_false (has_by n ks) (λ none. let clash : true ≡ false = sym (ap not none) ∙ sym is ∙ e in cc))

pub returns-in-Ok-clause-new : goal.returns-in-Ok-clause-new
returns-in-Ok-clause-new c = is_new c.args.others.now.keys c.args.number c.in-Ok.new c.in-Ok.ensures.added

pub returns-in-Ok-clause-known : goal.returns-in-Ok-clause-known
returns-in-Ok-clause-known c = is_known c.args.others.now.keys c.args.number c.in-Ok.new c.in-Ok.ensures.added

pub returns-in-Ok-clause-keys : goal.returns-in-Ok-clause-keys
returns-in-Ok-clause-keys c n =
    let ks = c.args.others.now.keys in
    let new = c.insert.new.self.keys in
    let k = c.args.number in
    number_put ks new k (λ q. sym (any_by q new) ∙ c.in-Ok.ensures.updates.0 q ∙ ap (λ b. cond b true (has_by q ks)) (sym (tie k q)) ∙ ap (λ b. cond (nat_eq k q) true b) (any_by q ks)) n
