-- A fault in the goals of a query is one of the query.
use Rattle.ghc_reader.proofs.Words.{◌≡◌, ◌≢◌, ℕ, List, [], ◌∷◌, length, None, refl, sym, ap, ◌∙◌, subst, Stop, Token, first, Begins, Term, Item, Body, last, next, Query, plain, stopped, body, query, EndsTerm, EndsItem, EndsBody, EndsQuery, Fault, arith}
use Rattle.ghc_reader.specs.declared.token.Token.TheVariants as token
use Rattle.ghc_reader.proofs.Append.{body_append}
use Rattle.ghc_reader.proofs.Ends.{stop_ends_body}
use Rattle.ghc_reader.proofs.OneGoal.{one_body}
use Rattle.ghc_reader.proofs.Faults.{in_front, here}

pub none_ends : (t : Term) → EndsTerm t None
none_ends t = grind arith

none_ends_item : (i : Item) → EndsItem i None
none_ends_item i = grind (arith, none_ends)

pub none_ends_body : (c : Body) → EndsBody c None
none_ends_body (last i) = (none_ends_item i, λ h. cc)
none_ends_body (next i x) = none_ends_body x

body_of_query : (d : Query) (us r : List Token) → EndsQuery d (first r) → us ≡ query d r → (c : Body) × (r' : List Token) × EndsBody c (first r') × (us ≡ body c r')
body_of_query (plain x) us r p e = (x, r, subst (EndsBody x) (sym p) (none_ends_body x), e)
body_of_query (stopped x) us r p e = (x, token.Mark Stop ∷ r, stop_ends_body x, e)

pub body_in_query : (ts : List Token) (left : ℕ) → Fault Body body EndsBody ts left → Fault Query query EndsQuery ts left
body_in_query ts left f =
    in_front f body_append (λ c. (plain c, [], refl)) body_of_query

-- after the body stands nothing, or a stop and nothing
pub tail_of_query : (x : Body) (d : Query) (us r : List Token) → EndsBody x (first us) → EndsQuery d (first r) → first us ≢ None → body x us ≡ query d r → us ≡ token.Mark Stop ∷ r
tail_of_query x (plain y) us r p q n e =
    let s = one_body x y us r p (subst (EndsBody y) (sym q) (none_ends_body y)) e in absurd (n (ap first s.behind ∙ q))
tail_of_query x (stopped y) us r p q n e = (one_body x y us (token.Mark Stop ∷ r) p (stop_ends_body y) e).behind

pub end_missing : (x : Body) (ts : List Token) → EndsBody x (first ts) → first ts ≢ None → ¬ Begins Stop ts → Fault Query query EndsQuery (body x ts) (length ts)
end_missing x ts p n m =
    here Query query EndsQuery (λ l. body x l) ts (λ a b. body_append x a b) (plain x) [] refl
    (λ us same d r q e.
    m (sym same ∙ ap first (tail_of_query x d us r (subst (EndsBody x) (sym same) p) q (λ b. n (sym same ∙ b)) e)))

pub more_behind_stop : (x : Body) (ts : List Token) → first ts ≢ None → Fault Query query EndsQuery (body x (token.Mark Stop ∷ ts)) (length ts)
more_behind_stop x ts n =
    here Query query EndsQuery (λ l. body x (token.Mark Stop ∷ l)) ts (λ a b. body_append x (token.Mark Stop ∷ a) b) (stopped x) [] refl
    (λ us same d r q e.
    let tail = tail_of_query x d (token.Mark Stop ∷ us) r (stop_ends_body x) q (λ b. cc) e in
    let same_rest : us ≡ r = cc in
    n (sym same ∙ ap first same_rest ∙ q))
