-- The walk over a head: which positions are done, and which are ahead.
use Rattle.ghc_match.proofs.Words.{◌≡◌, ℕ, zero, suc, ◌+◌, ◌<◌, ◌≤◌, List, [], ◌∷◌, ◌++◌, refl, sym, ap, ◌∙◌, subst, inl, inr, ◌⊎◌, arith, Option, Some, None, slice_get, zip, VarName, Tree, variable, integer, node, Trees, none, more, list_of, In, at_node, leads_once, in_left, in_right, in_either, in_more, At, here, down, unbound, ChainEnds, arguments, Opens}
use Rattle.std.proofs.lemmas.List.{append-nil}
use Rattle.ghc_match.proofs.Chains.{written}

-- what stands at one place of two lists
in_zip : (hs ts : List Tree) (i : ℕ) (h t : Tree) → slice_get hs i ≡ Some h → slice_get ts i ≡ Some t → In {X = Tree × Tree} (h, t) (zip hs ts)
in_zip (x ∷ hs) (y ∷ ts) zero h t e g = let a : x ≡ h = cc in let b : y ≡ t = cc in inl (λ n. (sym a n, sym b n))
in_zip (x ∷ hs) (y ∷ ts) (suc i) h t e g = inr (in_zip hs ts i h t e g)
in_zip _ _ i h t e g = cc

zip_in : (hs ts : List Tree) (q : Tree × Tree) → In q (zip hs ts) → (i : ℕ) × (slice_get hs i ≡ Some q.0) × (slice_get ts i ≡ Some q.1)
zip_in (x ∷ hs) (y ∷ ts) q (inl e) = (zero, ap (λ (z : Tree × Tree). Some z.0) (sym e), ap (λ (z : Tree × Tree). Some z.1) (sym e))
zip_in (x ∷ hs) (y ∷ ts) q (inr i) = let r = zip_in hs ts q i in (suc r.0, r.1, r.2)
zip_in _ _ q i = absurd i

no_position : {S : VarName → Option Tree} {ts : List Tree} {p : List ℕ} {t : Tree} → At S ts p t → ¬ (ts ≡ [])
no_position (here {ts = ts} {i = i} {t = t} e) n = let clash : None ≡ Some t = sym (ap (λ l. slice_get l i) n) ∙ e in cc
no_position (down {ts = ts} {i = i} {t = t} e l a) n = let clash : None ≡ Some t = sym (ap (λ l. slice_get l i) n) ∙ e in cc

module _ (S : VarName → Option Tree) where
  -- at one position h stands among the heads, and t among the goal's terms
  abbrev pub Meets : List Tree → List Tree → Tree → Tree → Type 0
  Meets hs ts h t = (p : List ℕ) × At unbound hs p h × At S ts p t

  -- h and t are the pair, or stand at one position below it
  abbrev pub Under : Tree × Tree → Tree → Tree → Type 0
  Under q h t = ((h ≡ q.0) × (t ≡ q.1)) ⊎ ((e : Tree) × ChainEnds S q.1 e × Meets (arguments q.0) (arguments e) h t)

  -- .. or of one of the pairs
  abbrev pub UnderOne : List (Tree × Tree) → Tree → Tree → Type 0
  UnderOne qs h t = (q : Tree × Tree) × In q qs × Under q h t

  meets_under : {hs ts : List Tree} {p : List ℕ} {h t : Tree} → At unbound hs p h → At S ts p t → UnderOne (zip hs ts) h t
  meets_under (here {ts = hs} {i = i} {t = h} e) (here {ts = ts} {t = t} g) = ((h, t), in_zip hs ts i h t e g, inl (refl, refl))
  meets_under (here e) (down g l a) = elim a [ ]
  meets_under (down e m b) (here g) = elim b [ ]
  meets_under (down {ts = hs} {i = i} {p = p} {us = us} {t = s} {u = h} e m b) (down {ts = ts} {xs = xs} {f = f} {us = vs} {t = r} {u = t} g l a) =
      ((s, r), in_zip hs ts i s r e g, inr (node f vs, (xs, l), (p, subst (λ z. At unbound (arguments z) p h) (sym (written m)) b, a)))

  below : (hs ts : List Tree) (i : ℕ) (h t e h' t' : Tree) → slice_get hs i ≡ Some h → slice_get ts i ≡ Some t → ChainEnds S t e → Meets (arguments h) (arguments e) h' t' → Meets hs ts h' t'
  below hs ts i (node f us) t (node g vs) h' t' p q l m = (i ∷ m.0, down p at_node m.1, down q l.1 m.2)
  below hs ts i (node f us) t _ h' t' p q l m = absurd (no_position m.2 refl)
  below hs ts i _ t e h' t' p q l m = absurd (no_position m.1 refl)

  under_meets : (hs ts : List Tree) (h t : Tree) → UnderOne (zip hs ts) h t → Meets hs ts h t
  under_meets hs ts h t u =
      let z = zip_in hs ts u.0 u.1 in
      elim u.2 [
        | inl s ↦ (z.0 ∷ [], here (z.1 ∙ ap Some (sym s.0)), here (z.2 ∙ ap Some (sym s.1)))
        | inr b ↦ below hs ts z.0 u.0.0 u.0.1 b.0 h t z.1 z.2 b.1 b.2
      ]

  -- Each position of the heads hs and the terms ts is done or ahead, and nothing else is.
  pub record Walked (hs ts : List Tree) (done ahead : List (Tree × Tree)) : Type 0 where
    pub covers : (h t : Tree) → Meets hs ts h t → In {X = Tree × Tree} (h, t) done ⊎ UnderOne ahead h t
    pub done_meets : (q : Tree × Tree) → In q done → Meets hs ts q.0 q.1
    pub ahead_meets : (h t : Tree) → UnderOne ahead h t → Meets hs ts h t

  pub walk_begins : (hs ts : List Tree) → Walked hs ts [] (zip hs ts)
  walk_begins hs ts = record {
    covers = λ h t m. inr (meets_under m.1 m.2);
    done_meets = λ q i. absurd i;
    ahead_meets = λ h t u. under_meets hs ts h t u;
  }

  pub walk_goes_on : (hs ts : List Tree) (done rest new : List (Tree × Tree)) (q : Tree × Tree) → Walked hs ts done (rest ++ q ∷ []) → Opens S q.0 q.1 rest new → Walked hs ts (done ++ q ∷ []) new
  walk_goes_on hs ts done rest new q w o =
      let inner = zip (arguments q.0) (arguments o.0) in
      let last = in_right rest (q ∷ []) q (inl refl) in
      record {
        covers = λ h t m. elim (w.covers h t m) [
          | inl i ↦ inl (in_left done (q ∷ []) (h, t) i)
          | inr u ↦ elim (in_more rest q u.0 u.1) [
            | inl i ↦ inr (u.0, subst (In u.0) (sym o.2) (in_left rest inner u.0 i), u.2)
            | inr same ↦ elim (subst (λ z. Under z h t) same u.2) [
              | inl s ↦ inl (in_right done (q ∷ []) (h, t) (inl (λ n. (s.0 n, s.1 n))))
              | inr b ↦
                  let end : b.0 ≡ o.0 = (leads_once b.1.1 o.1.1).1 in
                  let m = subst (λ z. Meets (arguments q.0) (arguments z) h t) end b.2 in
                  let v = meets_under m.1 m.2 in
                  inr (v.0, subst (In v.0) (sym o.2) (in_right rest inner v.0 v.1), v.2)
            ]
          ]
        ];
        done_meets = λ p i. elim (in_more done q p i) [
          | inl j ↦ w.done_meets p j
          | inr same ↦ subst (λ (z : Tree × Tree). Meets hs ts z.0 z.1) (sym same) (w.ahead_meets q.0 q.1 (q, last, inl (refl, refl)))
        ];
        ahead_meets = λ h t u. elim (in_either rest inner u.0 (subst (In u.0) o.2 u.1)) [
          | inl i ↦ w.ahead_meets h t (u.0, in_left rest (q ∷ []) u.0 i, u.2)
          | inr i ↦ w.ahead_meets h t (q, last, inr (o.0, o.1, under_meets (arguments q.0) (arguments o.0) h t (u.0, i, u.2)))
        ];
      }

-- to a pair whose head has no arguments nothing comes
pub opens_nothing : (S : VarName → Option Tree) (h t e : Tree) (old : List (Tree × Tree)) → arguments h ≡ [] → ChainEnds S t e → Opens S h t old old
opens_nothing S h t e old n l = (e, l, sym (ap (λ hs. old ++ zip hs (arguments e)) n ∙ append-nil old))

-- nor to one whose term ends in a tree without arguments
pub opens_no_terms : (S : VarName → Option Tree) (h t e : Tree) (old : List (Tree × Tree)) → arguments e ≡ [] → ChainEnds S t e → Opens S h t old old
opens_no_terms S h t e old n l = (e, l, sym (ap (λ us. old ++ zip (arguments h) us) n ∙ ap (λ z. old ++ z) (no_terms (arguments h)) ∙ append-nil old)) where
  no_terms : (hs : List Tree) → zip {X = Tree} hs [] ≡ []
  no_terms [] = refl
  no_terms (h ∷ hs) = refl

-- what comes to no pairs comes to others too
pub opens_more : (S : VarName → Option Tree) (h t : Tree) (rest new below : List (Tree × Tree)) → Opens S h t [] below → new ≡ rest ++ below → Opens S h t rest new
opens_more S h t rest new below o e = (o.0, o.1, e ∙ ap (λ l. rest ++ l) o.2)

abbrev mutual
  -- how many parts a tree has
  pub parts : Tree → ℕ
  parts (variable _) = 1
  parts (integer _) = 1
  parts (node _ ts) = 1 + parts_of_all ts

  pub parts_of_all : Trees → ℕ
  parts_of_all none = 0
  parts_of_all (more t ts) = parts t + parts_of_all ts

-- how many parts the heads of pairs have
abbrev pub head_parts : List (Tree × Tree) → ℕ
head_parts [] = 0
head_parts (q ∷ qs) = parts q.0 + head_parts qs

parts_append : (ps qs : List (Tree × Tree)) → head_parts (ps ++ qs) ≡ head_parts ps + head_parts qs
parts_append [] qs = omega arith
parts_append (p ∷ ps) qs = omega (arith, parts_append ps qs)

parts_zip : (ts : Trees) (us : List Tree) → head_parts (zip (list_of ts) us) ≤ parts_of_all ts
parts_zip (more t ts) (u ∷ us) = omega (arith, parts_zip ts us)
parts_zip _ _ = omega arith

fewer_parts : (h : Tree) (us : List Tree) → head_parts (zip (arguments h) us) < parts h
fewer_parts (node f ts) us = omega (arith, parts_zip ts us)
fewer_parts _ us = omega arith

-- with each pair that is done, fewer parts are ahead
pub walk_ends : (S : VarName → Option Tree) (all rest new : List (Tree × Tree)) (q : Tree × Tree) → all ≡ rest ++ q ∷ [] → Opens S q.0 q.1 rest new → head_parts new < head_parts all
walk_ends S all rest new q e o =
    let a = ap head_parts e ∙ parts_append rest (q ∷ []) in
    let b = ap head_parts o.2 ∙ parts_append rest (zip (arguments q.0) (arguments o.0)) in
    omega (arith, a, b, fewer_parts q.0 (arguments o.0))
