-- A step that woke a goal.
use Rattle.ghc_depend.proofs.Words.{◌≡◌, ℕ, [], ◌∷◌, refl, sym, ap, ◌∙◌, subst, inl, inr, arith, true, false, is_some, VarName, In, name_cmp, name_total, same_name, Precedes, Record, before_in, is_before, precedes_rises, Rises, Consumes, Binds, by_reading, first_wake, second_wake, third_wake, wake, WakingDepends, or_cases, each_in, ◌<◌}
use Rattle.std.specs.FinMap as finite
use Rattle.std.specs.FinSet as set

abbrev number : Record → ℕ
number r = r.number

rising : Rises number wake
rising = ((omega arith, (omega arith, tt)), ((omega arith, tt), (tt, tt)))

abbrev y : VarName
y = record { step = 0; place = 2 }

reads_alone : (x : VarName) → set.contains third_wake.effect.reads x ≡ true → x ≡ y
reads_alone x e = grind (arith, set.contains-empty, set.contains-insert, name_total, or_cases, same_name)

binds_nothing : (x : VarName) → ¬ Binds third_wake x
binds_nothing x b = let e : true ≡ false = sym b ∙ ap is_some (finite.get-empty name_cmp x) in cc

not_later : (c : Record) (x : VarName) → Precedes wake second_wake c → ¬ Binds c x
not_later c x p b =
    each_in wake (λ r. 2 < r.number → ¬ Binds r x) c
    ((λ (n : 2 < 1). absurd (omega arith)), ((λ (n : 2 < 2). absurd (omega arith)), ((λ _. binds_nothing x), tt)))
    (before_in wake second_wake c (is_before wake second_wake c p)).1 (precedes_rises number wake second_wake c rising p) b

not_first : ¬ Binds first_wake y
not_first b = let e : true ≡ false = sym b ∙ ap is_some (finite.get-insert name_total finite.empty (record { step = 0; place = 1 }) _ y ∙ finite.get-empty name_cmp y) in cc

not_made : (m : Record) → In m wake → ¬ Consumes third_wake m
not_made m i c = grind (arith, each_in, wake)

pub waking : WakingDepends
waking = record {
  woken = by_reading (first_wake ∷ [], [], [], refl) (not_made second_wake (inr (inl refl)))
      ((set.contains-insert name_total set.empty y y, ap is_some (finite.get-insert name_total finite.empty y _ y)), λ x r. inl (reads_alone x r.0))
      (λ _. (tt, (λ m i c. absurd (not_made m i c)), λ r. not_later r.2.0 r.0 r.2.1 r.2.2), λ _. refl);
  apart = λ d. elim d.1 [ inl c ↦ not_made first_wake (inl refl) c | inr (inl r) ↦ not_first (subst (Binds first_wake) (reads_alone r.0 r.1.0) r.1.1) | inr (inr n) ↦ n.1.0.0 ];
}
