-- One slot for each number: what is found at the place of a number, and what is left where that is emptied.
use Rattle.ghc_records.proofs.Words.{◌≡◌, ◌≢◌, ℕ, zero, suc, ◌∷◌, refl, sym, ap, ◌∙◌, subst, ◌↔◌, Option, Some, None, IfSome, IfNone, slice_set, option_copied, Bor, In, AreDistinct, Picks, Record, numbers, SlotList, held_in, StandsIn, AreOnceIn, HasNumberIn}
use Rattle.ghc_records.proofs.OrderLemmas.{number_in, records_distinct}
use Rattle.ghc_records.proofs.SlotLemmas.{stands_held, held_stands, held_without}
use Rattle.ghc_records.proofs.SlotPlaces.{one_record}

-- each record has one slot where the numbers are distinct
pub once_of : (ss : SlotList) → AreDistinct (numbers (held_in ss)) → AreOnceIn ss
once_of (None ∷ ss) d (suc p) (suc q) a b h k e = ap suc (once_of ss d p q a b h k e)
once_of (Some s ∷ ss) d zero zero a b h k e = refl
once_of (Some s ∷ ss) d zero (suc q) a b h k e =
    let same : s ≡ a = cc in
    absurd (d.0 (subst (λ n. In n (numbers (held_in ss))) (sym (ap (λ (z : Record). z.number) same ∙ e)) (number_in (held_in ss) b (stands_held ss q b k))))
once_of (Some s ∷ ss) d (suc p) zero a b h k e =
    let same : s ≡ b = cc in
    absurd (d.0 (subst (λ n. In n (numbers (held_in ss))) (e ∙ ap (λ (z : Record). z.number) (sym same)) (number_in (held_in ss) a (stands_held ss p a h))))
once_of (Some s ∷ ss) d (suc p) (suc q) a b h k e = ap suc (once_of ss d.1 p q a b h k e)
once_of ss d p q a b h k e = cc

-- what is found at the place of a number
pub found_at : (ss : SlotList) (p n : ℕ) (o : Option (Bor Record)) → HasNumberIn ss p n → ((r : Record) → (option_copied o ≡ Some r) ↔ StandsIn ss p r)
    → IfSome o (λ r. In r.now (held_in ss) × (r.now.number ≡ n)) × IfNone o ((r : Record) → In r (held_in ss) → r.number ≢ n)
found_at ss p n (Some r) h at =
    let stands = (at r.now).0 refl in
    let same : r.now ≡ h.0 = one_record ss p p r.now h.0 stands h.1 refl in
    ((stands_held ss p r.now stands, ap (λ (z : Record). z.number) same ∙ h.2), tt)
found_at ss p n None h at = let clash : None ≡ Some h.0 = (at h.0).1 h.1 in cc

pub none_in : (ss : SlotList) (n : ℕ) (o : Option ℕ) → o ≡ None → ((p : ℕ) → (o ≡ Some p) ↔ HasNumberIn ss p n) → (r : Record) → In r (held_in ss) → r.number ≢ n
none_in ss n o e h r i same = let q = held_stands ss r i in let clash : None ≡ Some q.0 = sym e ∙ (h q.0).1 (r, q.1, same) in cc

-- a record that is taken out of its slot leaves the others
pub others_left : (ss new : SlotList) (n : ℕ) → AreDistinct (numbers (held_in ss)) → ((p : ℕ) → HasNumberIn ss p n → new ≡ slice_set ss p None) → (r : Record) → In r (held_in ss) → r.number ≡ n → Picks (λ s. ¬ (s ≡ r)) (held_in ss) (held_in new)
others_left ss new n once gap r i e =
    let w = held_stands ss r i in
    subst (λ l. Picks (λ s. ¬ (s ≡ r)) (held_in ss) (held_in l)) (sym (gap w.0 (r, w.1, e))) (held_without ss w.0 r (records_distinct (held_in ss) once) w.1)

pub taken_held : (ss : SlotList) (n : ℕ) (o : Option Record) → IfSome o (λ r. (p : ℕ) × StandsIn ss p r × (r.number ≡ n)) → IfSome o (λ r. In r (held_in ss) × (r.number ≡ n))
taken_held ss n None h = tt
taken_held ss n (Some r) h = (stands_held ss h.0 r h.1, h.2)
