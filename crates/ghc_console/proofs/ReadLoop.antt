-- How far the reading of a line has come.
use Rattle.ghc_console.proofs.CitedWords.{◌≡◌, ◌⊎◌, ◌≢◌, ℕ, ◌+◌, All, Option, None, Some, List, [], ◌∷◌, ◌++◌, length, IfSome, inl, inr, refl, sym, ap, ◌∙◌, subst, append_assoc, length-append, arith, drop_of_length-le, Bool, false, All-append, Consumes, IsAtEnd, Keeps, prepend_known, Consumes-kept, Consumes-nil, Keeps-refl, Keeps-trans, prepend_known-nil, AsksAtNeed, CountsGiven, HasGathered, TakesFront, Gathered}
use Rattle.ghc_console.specs.Reading.{AsksForMore}

-- these bytes of the line were taken, no call has failed, and each read was needed: `first` and `given` are the bytes given at the start and now, `before` and `asked` those before the last read
pub record Begun (ahead held : List ℕ) (unread left : Option (List ℕ)) (line : Gathered) (written now : Option (List ℕ)) (failed failures first given before asked : ℕ) : Type 0 where
  pub seen : List ℕ
  pub plain : All (λ b. b ≢ 10) seen
  pub taken : Consumes (prepend_known ahead unread) (prepend_known held left) seen
  pub gathered : HasGathered line seen
  pub kept : Keeps written now
  pub same : failures ≡ failed
  pub counted : CountsGiven unread left first given
  pub place : given + length ahead ≡ first + (length seen + length held)
  pub asks : AsksAtNeed ahead (prepend_known ahead unread) first before asked

-- nothing was held, and a read gave more
pub refilled : (old unread later : Option (List ℕ)) (held held' seen : List ℕ) → Consumes old (prepend_known held unread) seen → length held ≡ 0 → Keeps unread (prepend_known held' later) → Consumes old (prepend_known held' later) seen
refilled old unread later held held' seen c none k =
    let empty : held ≡ [] = drop_of_length-le held {i = 0} (omega arith) in
    let before : Consumes old unread seen = subst (λ a. Consumes old a seen) (prepend_known-nil unread) (subst (λ l. Consumes old (prepend_known l unread) seen) empty c) in
    Consumes-kept old unread (prepend_known held' later) seen before k

-- the line and its line feed were taken off
pub taken_off : (old unread : Option (List ℕ)) (held held' seen piece : List ℕ) → Consumes old (prepend_known held unread) seen → held ≡ piece ++ 10 ∷ held'
    → Consumes old (prepend_known held' unread) ((seen ++ piece) ++ 10 ∷ [])
taken_off None unread held held' seen piece c e = tt
taken_off (Some xs) None held held' seen piece c e = absurd c
taken_off (Some xs) (Some ys) held held' seen piece c e = c ∙ ap (λ l. seen ++ (l ++ ys)) e ∙ regroup seen piece (10 ∷ []) held' ys
  where
    regroup : (a b d h y : List ℕ) → a ++ ((b ++ (10 ∷ h)) ++ y) ≡ ((a ++ b) ++ 10 ∷ []) ++ (h ++ y)
    regroup a b d h y = simp append_assoc

-- all that was held went to the line
all_taken : (old left : Option (List ℕ)) (held held' seen piece : List ℕ) → Consumes old (prepend_known held left) seen → held ≡ piece → held' ≡ []
    → Consumes old (prepend_known held' left) (seen ++ piece)
all_taken None left held held' seen piece c e none = tt
all_taken (Some xs) None held held' seen piece c e none = absurd c
all_taken (Some xs) (Some ys) held held' seen piece c e none =
    c ∙ ap (λ l. seen ++ (l ++ ys)) e ∙ sym (append_assoc seen piece ys) ∙ ap (λ l. (seen ++ piece) ++ (l ++ ys)) (sym none)

pub ends_there : (held : List ℕ) (unread : Option (List ℕ)) → held ≡ [] → IsAtEnd unread → IsAtEnd (prepend_known held unread)
ends_there held None e a = tt
ends_there held (Some ys) e a = ap (λ l. l ++ ys) e ∙ a

-- what a read gives is no longer to come
pub given_on : (unread left later : Option (List ℕ)) (held : List ℕ) (first given : ℕ) → CountsGiven unread left first given → Keeps left (prepend_known held later) → CountsGiven unread later first (given + length held)
given_on None left later held first given c k = tt
given_on (Some xs) None later held first given c k = absurd c
given_on (Some xs) (Some ys) None held first given c k = absurd k
given_on (Some xs) (Some ys) (Some zs) held first given c k =
    let all : length held + length zs ≡ length ys = sym (length-append held zs) ∙ ap length k in
    omega (arith, c, all)

-- what was taken is a front of what was to come
front_of : (old left : Option (List ℕ)) (seen : List ℕ) → Consumes old left seen → IfSome old (λ xs. (rest : List ℕ) × (xs ≡ seen ++ rest))
front_of None left seen c = tt
front_of (Some xs) None seen c = absurd c
front_of (Some xs) (Some ys) seen c = (ys, c)

-- before anything was read
pub begun_at_start : (ahead : List ℕ) (unread written : Option (List ℕ)) (line : Gathered) (failed first before : ℕ) → HasGathered line []
    → Begun ahead ahead unread unread line written written failed failed first first before before
begun_at_start ahead unread written line failed first before gathered = record {
  seen = [];
  plain = λ k d lt. absurd (omega (arith, lt));
  taken = Consumes-nil (prepend_known ahead unread);
  gathered = gathered;
  kept = Keeps-refl written;
  same = refl;
  counted = counts_none unread first;
  place = omega arith;
  asks = inl refl;
}
  where
    counts_none : (u : Option (List ℕ)) (n : ℕ) → CountsGiven u u n n
    counts_none None n = tt
    counts_none (Some xs) n = refl

module _ (ahead held : List ℕ) (unread left : Option (List ℕ)) (line : Gathered) (written now : Option (List ℕ)) (failed failures first given before asked : ℕ)
    (b : Begun ahead held unread left line written now failed failures first given before asked) where
  -- where a read is needed
  pub needs_more : (asked' : ℕ) → length held ≡ 0 → asked' ≡ given → AsksForMore ahead (prepend_known ahead unread) first asked'
  needs_more asked' none is =
      let place = b.place in
      record { seen = b.seen; plain = b.plain; front = front_of _ _ b.seen b.taken; place = omega (arith, place, none, is) }

  -- a read, or none
  pub asked_more : (asked' : ℕ) → length held ≡ 0 → asked' ≡ given → AsksAtNeed ahead (prepend_known ahead unread) first before asked'
  asked_more asked' none is = inr (needs_more asked' none is)

  pub asked_or_not : (asked' : ℕ) → length held ≡ 0 → (asked' ≡ asked) ⊎ (asked' ≡ given) → AsksAtNeed ahead (prepend_known ahead unread) first before asked'
  asked_or_not asked' none (inl same) = subst (AsksAtNeed ahead (prepend_known ahead unread) first before) (sym same) b.asks
  asked_or_not asked' none (inr is) = asked_more asked' none is

  pub begun_filled : (held' : List ℕ) (later next : Option (List ℕ)) (failures' asked' latest : ℕ) → length held ≡ 0 → Keeps left (prepend_known held' later) → Keeps now next
      → failures' ≡ failures → asked' ≡ given → latest ≡ length held'
      → Begun ahead held' unread later line written next failed failures' first (asked' + latest) before asked'
  begun_filled held' later next failures' asked' latest none k same count is last =
      let place = b.place in record {
        seen = b.seen;
        plain = b.plain;
        taken = refilled _ left later held held' b.seen b.taken none k;
        gathered = b.gathered;
        kept = Keeps-trans _ _ _ b.kept same;
        same = count ∙ b.same;
        counted = subst (CountsGiven unread later first) (sum asked' given latest (length held') is last) (given_on unread left later held' first given b.counted k);
        place = omega (arith, place, none, is, last);
        asks = asked_more asked' none is;
      }
    where
      sum : (a g l h : ℕ) → a ≡ g → l ≡ h → g + h ≡ a + l
      sum a g l h p q = omega (arith, p, q)

  -- all that was there went to the line
  pub begun_fed : (held' : List ℕ) (line' : Gathered) (ends : Bool) → ends ≡ false → TakesFront held held' line line' ends → Begun ahead held' unread left line' written now failed failures first given before asked
  begun_fed held' line' ends goes front =
      let missed = front.missed goes in
      let place = b.place in
      let all : length held ≡ length front.piece = ap length missed.0 in
      let none : length held' ≡ 0 = ap length missed.1 in
      let both = length-append b.seen front.piece in
      record {
        seen = b.seen ++ front.piece;
        plain = All-append (λ x. x ≢ 10) b.seen front.piece b.plain front.plain;
        taken = all_taken _ left held held' b.seen front.piece b.taken missed.0 missed.1;
        gathered = front.gathers b.seen b.gathered;
        kept = b.kept;
        same = b.same;
        counted = b.counted;
        place = omega (arith, place, all, none, both);
        asks = b.asks;
      }
