-- Lemmas on rows, and on a part of a buffer.
use Rattle.ghc_console.proofs.CitedWords.{◌≡◌, ◌≢◌, ℕ, ◌+◌, ◌-◌, ◌<◌, ◌≤◌, true, false, cond, eqb, All, Option, None, Some, List, [], ◌∷◌, ◌++◌, length, map, take, drop, refl, sym, ap, ◌∙◌, arith, inl, inr, rules, append-nil, ◌⊎◌, drop-drop, drop-take, length-take, All-head, All-tail, Consumes, IsAtEnd, sum_by-append, onto, rows_of, line_feeds, line_of, lines_of, HasGathered, IsMadeOf, IsNextLine, TakesFront, TakesLine, Gathered, Line}
use Rattle.ghc_console.specs.declared.devices.reading.Line.TheVariants as line

-- what is left of a window into a buffer
pub window : (buf : List ℕ) (start len k : ℕ) → k ≤ len → take (len - k) (drop (start + k) buf) ≡ drop k (take len (drop start buf))
window buf start len k h =
    let split : k + (len - k) ≡ len = omega arith in
    ap (take (len - k)) (sym (drop-drop k start buf))
    ∙ sym (drop-take k (len - k) (drop start buf))
    ∙ ap (λ n. drop k (take n (drop start buf))) split

not_feed : (b : ℕ) → b ≢ 10 → eqb b 10 ≡ false
not_feed b h = search rules

-- a line that ends
pub rows-ended : (seen rest : List ℕ) → All (λ b. b ≢ 10) seen → rows_of (seen ++ 10 ∷ rest) ≡ (seen, true) ∷ rows_of rest
rows-ended [] rest h = refl
rows-ended (b ∷ seen) rest h =
    ap (λ t. cond t (([], true) ∷ rows_of (seen ++ 10 ∷ rest)) (onto b (rows_of (seen ++ 10 ∷ rest)))) (not_feed b (All-head (λ x. x ≢ 10) b seen h))
    ∙ ap (onto b) (rows-ended seen rest (All-tail (λ x. x ≢ 10) b seen h))

-- the last line, with no end
pub rows-last : (b : ℕ) (seen : List ℕ) → All (λ b. b ≢ 10) (b ∷ seen) → rows_of (b ∷ seen) ≡ (b ∷ seen, false) ∷ []
rows-last b [] h = ap (λ t. cond t (([], true) ∷ []) ((b ∷ [], false) ∷ [])) (not_feed b (All-head (λ x. x ≢ 10) b [] h))
rows-last b (c ∷ seen) h =
    ap (λ t. cond t (([], true) ∷ rows_of (c ∷ seen)) (onto b (rows_of (c ∷ seen)))) (not_feed b (All-head (λ x. x ≢ 10) b (c ∷ seen) h))
    ∙ ap (onto b) (rows-last c seen (All-tail (λ x. x ≢ 10) b (c ∷ seen) h))

-- the line feeds of two parts
pub feeds_append : (xs ys : List ℕ) → line_feeds (xs ++ ys) ≡ line_feeds xs + line_feeds ys
feeds_append xs ys = sum_by-append _ xs ys

-- no line feed
pub feeds_plain : (seen : List ℕ) → All (λ b. b ≢ 10) seen → line_feeds seen ≡ 0
feeds_plain [] h = refl
feeds_plain (b ∷ seen) h =
    let first : line_feeds (b ∷ []) ≡ 0 = ap (λ t. 0 + cond t 1 0) (not_feed b (All-head (λ x. x ≢ 10) b seen h)) in
    let rest = feeds_plain seen (All-tail (λ x. x ≢ 10) b seen h) in
    let both : line_feeds (b ∷ seen) ≡ line_feeds (b ∷ []) + line_feeds seen = feeds_append (b ∷ []) seen in
    omega (arith, first, rest, both)

one_feed : (seen : List ℕ) → All (λ b. b ≢ 10) seen → line_feeds (seen ++ 10 ∷ []) ≤ 1
one_feed seen h =
    let none = feeds_plain seen h in
    let both = feeds_append seen (10 ∷ []) in
    let last : line_feeds (10 ∷ []) ≡ 1 = refl in
    omega (arith, none, both, last)

-- a whole line was consumed
takes : (old new : Option (List ℕ)) (seen : List ℕ) (P : List ℕ → Type 0) → All (λ b. b ≢ 10) seen → Consumes old new (seen ++ 10 ∷ []) → P (line_of (seen, true)) → TakesLine old new P
takes None new seen P h c p = tt
takes (Some xs) None seen P h c p = absurd c
takes (Some xs) (Some ys) seen P h c p =
    record {
      taken = seen ++ 10 ∷ [];
      whole = c;
      one = one_feed seen h;
      bytes = line_of (seen, true);
      lines = ap lines_of (c ∙ append_one seen ys) ∙ ap (map line_of) (rows-ended seen ys h);
      says = p;
    }
  where
    append_one : (s r : List ℕ) → (s ++ 10 ∷ []) ++ r ≡ s ++ 10 ∷ r
    append_one [] r = refl
    append_one (b ∷ s) r = ap (λ l. b ∷ l) (append_one s r)

pub ended : (l : Option Line) (old new : Option (List ℕ)) (seen : List ℕ) → All (λ b. b ≢ 10) seen → Consumes old new (seen ++ 10 ∷ []) → IsMadeOf l (seen, true) → IsNextLine l old new
ended None old new seen h c m = absurd (no m.1)
  where
    no : true ≡ false → ⊥
    no e = cc
ended (Some (line.Whole v)) old new seen h c m = takes old new seen _ h c (m.0, m.1)
ended (Some line.TooLong) old new seen h c m = takes old new seen _ h c m.0
ended (Some line.NoMemory) old new seen h c m = takes old new seen _ h c tt

-- the last line was consumed
takes_last : (old new : Option (List ℕ)) (seen : List ℕ) (P : List ℕ → Type 0) → All (λ b. b ≢ 10) seen → 0 < length seen → Consumes old new seen → IsAtEnd new → P seen → TakesLine old new P
takes_last None new seen P h some c e p = tt
takes_last (Some xs) None seen P h some c e p = absurd c
takes_last (Some xs) (Some ys) [] P h some c e p = absurd (omega arith)
takes_last (Some xs) (Some ys) (b ∷ seen) P h some c e p =
    let none = feeds_plain (b ∷ seen) h in record {
      taken = b ∷ seen;
      whole = c;
      one = omega (arith, none);
      bytes = b ∷ seen;
      lines = ap lines_of (c ∙ ap (λ l. (b ∷ seen) ++ l) e ∙ append-nil (b ∷ seen)) ∙ ap (map line_of) (rows-last b seen h) ∙ ap (λ l. (b ∷ seen) ∷ lines_of l) (sym e);
      says = p;
    }

at_end : (old new : Option (List ℕ)) (seen : List ℕ) → seen ≡ [] → Consumes old new seen → IsAtEnd new → IsAtEnd old
at_end None new seen none c e = tt
at_end (Some xs) None seen none c e = absurd c
at_end (Some xs) (Some ys) seen none c e = c ∙ ap (λ l. l ++ ys) none ∙ e

pub last : (l : Option Line) (old new : Option (List ℕ)) (seen : List ℕ) → All (λ b. b ≢ 10) seen → Consumes old new seen → IsAtEnd new → IsMadeOf l (seen, false) → IsNextLine l old new
last None old new seen h c e m = (at_end old new seen m.0 c e, e)
last (Some (line.Whole v)) old new seen h c e m = takes_last old new seen _ h (some m.2) c e (m.0, m.1)
  where
    some : (false ≡ true) ⊎ (0 < length seen) → 0 < length seen
    some (inl f) = cc
    some (inr s) = s
last (Some line.TooLong) old new seen h c e m = takes_last old new seen _ h m.1 c e m.0
last (Some line.NoMemory) old new seen h c e m = takes_last old new seen _ h m c e tt

-- a front of the window goes to the line
module _ (buf : List ℕ) (start end : ℕ) (old : List ℕ) (line later : Gathered) (is : take (end - start) (drop start buf) ≡ old) where
  pub gives : (i : ℕ) → i < length (take (end - start) (drop start buf)) → take (end - start) (drop start buf) ≡ take i (take (end - start) (drop start buf)) ++ 10 ∷ drop (i + 1) (take (end - start) (drop start buf))
      → All (λ b. b ≢ 10) (take i (take (end - start) (drop start buf)))
      → ((bytes : List ℕ) → HasGathered line bytes → HasGathered later (bytes ++ take i (take (end - start) (drop start buf))))
      → TakesFront old (take (end - (start + (i + 1))) (drop (start + (i + 1)) buf)) line later true
  gives i low found plain gathers =
      let few = length-take (end - start) (drop start buf) in
      let size : end - (start + (i + 1)) ≡ (end - start) - (i + 1) = omega arith in
      let moved : take (end - (start + (i + 1))) (drop (start + (i + 1)) buf) ≡ drop (i + 1) (take (end - start) (drop start buf)) =
      ap (λ n. take n (drop (start + (i + 1)) buf)) size ∙ window buf start (end - start) (i + 1) (omega (arith, few)) in
      record {
        piece = take i (take (end - start) (drop start buf));
        plain = plain;
        found = λ _. sym is ∙ found ∙ ap (λ l. take i (take (end - start) (drop start buf)) ++ 10 ∷ l) (sym moved);
        missed = λ e. absurd (differ e);
        gathers = gathers;
      }
    where
      differ : true ≡ false → ⊥
      differ e = cc

  pub gives_all : All (λ b. b ≢ 10) (take (end - start) (drop start buf))
      → ((bytes : List ℕ) → HasGathered line bytes → HasGathered later (bytes ++ take (end - start) (drop start buf)))
      → TakesFront old (take (end - end) (drop end buf)) line later false
  gives_all plain gathers =
      let none : end - end ≡ 0 = omega arith in
      record {
        piece = take (end - start) (drop start buf);
        plain = plain;
        found = λ e. absurd (differ e);
        missed = λ _. (sym is, ap (λ n. take n (drop end buf)) none);
        gathers = gathers;
      }
    where
      differ : false ≡ true → ⊥
      differ e = cc
