-- A text that is cut off is refused with the line after its last line feed.
use Rattle.ghc_records.proofs.Words.{◌≡◌, ◌≢◌, ℕ, zero, suc, ◌+◌, ◌<◌, ◌≤◌, cases_lt, inl, inr, true, false, nat_eq, List, [], ◌∷◌, ◌++◌, drop, take, get_or, length, map, refl, sym, ap, ◌∙◌, subst, arith, Some, slice_get, length-append, length-drop, onto_first, append_cancel_left, length-take-le, length-slice_split, slice_split-cons_no, slice_split-cons_yes, map-append, take-append-drop, In, in_left, push_last, AreDistinct, Step, History, IsFirstWrongLine, IsLine, IsLineOf, TellsCount, TellsHistory, TellsNext, TellsSteps, behind_count, count_line, end_line, heading, pieces_of, line_feeds}
use Rattle.std.proofs.Common.{append-nil}
use Rattle.ghc_records.specs.HistoryText.{no_count, no_end, no_heading, no_step}
use Rattle.ghc_records.proofs.CutLemmas.{one_text, some_first, some_piece}
use Rattle.ghc_records.proofs.TellingSteps.{AreApart, number_of}

-- The pieces of a front are the lines of the text in front of the cut, and what the cut leaves of the next one.
pub record IsCut (front back : List ℕ) (lines : List (List ℕ)) : Type 0 where
  pub last : List ℕ
  pub more : List ℕ
  pub others : List (List ℕ)
  pub front_pieces : pieces_of front ≡ lines ++ last ∷ []
  pub text_pieces : pieces_of (front ++ back) ≡ lines ++ (last ++ more) ∷ others

-- one byte more in front, which ends no line
byte_more : (b : ℕ) (front back : List ℕ) (lines : List (List ℕ)) → nat_eq b 10 ≡ false → IsCut front back lines → (all : List (List ℕ)) × IsCut (b ∷ front) back all
byte_more b front back [] e c = (
  [],
  record {
    last = b ∷ c.last;
    more = c.more;
    others = c.others;
    front_pieces = slice_split-cons_no (λ byte. nat_eq byte 10) b front e ∙ ap (onto_first b) c.front_pieces;
    text_pieces = slice_split-cons_no (λ byte. nat_eq byte 10) b (front ++ back) e ∙ ap (onto_first b) c.text_pieces;
  },
)
byte_more b front back (line ∷ lines) e c = (
  (b ∷ line) ∷ lines,
  record {
    last = c.last;
    more = c.more;
    others = c.others;
    front_pieces = slice_split-cons_no (λ byte. nat_eq byte 10) b front e ∙ ap (onto_first b) c.front_pieces;
    text_pieces = slice_split-cons_no (λ byte. nat_eq byte 10) b (front ++ back) e ∙ ap (onto_first b) c.text_pieces;
  },
)

pub cut_at : (front back : List ℕ) → (lines : List (List ℕ)) × IsCut front back lines
cut_at [] back =
    let (first, others, e) = some_first (pieces_of back) (some_piece 10 back) in
    ([], record { last = []; more = first; others = others; front_pieces = refl; text_pieces = e })
cut_at (b ∷ front) back =
    let (lines, c) = cut_at front back in
    elim (nat_eq b 10) as (λ t. nat_eq b 10 ≡ t → (all : List (List ℕ)) × IsCut (b ∷ front) back all) [
      | true ↦ λ e. (
        [] ∷ lines,
        record {
          last = c.last;
          more = c.more;
          others = c.others;
          front_pieces = slice_split-cons_yes (λ byte. nat_eq byte 10) b front e ∙ ap (λ l. [] ∷ l) c.front_pieces;
          text_pieces = slice_split-cons_yes (λ byte. nat_eq byte 10) b (front ++ back) e ∙ ap (λ l. [] ∷ l) c.text_pieces;
        },
      )
      | false ↦ λ e. byte_more b front back lines e c
    ] refl

-- a line in front of the cut stands in the front too
pub line_kept : (lines : List (List ℕ)) (x last : List ℕ) (others : List (List ℕ)) (i : ℕ) (line : List ℕ) → i < length lines → IsLineOf (lines ++ x ∷ others) i line → IsLineOf (lines ++ last ∷ []) i line
line_kept [] x last others i line low is = absurd (omega (arith, low))
line_kept (l ∷ []) x last others zero line low (next, more, e) = let same : l ≡ line = ap (λ ls. get_or ls 0 []) e in (last, [], ap (λ k. k ∷ last ∷ []) same)
line_kept (l ∷ m ∷ lines) x last others zero line low (next, more, e) = let same : l ≡ line = ap (λ ls. get_or ls 0 []) e in (m, lines ++ last ∷ [], ap (λ k. k ∷ m ∷ (lines ++ last ∷ [])) same)
line_kept (l ∷ lines) x last others (suc i) line low is = line_kept lines x last others i line (omega (arith, low)) is

-- from the cut on no line is left
pub no_line_left : (lines : List (List ℕ)) (last : List ℕ) (i : ℕ) (line : List ℕ) → length lines ≤ i → ¬ IsLineOf (lines ++ last ∷ []) i line
no_line_left lines last i line far (next, more, e) = omega (arith, far, length-drop i (lines ++ last ∷ []), length-append lines (last ∷ []), ap length e)

-- what stands in the first part of a list
pub taken_at : {X : Type 0} (n : ℕ) (xs : List X) (i : ℕ) (x : X) → slice_get (take n xs) i ≡ Some x → (i < n) × (slice_get xs i ≡ Some x)
taken_at zero xs i x e = cc
taken_at (suc n) [] i x e = cc
taken_at (suc n) (y ∷ xs) zero x e = (omega arith, e)
taken_at (suc n) (y ∷ xs) (suc i) x e = let (low, at) = taken_at n xs i x e in (omega (arith, low), at)

in_front : {X : Type 0} (n : ℕ) (xs : List X) (x : X) → In x (take n xs) → In x xs
in_front n xs x i = subst (In x) (take-append-drop n xs) (in_left (take n xs) (drop n xs) x i)

in_taken : (n : ℕ) (steps : List Step) (k : ℕ) → In k (map number_of (take n steps)) → In k (map number_of steps)
in_taken n steps k i =
    subst (In k) (sym (map-append number_of (take n steps) (drop n steps)) ∙ ap (map number_of) (take-append-drop n steps))
    (in_left (map number_of (take n steps)) (map number_of (drop n steps)) k i)

pub distinct_taken : (n : ℕ) (steps : List Step) → AreDistinct (map number_of steps) → AreDistinct (map number_of (take n steps))
distinct_taken zero steps d = tt
distinct_taken (suc n) [] d = tt
distinct_taken (suc n) (s ∷ steps) d = ((λ i. d.0 (in_taken n steps s.number i)), distinct_taken n steps d.1)

pub fewer_apart : (P : Step → Type 0) (n : ℕ) (steps : List Step) → AreApart P steps → AreApart P (take n steps)
fewer_apart P n steps fit = (distinct_taken n steps fit.0, λ s i. fit.1 s (in_front n steps s i))

-- the lines in front of the cut tell the first steps
module _ (lines : List (List ℕ)) (x last : List ℕ) (others : List (List ℕ)) (count : ℕ) (steps : List Step) (told : TellsSteps (lines ++ x ∷ others) count steps) (all : length steps ≡ count) (low : length lines ≤ count) where
  pub first_length : length (take (length lines) steps) ≡ length lines
  first_length = length-take-le (length lines) steps (omega (arith, all, low))

  pub first_told : TellsSteps (lines ++ last ∷ []) count (take (length lines) steps)
  first_told = record {
    each = λ i s e.
        let (near, at) = taken_at (length lines) steps i s e in
        let (line, stands, says) = told.each i s at in
        (line, line_kept lines x last others i line near stands, says);
    distinct = distinct_taken (length lines) steps told.distinct;
    below = λ next s ends i. absurd (no_line_left lines last count (end_line next) low ends.0);
  }

  pub none_more : (s : Step) → ¬ TellsSteps (lines ++ last ∷ []) count (take (length lines) steps ++ s ∷ [])
  none_more s more =
      let (line, stands, says) = more.each (length (take (length lines) steps)) s (push_last (take (length lines) steps) s) in
      no_line_left lines last (length (take (length lines) steps)) line (omega (arith, first_length)) stands

-- a cut after all lines leaves nothing
all_lines : (lines : List (List ℕ)) (x : List ℕ) (others : List (List ℕ)) (n : ℕ) → drop n (lines ++ x ∷ others) ≡ [] ∷ [] → n ≤ length lines → (x ≡ []) × (others ≡ []) × (n ≡ length lines)
all_lines [] x others zero e low = let first : x ≡ [] = ap (λ l. get_or l 0 []) e in let rest : others ≡ [] = ap (drop 1) e in (first, rest, refl)
all_lines [] x others (suc n) e low = absurd (omega (arith, low))
all_lines (l ∷ lines) x others zero e low = absurd (omega (arith, ap length e, length-append lines (x ∷ others)))
all_lines (l ∷ lines) x others (suc n) e low = let (first, rest, same) = all_lines lines x others n e (omega (arith, low)) in (first, rest, ap suc same)

pub empty_front : (a b : List ℕ) → a ++ b ≡ [] → a ≡ []
empty_front [] b e = refl
empty_front (x ∷ a) b e = cc

-- where no byte follows the last of so many lines, and all of these stand in front of the cut, nothing is cut off
pub nothing_behind : (front back : List ℕ) (n : ℕ) (lines : List (List ℕ)) → IsCut front back lines → n ≤ length lines → drop n (pieces_of (front ++ back)) ≡ [] ∷ [] → back ≡ []
nothing_behind front back n lines c far whole =
    let (first, rest, same) = all_lines lines (c.last ++ c.more) c.others n (ap (drop n) (sym c.text_pieces) ∙ whole) far in
    let nothing : c.last ≡ [] = empty_front c.last c.more first in
    let pieces : pieces_of (front ++ back) ≡ pieces_of front =
    c.text_pieces ∙ ap (λ l. lines ++ l ∷ c.others) first ∙ ap (λ l. lines ++ [] ∷ l) rest ∙ ap (λ l. lines ++ l ∷ []) (sym nothing) ∙ sym c.front_pieces in
    let same_text : front ++ back ≡ front ++ [] = one_text (front ++ back) front pieces ∙ sym (append-nil front) in
    append_cancel_left front back [] same_text

-- each line in front of the cut has a line feed
pub feeds_of : (front back : List ℕ) (lines : List (List ℕ)) → IsCut front back lines → line_feeds front ≡ length lines
feeds_of front back lines c = omega (arith, length-slice_split (λ byte. nat_eq byte 10) front, ap length c.front_pieces, length-append lines (c.last ∷ []))

module _ (front back : List ℕ) (h : History) (some : back ≢ []) (told : TellsHistory (front ++ back) h) where
  -- not all lines stand in front of the cut
  few : (lines : List (List ℕ)) → IsCut front back lines → length lines < length h.steps + 3
  few lines c = elim (cases_lt (length lines) (length h.steps + 3)) [
    | inl low ↦ low
    | inr far ↦ absurd (some (nothing_behind front back (length h.steps + 3) lines c far told.whole))
  ]

  stands : (lines : List (List ℕ)) (c : IsCut front back lines) (i : ℕ) (line : List ℕ) → i < length lines → IsLine (front ++ back) i line → IsLine front i line
  stands lines c i line low is =
      subst (λ p. IsLineOf p i line) (sym c.front_pieces) (line_kept lines (c.last ++ c.more) c.last c.others i line low (subst (λ p. IsLineOf p i line) c.text_pieces is))

  -- the line after those in front of the cut is wrong
  refused_at : (lines : List (List ℕ)) → IsCut front back lines → IsFirstWrongLine front (length lines + 1)
  refused_at [] c = no_heading (λ is. no_line_left [] c.last 0 heading (omega arith) (subst (λ p. IsLineOf p 0 heading) c.front_pieces is))
  refused_at (l ∷ []) c =
      no_count (stands (l ∷ []) c 0 heading (omega arith) told.begins)
      (λ count counts. no_line_left (l ∷ []) c.last 1 (count_line count) (omega arith) (subst (λ p. IsLineOf p 1 (count_line count)) c.front_pieces counts.0))
  refused_at (l ∷ m ∷ lines) c =
      let count = length h.steps in
      let begins = stands (l ∷ m ∷ lines) c 0 heading (omega arith) told.begins in
      let counts : TellsCount front count = (stands (l ∷ m ∷ lines) c 1 (count_line count) (omega arith) told.count.0, told.count.1) in
      let low : length lines ≤ count = omega (arith, few (l ∷ m ∷ lines) c) in
      let steps = subst (λ p. TellsSteps p count h.steps) (ap (drop 2) c.text_pieces) told.steps in
      let behind : lines ++ c.last ∷ [] ≡ behind_count front = sym (ap (drop 2) c.front_pieces) in
      let first = subst (λ p. TellsSteps p count (take (length lines) h.steps)) behind (first_told lines (c.last ++ c.more) c.last c.others count h.steps steps refl low) in
      let size = first_length lines (c.last ++ c.more) c.last c.others count h.steps steps refl low in
      elim (cases_lt (length lines) count) [
        | inl less ↦
            let none = subst (λ p. (s : Step) → ¬ TellsSteps p count (take (length lines) h.steps ++ s ∷ [])) behind (none_more lines (c.last ++ c.more) c.last c.others count h.steps steps refl low) in
            let place : length (take (length lines) h.steps) + 3 ≡ length (l ∷ m ∷ lines) + 1 = omega (arith, size) in
            subst (IsFirstWrongLine front) place (no_step {count = count} {steps = take (length lines) h.steps} begins counts (first, omega (arith, size, less), none))
        | inr far ↦
            let none = subst (λ p. (next : ℕ) → ¬ TellsNext p count next) behind (λ next ends. no_line_left lines c.last count (end_line next) low ends.0) in
            let place : count + 3 ≡ length (l ∷ m ∷ lines) + 1 = omega (arith, far, low) in
            subst (IsFirstWrongLine front) place (no_end {count = count} {steps = take (length lines) h.steps} begins counts first (omega (arith, size, far, low)) none)
      ]

  pub refused : IsFirstWrongLine front (line_feeds front + 1)
  refused =
      let (lines, c) = cut_at front back in
      subst (λ n. IsFirstWrongLine front (n + 1)) (sym (feeds_of front back lines c)) (refused_at lines c)
