-- How far a session has come.
use Rattle.ghc_console.proofs.CitedWords.{◌≡◌, ◌≤◌, ◌+◌, ◌-◌, ℕ, Bool, true, false, Option, None, Some, List, [], ◌++◌, length, inl, inr, take, refl, sym, ap, ◌∙◌, subst, append_assoc, append-nil, length-append, arith, take-append_seam, Appends, IsAtEnd, Keeps, prepend_known, Appends-trans, Appends-kept, Appends-nil, line_feeds, lines_of, AsksAtNeed, CountsGiven, TakesFirst, TakesLine, IsReply, SessionState, Session, Began, Tells, at_end, ends, goes_on, nothing_yet, broken, went_on}
use Rattle.ghc_console.specs.Session.{SoFar, none_yet, one_then}
use Rattle.ghc_console.proofs.Rows.{feeds_append, feeds_plain}

-- what the rest gives, after `count` lines and what was done, is what the whole gives
pub record Onward (count : ℕ) (first now : SessionState) (all rest : List (List ℕ)) (done : List ℕ) : Type 0 where
  pub whole : (more : ℕ) (out : List ℕ) (later : SessionState) → Session more now rest out later → Session (more + count) first all (done ++ out) later
  pub begun : (more : ℕ) (out : List ℕ) (later : SessionState) → Began more now rest out later → Began (more + count) first all (done ++ out) later
  pub going : (more : ℕ) (out : List ℕ) (later : SessionState) → SoFar more now rest out later → SoFar (more + count) first all (done ++ out) later

-- a front of the input was answered, and it has no fewer lines than line feeds were there when the last read was made
pub record Gone (first now : SessionState) (input rest : List ℕ) (written held : Option (List ℕ)) (before : ℕ) : Type 0 where
  pub count : ℕ
  pub front : List ℕ
  pub done : List ℕ
  pub split : input ≡ front ++ rest
  pub few : line_feeds front ≤ count
  pub asked : line_feeds (take before input) ≤ count
  pub appended : Appends written held done
  pub onward : Onward count first now (lines_of input) (lines_of rest) done

abbrev pub Going : SessionState → SessionState → Option (List ℕ) → Option (List ℕ) → Option (List ℕ) → Option (List ℕ) → ℕ → Type 0
Going first now None left written held before = Unit {0}
Going first now (Some input) None written held before = ⊥
Going first now (Some input) (Some rest) written held before = Gone first now input rest written held before

pub going_start : (s : SessionState) (unread written : Option (List ℕ)) (before : ℕ) → before ≡ 0 → Going s s unread (prepend_known [] unread) written written before
going_start s None written before none = tt
going_start s (Some input) written before none = record {
  count = 0;
  front = [];
  done = [];
  split = refl;
  few = omega arith;
  asked = subst (λ n. line_feeds (take n input) ≤ 0) (sym none) (omega arith);
  appended = Appends-nil written;
  onward = record {
    whole = λ more out later r. subst (λ n. Session n s (lines_of input) out later) (none_more more) r;
    begun = λ more out later r. subst (λ n. Began n s (lines_of input) out later) (none_more more) r;
    going = λ more out later r. subst (λ n. SoFar n s (lines_of input) out later) (none_more more) r;
  };
}
  where
    none_more : (m : ℕ) → m ≡ m + 0
    none_more m = omega arith

-- a read was made where it was needed
pub going_asked : (s now : SessionState) (unread left : Option (List ℕ)) (ahead : List ℕ) (written held : Option (List ℕ)) (first given before asked : ℕ)
    → Going s now unread (prepend_known ahead left) written held (before - first) → CountsGiven unread left first given
    → AsksAtNeed ahead (prepend_known ahead left) given before asked
    → Going s now unread (prepend_known ahead left) written held (asked - first)
going_asked s now unread left ahead written held first given before asked g c (inl same) = subst (λ n. Going s now unread (prepend_known ahead left) written held (n - first)) (sym same) g
going_asked s now None left ahead written held first given before asked g c (inr more) = tt
going_asked s now (Some input) None ahead written held first given before asked g c (inr more) = absurd g
going_asked s now (Some input) (Some rest) ahead written held first given before asked g c (inr more) = record {
  count = g.count;
  front = g.front;
  done = g.done;
  split = g.split;
  few = g.few;
  asked = subst (λ l. line_feeds l ≤ g.count) (sym there) still;
  appended = g.appended;
  onward = g.onward;
}
  where
    tail : List ℕ
    tail = more.front.0

    whole : input ≡ (g.front ++ more.seen) ++ tail
    whole = g.split ∙ ap (λ l. g.front ++ l) more.front.1 ∙ sym (append_assoc g.front more.seen tail)

    size : asked - first ≡ length (g.front ++ more.seen)
    size =
        let all : length input ≡ length g.front + length (ahead ++ rest) = ap length g.split ∙ length-append g.front (ahead ++ rest) in
        let left = length-append ahead rest in
        let both = length-append g.front more.seen in
        let place = more.place in
        omega (arith, all, left, both, place, c)

    there : take (asked - first) input ≡ g.front ++ more.seen
    there = ap (λ n. take n input) size ∙ ap (take (length (g.front ++ more.seen))) whole ∙ take-append_seam (g.front ++ more.seen) tail

    still : line_feeds (g.front ++ more.seen) ≤ g.count
    still =
        let both = feeds_append g.front more.seen in
        let none = feeds_plain more.seen more.plain in
        let few = g.few in
        omega (arith, both, none, few)

-- one line on
pub going_on : (first now next : SessionState) (old left left' written held held' : Option (List ℕ)) (before : ℕ) (P : List ℕ → Type 0)
    → Going first now old left written held before → TakesLine left left' P
    → ((bytes : List ℕ) → P bytes → (text : List ℕ) × IsReply now bytes text next false × Appends held held' text)
    → Going first next old left' written held' before
going_on first now next None left left' written held held' before P g t r = tt
going_on first now next (Some input) None left' written held held' before P g t r = absurd g
going_on first now next (Some input) (Some rest) None written held held' before P g t r = absurd t
going_on first now next (Some input) (Some rest) (Some rest') written held held' before P g t r =
    let answer = r t.bytes t.says in
    let text = answer.0 in
    let few = g.few in
    let one = t.one in
    let asked = g.asked in
    let both = feeds_append g.front t.taken in
    record {
      count = 1 + g.count;
      front = g.front ++ t.taken;
      done = g.done ++ text;
      split = g.split ∙ ap (λ l. g.front ++ l) t.whole ∙ sym (append_assoc g.front t.taken rest');
      few = omega (arith, few, one, both);
      asked = omega (arith, asked);
      appended = Appends-trans _ _ _ g.done text g.appended answer.2;
      onward = record {
        whole = λ more out later run. subst (λ n. Session n first (lines_of input) ((g.done ++ text) ++ out) later) (counts more g.count)
            (subst (λ l. Session ((more + 1) + g.count) first (lines_of input) l later) (sym (append_assoc g.done text out))
            (g.onward.whole (more + 1) (text ++ out) later (subst (λ ls. Session (more + 1) now ls (text ++ out) later) (sym t.lines) (goes_on answer.1 run))));
        begun = λ more out later run. subst (λ n. Began n first (lines_of input) ((g.done ++ text) ++ out) later) (counts more g.count)
            (subst (λ l. Began ((more + 1) + g.count) first (lines_of input) l later) (sym (append_assoc g.done text out))
            (g.onward.begun (more + 1) (text ++ out) later (subst (λ ls. Began (more + 1) now ls (text ++ out) later) (sym t.lines) (went_on answer.1 run))));
        going = λ more out later run. subst (λ n. SoFar n first (lines_of input) ((g.done ++ text) ++ out) later) (counts more g.count)
            (subst (λ l. SoFar ((more + 1) + g.count) first (lines_of input) l later) (sym (append_assoc g.done text out))
            (g.onward.going (more + 1) (text ++ out) later (subst (λ ls. SoFar (more + 1) now ls (text ++ out) later) (sym t.lines) (one_then answer.1 run))));
      };
    }
  where
    counts : (m n : ℕ) → (m + 1) + n ≡ m + (1 + n)
    counts m n = omega arith

-- the input is at its end
pub going_end : (first now : SessionState) (old left written held held' : Option (List ℕ)) (before : ℕ) → Going first now old left written held before → IsAtEnd left → Keeps held held' → Tells Session first old written held' before now
going_end first now None left written held held' before g e k = tt
going_end first now (Some input) None written held held' before g e k = absurd g
going_end first now (Some input) (Some rest) written held held' before g e k =
    let asked = g.asked in
    record {
      count = 0 + g.count;
      out = g.done ++ [];
      appended = subst (Appends written held') (sym (append-nil g.done)) (Appends-kept _ _ _ g.done g.appended k);
      run = g.onward.whole 0 [] now (subst (λ l. Session 0 now (lines_of l) [] now) (sym e) at_end);
      asked = omega (arith, asked);
    }

-- a line ended the session
pub going_quit : (first now next : SessionState) (old left left' written held held' : Option (List ℕ)) (before : ℕ) (P : List ℕ → Type 0)
    → Going first now old left written held before → TakesLine left left' P
    → ((bytes : List ℕ) → P bytes → (text : List ℕ) × IsReply now bytes text next true × Appends held held' text)
    → Tells Session first old written held' before next
going_quit first now next None left left' written held held' before P g t r = tt
going_quit first now next (Some input) None left' written held held' before P g t r = absurd g
going_quit first now next (Some input) (Some rest) None written held held' before P g t r = absurd t
going_quit first now next (Some input) (Some rest) (Some rest') written held held' before P g t r =
    let answer = r t.bytes t.says in
    let text = answer.0 in
    let asked = g.asked in
    record {
      count = 0 + g.count;
      out = g.done ++ text;
      appended = Appends-trans _ _ _ g.done text g.appended answer.2;
      run = g.onward.whole 0 text next (subst (λ ls. Session 0 now ls text next) (sym t.lines) (ends answer.1));
      asked = omega (arith, asked);
    }

-- what was written so far
pub going_so_far : (first now : SessionState) (old left written held held' : Option (List ℕ)) (before : ℕ) → Going first now old left written held before → Keeps held held' → Tells SoFar first old written held' before now
going_so_far first now None left written held held' before g k = tt
going_so_far first now (Some input) None written held held' before g k = absurd g
going_so_far first now (Some input) (Some rest) written held held' before g k =
    let asked = g.asked in
    record {
      count = 0 + g.count;
      out = g.done ++ [];
      appended = subst (Appends written held') (sym (append-nil g.done)) (Appends-kept _ _ _ g.done g.appended k);
      run = g.onward.going 0 [] now none_yet;
      asked = omega (arith, asked);
    }

-- a read failed
pub broken_read : (first now : SessionState) (old left written held held' : Option (List ℕ)) (before : ℕ) → Going first now old left written held before → Keeps held held' → Tells Began first old written held' before now
broken_read first now None left written held held' before g k = tt
broken_read first now (Some input) None written held held' before g k = absurd g
broken_read first now (Some input) (Some rest) written held held' before g k =
    let asked = g.asked in
    record {
      count = 0 + g.count;
      out = g.done ++ [];
      appended = subst (Appends written held') (sym (append-nil g.done)) (Appends-kept _ _ _ g.done g.appended k);
      run = g.onward.begun 0 [] now nothing_yet;
      asked = omega (arith, asked);
    }

-- a write failed
pub broken_write : (first now next : SessionState) (old left left' written held held' : Option (List ℕ)) (before : ℕ) (P : List ℕ → Type 0)
    → Going first now old left written held before → TakesLine left left' P
    → ((bytes : List ℕ) → P bytes → (text : List ℕ) × (ended : Bool) × IsReply now bytes text next ended × ((n : ℕ) × Appends held held' (take n text)))
    → Tells Began first old written held' before next
broken_write first now next None left left' written held held' before P g t r = tt
broken_write first now next (Some input) None left' written held held' before P g t r = absurd g
broken_write first now next (Some input) (Some rest) None written held held' before P g t r = absurd t
broken_write first now next (Some input) (Some rest) (Some rest') written held held' before P g t r =
    let (text, ended, reply, wrote) = r t.bytes t.says in
    let n = wrote.0 in
    let asked = g.asked in
    record {
      count = 0 + g.count;
      out = g.done ++ take n text;
      appended = Appends-trans _ _ _ g.done (take n text) g.appended wrote.1;
      run = g.onward.begun 0 (take n text) next (subst (λ ls. Began 0 now ls (take n text) next) (sym t.lines) (broken n reply));
      asked = omega (arith, asked);
    }

-- nothing was written, and then the text
pub kept_then : (a b c : Option (List ℕ)) (bs : List ℕ) → Keeps a b → Appends b c bs → Appends a c bs
kept_then None b c bs k w = tt
kept_then (Some x) None c bs k w = absurd k
kept_then (Some x) (Some y) None bs k w = absurd w
kept_then (Some x) (Some y) (Some z) bs k w = w ∙ ap (λ l. l ++ bs) k

-- a line that was taken stays taken
pub taken_kept : (old : Option (List ℕ)) (held : List ℕ) (unread later : Option (List ℕ)) (P : List ℕ → Type 0) → TakesLine old (prepend_known held unread) P → Keeps unread later → TakesLine old (prepend_known held later) P
taken_kept None held unread later P t k = tt
taken_kept (Some xs) held None later P t k = absurd t
taken_kept (Some xs) held (Some ys) None P t k = absurd k
taken_kept (Some xs) held (Some ys) (Some zs) P t k = subst (λ l. TakesFirst xs (held ++ l) P) (sym k) t

-- what was given stays given, and goes on
pub given_then : (a b c : Option (List ℕ)) (first given later : ℕ) → CountsGiven a b first given → CountsGiven b c given later → CountsGiven a c first later
given_then None b c first given later p q = tt
given_then (Some x) None c first given later p q = absurd p
given_then (Some x) (Some y) None first given later p q = absurd q
given_then (Some x) (Some y) (Some z) first given later p q = q ∙ p

pub given_kept : (a b c : Option (List ℕ)) (first given : ℕ) → CountsGiven a b first given → Keeps b c → CountsGiven a c first given
given_kept None b c first given p k = tt
given_kept (Some x) None c first given p k = absurd p
given_kept (Some x) (Some y) None first given p k = absurd k
given_kept (Some x) (Some y) (Some z) first given p k = ap (λ l. given + length l) k ∙ p

pub given_start : (a : Option (List ℕ)) (n : ℕ) → CountsGiven a a n n
given_start None n = tt
given_start (Some x) n = refl
