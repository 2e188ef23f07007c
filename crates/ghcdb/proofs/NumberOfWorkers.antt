-- A parse of the program's command by numbers finds a number of workers within its bounds, or none.
use Rattle.ghcdb.proofs.CitedWords.{zero, suc, ◌≡◌, ◌∙◌, ◌<◌, ◌≤◌, ◌++◌, ◌||◌, ℕ, true, false, List, [], ◌∷◌, length, slice_index, codes, refl, sym, ap, subst, inl, inr, arith, IfNone, IfSome, Option, Some, None, Result, Ok, Err, option_map, slice_get, unwrap_or, IsSome, Bor, All, slice_index_or, bytes_eq, ParsesUnsigned, All-get_or, All-nil, bytes_eq-Decides, AddsArg, IsAuto, IsPlain, args_of, groups_of, Entry, EntryPasses, HasReading, PassesArg, parser_of, parser_of_value, ReadsOne, matched_of, one_text, Accepts, IsUnsignedIn, read_as, reading_of, Arg, Command, out-Command, ValueParser, ArgMatches, Found, MatchedArg, added_plain, entry_by_id, same_rules_by_id, IsGhcdb, SaysNumber}
use Rattle.clap.specs.Built.{IsParsedFrom, IsPlainArg}
use Rattle.clap.specs.Matches.{first_value, found_of}
use Rattle.clap.specs.declared.builder.value_parser.Reading.TheVariants as reading
use Rattle.clap.specs.declared.builder.value_parser.ValueParser.TheVariants as parser
use Rattle.ghcdb.proofs.CommandLine.{differ}

-- what a parser of a number of workers takes
abbrev bounds : ValueParser
bounds = parser.Unsigned 1 64

-- the last of five arguments is the only one of its name
only_last : (file query load schedule workers : Arg) → file.id.now ≡ codes "FILE" → query.id.now ≡ codes "query" → load.id.now ≡ codes "load" → schedule.id.now ≡ codes "schedule" → workers.id.now ≡ codes "workers"
    → (j : ℕ) (d : Arg) → j < 5 → bytes_eq (slice_index_or (file ∷ query ∷ load ∷ schedule ∷ workers ∷ []) j d).id.now workers.id.now ≡ true → j ≡ 4
only_last file query load schedule workers f q l s w zero d lt same = absurd (differ (codes "FILE") (codes "workers") file workers f w (λ e. absurd (omega arith)) same)
only_last file query load schedule workers f q l s w (suc zero) d lt same = absurd (differ (codes "query") (codes "workers") query workers q w (λ e. absurd (omega arith)) same)
only_last file query load schedule workers f q l s w (suc (suc zero)) d lt same = absurd (differ (codes "load") (codes "workers") load workers l w (λ e. absurd (omega arith)) same)
only_last file query load schedule workers f q l s w (suc (suc (suc zero))) d lt same = absurd (differ (codes "schedule") (codes "workers") schedule workers s w (λ e. absurd (omega arith)) same)
only_last file query load schedule workers f q l s w (suc (suc (suc (suc zero)))) d lt same = refl
only_last file query load schedule workers f q l s w (suc (suc (suc (suc (suc k))))) d lt same = absurd (omega arith)

-- a name that begins with another byte is another name
not_named : (other : List ℕ) → (slice_index other 0 ≡ slice_index (codes "workers") 0 → ⊥) → (id : List ℕ) → id ≡ codes "workers" → id ≡ other → ⊥
not_named other never id is e = never (ap (λ (l : List ℕ). slice_index l 0) (sym e ∙ is))

-- where an id has no first value, no text is read of it
none_read : (f : Found) (id : List ℕ) → first_value f id ≡ None → one_text f id ≡ None
none_read f id none = go (matched_of f id) refl none
  where
    at : (x : MatchedArg) (o : Option (Bor (List ℕ))) → option_map (λ s. s.now) o ≡ None → option_map (λ s. read_as x.reading s.now) o ≡ None
    at x None e = refl
    at x (Some v) e = cc

    go : (o : Option MatchedArg) → matched_of f id ≡ o → first_value f id ≡ None → one_text f id ≡ None
    go None e n = rw e refl
    go (Some x) e n = rw e (at x (slice_get x.vals.items 0) (rw e at n))

-- what holds of each value holds of the first
head_holds : (Q : List ℕ → Type 0) (vs : List (Bor (List ℕ))) (t : List ℕ) → All (λ v. Q v.now) vs → option_map (λ s. s.now) (slice_get vs 0) ≡ Some t → Q t
head_holds Q [] t all e = cc
head_holds Q (v ∷ vs) t all e = subst Q (ap (λ (o : Option (List ℕ)). unwrap_or o v.now) e) (All-get_or (λ (w : Bor (List ℕ)). Q w.now) (v ∷ vs) 0 v (omega arith) all)

-- Nothing in the command excludes anything, and no argument is one of its subcommands too.
abbrev IsSimple : Command → Type 0
IsSimple c = IsPlain c × ((out-Command c).has_globals ≡ false)

simple_then : (old new : Command) (a : Arg) → AddsArg old a new → IsSimple old → IsPlainArg a → a.global ≡ false → IsSimple new
simple_then old new a added simple plain local = (added_plain old new a added simple.0 plain, added.globals ∙ (ap (λ b. b || a.global) simple.1 ∙ ap (λ b. false || b) local))

-- the text of an entry that is read as it was written
as_written : (f : Found) (id t : List ℕ) (x : MatchedArg) → matched_of f id ≡ Some x → x.reading ≡ reading.AsWritten → option_map (λ s. s.now) (slice_get x.vals.items 0) ≡ Some t → one_text f id ≡ Some t
as_written f id t x found is first = rw (found, is) first

-- where a number is within the bounds, so many workers are made, and they are as many
pub is_made : (o : Option ℕ) (n : ℕ) → IfNone o (0 < n → n ≤ 64 → ⊥) → 1 ≤ n → n ≤ 64 → IsSome o
is_made None n none low high = absurd (none (omega (arith, low)) high)
is_made (Some w) n none low high = refl

pub made_is : (o : Option ℕ) (v n : ℕ) → o ≡ Some v → IfSome o (λ w. w ≡ n) → n ≡ v
made_is o v n e h = sym (subst (λ (q : Option ℕ). IfSome q (λ w. w ≡ n)) e h)

module _ (command : Command) (matches : ArgMatches) (h : IsGhcdb bounds command) (p : IsParsedFrom command matches) where
  -- the arguments of the command
  abbrev file : Arg
  file = h.chain.1.arg

  abbrev query : Arg
  query = h.chain.2.1.arg

  abbrev load : Arg
  load = h.chain.2.2.1.arg

  abbrev schedule : Arg
  schedule = h.chain.2.2.2.1.arg

  abbrev workers : Arg
  workers = h.chain.2.2.2.2.1.arg

  list_is : args_of command ≡ file ∷ query ∷ load ∷ schedule ∷ workers ∷ []
  list_is =
      let c = h.chain in
      let one = c.1.args ∙ ap (λ l. l ++ c.1.arg ∷ []) h.empty.arguments in
      let two = c.2.1.args ∙ ap (λ l. l ++ c.2.1.arg ∷ []) one in
      let three = c.2.2.1.args ∙ ap (λ l. l ++ c.2.2.1.arg ∷ []) two in
      let four = c.2.2.2.1.args ∙ ap (λ l. l ++ c.2.2.2.1.arg ∷ []) three in
      let five = c.2.2.2.2.1.args ∙ ap (λ l. l ++ c.2.2.2.2.1.arg ∷ []) four in
      ap args_of (sym c.2.2.2.2.2) ∙ five

  abbrev mine : Arg
  mine = slice_index_or (args_of command) 4 workers

  mine_is : mine ≡ workers
  mine_is = ap (λ (l : List Arg). slice_index_or l 4 workers) list_is

  named : workers.id.now ≡ codes "workers"
  named = ap (λ x. x.now) h.chain.2.2.2.2.1.rules.id ∙ h.workers_is.optional.id_is

  mine_named : mine.id.now ≡ codes "workers"
  mine_named = ap (λ (a : Arg). a.id.now) mine_is ∙ named

  mine_bounds : mine.value_parser ≡ Some bounds
  mine_bounds = ap (λ (a : Arg). a.value_parser) mine_is ∙ h.chain.2.2.2.2.1.rules.parser bounds h.workers_is.parser

  place : 4 < length (args_of command)
  place = subst (λ (l : List Arg). 4 < length l) (sym list_is) (omega arith)

  only : (j : ℕ) (e : Arg) → j < length (args_of command) → bytes_eq (slice_index_or (args_of command) j e).id.now mine.id.now ≡ true → j ≡ 4
  only j e low same =
      let c = h.chain in
      only_last file query load schedule workers
      (ap (λ x. x.now) c.1.rules.id ∙ h.file_is.id_is) (ap (λ x. x.now) c.2.1.rules.id ∙ h.query_is.id_is) (ap (λ x. x.now) c.2.2.1.rules.id ∙ h.load_is.id_is)
      (ap (λ x. x.now) c.2.2.2.1.rules.id ∙ h.schedule_is.id_is) named j e
      (subst (λ (l : List Arg). j < length l) list_is low)
      (subst (λ (l : List Arg). bytes_eq (slice_index_or l j e).id.now workers.id.now ≡ true) list_is (subst (λ (a : Arg). bytes_eq (slice_index_or (args_of command) j e).id.now a.id.now ≡ true) mine_is same))

  not_auto : IsAuto mine → ⊥
  not_auto auto = elim auto [
    | inl e ↦ not_named (codes "help") (λ same. absurd (omega arith)) mine.id.now mine_named e
    | inr e ↦ not_named (codes "version") (λ same. absurd (omega arith)) mine.id.now mine_named e
  ]

  -- an argument of the command that was built, with this id, has these bounds
  has_bounds : (j : ℕ) (x : Arg) → j < length (args_of p.built) → slice_index_or (args_of p.built) j x ≡ x → bytes_eq x.id.now (codes "workers") ≡ true → parser_of x ≡ bounds
  has_bounds j x low at same =
      let same_id : bytes_eq x.id.now mine.id.now ≡ true = subst (λ (l : List ℕ). bytes_eq x.id.now l ≡ true) (sym mine_named) same in
      ap parser_of_value ((same_rules_by_id command matches p 4 workers place only not_auto j x low at same_id).parser bounds mine_bounds)

  accepted : (t : List ℕ) → PassesArg p.built (codes "workers") t → IsUnsignedIn 1 64 t
  accepted t any = subst (λ (w : ValueParser). Accepts any.1.ignore_case w t) (has_bounds any.0 any.1 any.2 any.3 any.4.0) any.4.1

  read_plainly : (r : _) → HasReading p.built (codes "workers") r → r ≡ reading.AsWritten
  read_plainly r any = sym any.4.1 ∙ ap reading_of (has_bounds any.0 any.1 any.2 any.3 any.4.0)

  simple : IsSimple command
  simple =
      let c = h.chain in
      let none : IsSimple h.start = ((subst (All IsPlainArg) (sym h.empty.arguments) (All-nil IsPlainArg), h.empty.groups), h.empty.local) in
      let one = simple_then h.start c.0 h.file c.1 none h.file_is.plain h.file_is.local in
      let two = simple_then c.0 c.2.0 h.query c.2.1 one h.query_is.plain h.query_is.local in
      let three = simple_then c.2.0 c.2.2.0 h.load c.2.2.1 two h.load_is.plain h.load_is.local in
      let four = simple_then c.2.2.0 c.2.2.2.0 h.schedule c.2.2.2.1 three h.schedule_is.plain h.schedule_is.local in
      let five = simple_then c.2.2.2.0 c.2.2.2.2.0 h.workers c.2.2.2.2.1 four h.workers_is.optional.plain h.workers_is.optional.local in
      subst IsSimple c.2.2.2.2.2 five

  no_groups : groups_of p.built ≡ []
  no_groups = (p.from.plain simple.0).1

  -- what is found of the argument is within the bounds, and is read as it was written
  at_entry : (t : List ℕ) (x : MatchedArg) → matched_of (found_of matches) (codes "workers") ≡ Some x → option_map (λ s. s.now) (slice_get x.vals.items 0) ≡ Some t
      → ((e : Entry) × (e.1 ≡ x) × (bytes_eq e.0.now (codes "workers") ≡ true) × EntryPasses p.built e)
      → (one_text (found_of matches) (codes "workers") ≡ Some t) × IsUnsignedIn 1 64 t
  at_entry t x found first got =
      let key : got.0.0.now ≡ codes "workers" = (bytes_eq-Decides got.0.0.now (codes "workers")).0 got.2 in
      let pass = got.3 in
      let no_group : got.0.1.is_group ≡ true → ⊥ = λ g. elim (pass.3 g) [
        | inl empty ↦ not_named [] (λ same. absurd (omega arith)) got.0.0.now key empty
        | inr lots ↦ (let bad : 0 < 0 = rw no_groups at lots in absurd (omega arith))
      ] in
      let all : All (λ v. PassesArg p.built (codes "workers") v.now) x.vals.items = elim pass.0 [
        | inl g ↦ absurd (no_group g)
        | inr vals ↦ subst (λ (w : List ℕ). All (λ v. PassesArg p.built w v.now) x.vals.items) key (rw got.1 at vals)
      ] in
      let is : got.0.1.reading ≡ reading.AsWritten = elim pass.4 [
        | inl g ↦ absurd (no_group g)
        | inr r ↦ read_plainly got.0.1.reading (subst (λ (w : List ℕ). HasReading p.built w got.0.1.reading) key r)
      ] in (
        as_written (found_of matches) (codes "workers") t x found (ap (λ (y : MatchedArg). y.reading) (sym got.1) ∙ is) first,
        accepted t (head_holds (PassesArg p.built (codes "workers")) x.vals.items t all first),
      )

  -- the value of the argument, where there is one, is within the bounds, and is read as it was written
  found_is : (t : List ℕ) → first_value (found_of matches) (codes "workers") ≡ Some t → (one_text (found_of matches) (codes "workers") ≡ Some t) × IsUnsignedIn 1 64 t
  found_is t is = go (matched_of (found_of matches) (codes "workers")) refl is
    where
      go : (o : Option MatchedArg) → matched_of (found_of matches) (codes "workers") ≡ o → first_value (found_of matches) (codes "workers") ≡ Some t
          → (one_text (found_of matches) (codes "workers") ≡ Some t) × IsUnsignedIn 1 64 t
      go None e i = (let bad : None ≡ Some t = rw e at i in cc)
      go (Some x) e i =
          let parsed = p.parsed (p.from.globals ∙ simple.1) in
          at_entry t x e (rw e at i) (entry_by_id (EntryPasses p.built) (found_of matches).entries.items (codes "workers") x parsed.values e)

  -- the number that is read of it is the one that it says,
  pub says : (E : Type 0) (G : List ℕ → Result ℕ E → Type 0) → ((u : List ℕ) (x : Result ℕ E) → G u x → ParsesUnsigned 32 10 u x)
      → (r : Option ℕ) → (one_text (found_of matches) (codes "workers") ≡ None → r ≡ None) → ((t : List ℕ) → one_text (found_of matches) (codes "workers") ≡ Some t → ReadsOne G t r)
      → (n : ℕ) → r ≡ Some n → SaysNumber (first_value (found_of matches) (codes "workers")) n × (1 ≤ n) × (n ≤ 64)
  says E G parses r none value n is = go (first_value (found_of matches) (codes "workers")) refl
    where
      go : (o : Option (List ℕ)) → first_value (found_of matches) (codes "workers") ≡ o → SaysNumber (first_value (found_of matches) (codes "workers")) n × (1 ≤ n) × (n ≤ 64)
      go None e = (let bad : None ≡ Some n = sym (none (none_read (found_of matches) (codes "workers") e)) ∙ is in cc)
      go (Some t) e =
          let f = found_is t e in
          let read : G t (Ok n) = subst (λ (o : Option ℕ). ReadsOne G t o) is (value t f.0) in
          let parsed = parses t (Ok n) read in
          let low : 1 ≤ n = subst (λ (k : ℕ). 1 ≤ k) (sym parsed.1) f.1.2 in
          let high : n ≤ 64 = subst (λ (k : ℕ). k ≤ 64) (sym parsed.1) f.1.3 in
          (subst (λ (o : Option (List ℕ)). SaysNumber o n) (sym e) (f.1.0, parsed.1, low, high), low, high)

  -- and where none is read there is no value.
  pub says_one : (E : Type 0) (G : List ℕ → Result ℕ E → Type 0) → ((u : List ℕ) (x : Result ℕ E) → G u x → ParsesUnsigned 32 10 u x)
      → (r : Option ℕ) → ((t : List ℕ) → one_text (found_of matches) (codes "workers") ≡ Some t → ReadsOne G t r)
      → r ≡ None → SaysNumber (first_value (found_of matches) (codes "workers")) 1
  says_one E G parses r value is = go (first_value (found_of matches) (codes "workers")) refl
    where
      go : (o : Option (List ℕ)) → first_value (found_of matches) (codes "workers") ≡ o → SaysNumber (first_value (found_of matches) (codes "workers")) 1
      go None e = subst (λ (o : Option (List ℕ)). SaysNumber o 1) (sym e) refl
      go (Some t) e =
          let f = found_is t e in
          let read : (x : E) × G t (Err x) = subst (λ (o : Option ℕ). ReadsOne G t o) is (value t f.0) in
          let high = f.1.3 in
          absurd (parses t (Err read.0) read.1 (f.1.0, omega (arith, high)))
