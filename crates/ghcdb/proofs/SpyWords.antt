-- What a line spies has a name of the grammar and an arity of 32 bits; and no line obeys an input or an ask.
use Rattle.ghcdb.proofs.CitedWords.{◌≡◌, ◌≤◌, ℕ, true, false, List, [], ◌∷◌, codes, refl, sym, ap, ◌∙◌, arith, Option, None, Some, bytes_eq, bytes_eq-Decides}
use Rattle.std.specs.Prelude.{Bool, ◌&&◌, ◌==◌, not, if◌then◌else◌, nat_le}
use Rattle.std.specs.Char.{is_ascii_lowercase}
use Rattle.std.specs.List.{list_all, slice_split}
use Rattle.std.specs.Str.Parse.{digits_value}
use Rattle.std.proofs.lemmas.Bool.Decides.{nat_tests}
use Rattle.ghc_term.specs.declared.goal_name.GoalName.{GoalName}
use Rattle.ghc_term.specs.InputTerm.{IsNameText, is_name_byte}
use Rattle.ghc_reader.specs.Lexed.{greatest_number}
use Rattle.ghc_core.specs.declared.command.Command.TheVariants as core
use Rattle.ghc_trace.specs.declared.judgements.Answer.{Answer}
use Rattle.ghc_console.specs.BlameWords as blaming
use Rattle.ghc_console.specs.Commands as commands
use Rattle.ghc_console.specs.PredicateWords.{is_name, predicate_named, predicate_of, predicate_of_parts}
use Rattle.ghc_console.specs.Words.{behind, goal_name_of, is_number, is_printable, is_variable, number_of, numbers_of, words_of}
use Rattle.ghc_console.specs.declared.command.LineCommand.{LineCommand}
use Rattle.ghc_console.specs.declared.command.LineCommand.TheVariants.{Obey, SaveSteps, Spy, Leap, Unknown}

-- what a line says: a spied predicate has a name and an arity that fit, and what is obeyed is no input and no ask
abbrev pub IsSaidByLine : LineCommand → Type 0
IsSaidByLine (Spy f n) = IsNameText f × (n ≤ greatest_number)
IsSaidByLine (Obey (core.Input k u)) = ⊥
IsSaidByLine (Obey (core.Ask goals)) = ⊥
IsSaidByLine c = Unit {0}

choose : (b : Bool) (x y : LineCommand) → IsSaidByLine x → IsSaidByLine y → IsSaidByLine (if b then x else y)
choose true x y p q = p
choose false x y p q = q

-- ---- predicates

both : (a b : Bool) → (a && b) ≡ true → (a ≡ true) × (b ≡ true)
both true b e = (refl, e)
both false b e = cc

name_text : (word : List ℕ) → is_name word ≡ true → IsNameText word
name_text [] e = cc
name_text (b ∷ bs) e =
    let parts = both (is_ascii_lowercase b && list_all is_name_byte bs) (not (bytes_eq (b ∷ bs) (codes "mod"))) e in
    let letters = both (is_ascii_lowercase b) (list_all is_name_byte bs) parts.0 in
    (letters.0, letters.1, λ same. (let clash : not (bytes_eq (b ∷ bs) (codes "mod")) ≡ not true = ap not ((bytes_eq-Decides (b ∷ bs) (codes "mod")).1 same) in let no : true ≡ false = sym parts.1 ∙ clash in cc))

small : (a b : Bool) (n : ℕ) → (not a && (b && nat_le n greatest_number)) ≡ true → n ≤ greatest_number
small a b n e =
    let rest = (both (not a) (b && nat_le n greatest_number) e).1 in
    let low = (both b (nat_le n greatest_number) rest).1 in
    grind (arith, nat_tests, low)

number_small : (word : List ℕ) (n : ℕ) → number_of word ≡ Some n → n ≤ greatest_number
number_small word n e = elim (is_number word) as (λ b. is_number word ≡ b → (if b then Some (digits_value 10 word) else None) ≡ Some n → n ≤ greatest_number) [
  | true ↦ λ is found. (let same : digits_value 10 word ≡ n = cc in omega (arith, same, small _ _ (digits_value 10 word) is))
  | false ↦ λ is found. cc
] refl e

-- a predicate that a word names fits
abbrev Fits : Option (List ℕ × ℕ) → Type 0
Fits None = Unit {0}
Fits (Some p) = IsNameText p.0 × (p.1 ≤ greatest_number)

named : (word : List ℕ) (o : Option ℕ) → ((n : ℕ) → o ≡ Some n → n ≤ greatest_number) → Fits (predicate_named word o)
named word None h = tt
named word (Some n) h = elim (is_name word) as (λ b. is_name word ≡ b → Fits (if b then Some (word, n) else None)) [
  | true ↦ λ is. (name_text word is, h n refl)
  | false ↦ λ is. tt
] refl

of_parts : (parts : List (List ℕ)) → Fits (predicate_of_parts parts)
of_parts [] = tt
of_parts (name ∷ []) = tt
of_parts (name ∷ arity ∷ []) = named name (number_of arity) (λ n e. number_small arity n e)
of_parts (name ∷ arity ∷ more ∷ rest) = tt

spy_said : (o : Option (List ℕ × ℕ)) → Fits o → IsSaidByLine (commands.spy_with o)
spy_said None h = tt
spy_said (Some p) h = h

unspy_said : (o : Option (List ℕ × ℕ)) → IsSaidByLine (commands.unspy_with o)
unspy_said None = tt
unspy_said (Some p) = tt

-- ---- the other commands

step_said : (o : Option GoalName) → IsSaidByLine (commands.step_with o)
step_said None = tt
step_said (Some g) = tt

step_by_said : (o : Option GoalName) (c : Option ℕ) → IsSaidByLine (commands.step_by o c)
step_by_said None c = tt
step_by_said (Some g) None = tt
step_by_said (Some g) (Some c) = tt

skip_said : (o : Option GoalName) → IsSaidByLine (commands.skip_with o)
skip_said None = tt
skip_said (Some g) = tt

clauses_said : (o : Option GoalName) → IsSaidByLine (commands.clauses_with o)
clauses_said None = tt
clauses_said (Some g) = tt

leap_said : (limit : ℕ) → IsSaidByLine (commands.leap_of limit)
leap_said limit = choose (limit == 0) Unknown (Leap limit) tt tt

save_said : (word : List ℕ) → IsSaidByLine (commands.save_of word)
save_said word = choose (bytes_eq word (codes "1")) SaveSteps Unknown tt tt

one_word : (name : List ℕ) → IsSaidByLine (commands.command_of_one_word name)
one_word name =
    choose (bytes_eq name (codes "records")) _ _ tt
    (choose (bytes_eq name (codes "goals")) _ _ tt
    (choose (bytes_eq name (codes "shelf")) _ _ tt
    (choose (bytes_eq name (codes "save")) _ _ tt
    (choose (bytes_eq name (codes "leap")) _ _ tt
    (choose (bytes_eq name (codes "quit")) _ _ tt (choose (bytes_eq name (codes "causes")) _ _ tt tt))))))

with_number : (name : List ℕ) (n : ℕ) → IsSaidByLine (commands.command_with_number name n)
with_number name n =
    choose (bytes_eq name (codes "undo")) _ _ tt
    (choose (bytes_eq name (codes "redo")) _ _ tt
    (choose (bytes_eq name (codes "roll")) _ _ tt
    (choose (bytes_eq name (codes "why")) _ _ tt
    (choose (bytes_eq name (codes "end")) _ _ tt
    (choose (bytes_eq name (codes "leap")) _ _ (leap_said n)
    (choose (bytes_eq name (codes "since")) _ _ tt
    (choose (bytes_eq name (codes "goal")) _ _ tt (choose (bytes_eq name (codes "effects")) _ _ tt tt))))))))

numbered : (name : List ℕ) (o : Option ℕ) → IsSaidByLine (commands.numbered name o)
numbered name None = tt
numbered name (Some n) = with_number name n

with_variable : (name word : List ℕ) → IsSaidByLine (commands.command_with_variable name word)
with_variable name word =
    choose (bytes_eq name (codes "show")) _ _ tt
    (choose (bytes_eq name (codes "who")) _ _ tt
    (choose (bytes_eq name (codes "explain")) _ _ tt (choose (bytes_eq name (codes "whynot")) _ _ tt (choose (bytes_eq name (codes "keep")) _ _ tt tt))))

with_goal : (name : List ℕ) (goal : GoalName) → IsSaidByLine (commands.command_with_goal name goal)
with_goal name goal =
    choose (bytes_eq name (codes "explain")) _ _ tt
    (choose (bytes_eq name (codes "whynot")) _ _ tt (choose (bytes_eq name (codes "part")) _ _ tt (choose (bytes_eq name (codes "keep")) _ _ tt tt)))

with_goal_or_number : (name : List ℕ) (o : Option GoalName) (number : Option ℕ) → IsSaidByLine (commands.named name o number)
with_goal_or_number name (Some goal) number = with_goal name goal
with_goal_or_number name None number = numbered name number

two_words : (name word : List ℕ) → IsSaidByLine (commands.command_of_two_words name word)
two_words name word =
    choose (bytes_eq name (codes "step")) _ _ (step_said (goal_name_of word))
    (choose (bytes_eq name (codes "skip")) _ _ (skip_said (goal_name_of word))
    (choose (bytes_eq name (codes "clauses")) _ _ (clauses_said (goal_name_of word))
    (choose (bytes_eq name (codes "spy")) _ _ (spy_said (predicate_of word) (of_parts (slice_split (λ byte. byte == 47) word)))
    (choose (bytes_eq name (codes "nospy")) _ _ (unspy_said (predicate_of word))
    (choose (bytes_eq name (codes "save")) _ _ (save_said word)
    (choose (is_variable word) _ _ (with_variable name word) (with_goal_or_number name (goal_name_of word) (number_of word))))))))

three_words : (name goal number : List ℕ) → IsSaidByLine (commands.command_of_three_words name goal number)
three_words name goal number = choose (bytes_eq name (codes "step")) _ _ (step_by_said (goal_name_of goal) (number_of number)) tt

by_count : (name : List ℕ) (words : List (List ℕ)) → IsSaidByLine (commands.command_by_count name words)
by_count name [] = one_word name
by_count name (word ∷ []) = two_words name word
by_count name (first ∷ second ∷ []) = three_words name first second
by_count name (first ∷ second ∷ third ∷ rest) = tt

arrange_said : (o : Option (List ℕ)) → IsSaidByLine (commands.arrange_with o)
arrange_said None = tt
arrange_said (Some order) = tt

input_with : (o : Option ℕ) (text : List ℕ) → IsSaidByLine (commands.input_with o text)
input_with None text = tt
input_with (Some k) [] = tt
input_with (Some k) (b ∷ bs) = tt

input_said : (words : List (List ℕ)) (text : List ℕ) → IsSaidByLine (commands.input_to words text)
input_said [] text = tt
input_said (k ∷ words) text = input_with (number_of k) text

ask_said : (text : List ℕ) → IsSaidByLine (commands.ask_with text)
ask_said [] = tt
ask_said (b ∷ bs) = tt

term_said : (word : List ℕ) (o : Option (List Answer)) → IsSaidByLine (blaming.blame_term word o)
term_said word None = tt
term_said word (Some answers) = tt

place_said : (word place : List ℕ) (o : Option (List Answer)) → IsSaidByLine (blaming.blame_place word place o)
place_said word place None = tt
place_said word place (Some answers) = tt

goal_said : (o : Option GoalName) (answers : Option (List Answer)) → IsSaidByLine (blaming.blame_goal o answers)
goal_said None answers = tt
goal_said (Some goal) None = tt
goal_said (Some goal) (Some answers) = tt

variable_said : (word : List ℕ) (words : List (List ℕ)) → IsSaidByLine (blaming.blame_of_variable word words)
variable_said word [] = tt
variable_said word (next ∷ words) = choose (is_variable next) _ _ (place_said word next (blaming.answers_of words)) (term_said word (blaming.answers_of (next ∷ words)))

blame_said : (words : List (List ℕ)) → IsSaidByLine (blaming.blame_of words)
blame_said [] = tt
blame_said (word ∷ words) = choose (is_variable word) _ _ (variable_said word words) (goal_said (goal_name_of word) (blaming.answers_of words))

of_words : (words : List (List ℕ)) (line : List ℕ) → IsSaidByLine (commands.command_of_words words line)
of_words [] line = tt
of_words (name ∷ words) line =
    choose (bytes_eq name (codes "arrange")) _ _ (arrange_said (numbers_of words))
    (choose (bytes_eq name (codes "in")) _ _ (input_said words (behind 2 line))
    (choose (bytes_eq name (codes "blame")) _ _ (blame_said words)
    (choose (bytes_eq name (codes "ask")) _ _ (ask_said (behind 1 line)) (by_count name words))))

pub said_by_line : (line : List ℕ) → IsSaidByLine (commands.command_of line)
said_by_line line = choose (list_all is_printable line) (commands.command_of_words (words_of line) line) Unknown (of_words (words_of line) line) tt
