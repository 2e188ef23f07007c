-- The lines that say `step`, a space and the name of a goal, and nothing else.
use Rattle.ghc_console.proofs.CitedWords.{◌≡◌, ◌≢◌, ℕ, Bool, true, false, cond, eqb, leb, not, ◌&&◌, ◌||◌, All, Option, Some, None, List, [], ◌∷◌, ◌++◌, filter, get_or, length, take, drop, suc, refl, sym, ap, ap₂, subst, ◌∙◌, arith, bytes_eq, codes, IfSome, is_ascii_digit, AllPass, join_with_byte, list_all, slice_split, digits_value, ne_eqb, All-append, All-cons, join_with_byte-slice_split, AllPass-from_list_all, list_all-from_AllPass, bytes_eq-Decides, GoalName, goal_name_of, goal_named, goal_of_parts, is_printable, number_of, words_of, command_of, command_of_words, step_with, Step, Unknown}
use Rattle.std.proofs.lemmas.List.{take-append-drop}
use Rattle.ghc_console.proofs.WordLemmas.{filled, only_piece}

-- a byte of the name of a goal: a digit or a point
abbrev is_goal_byte : ℕ → Bool
is_goal_byte byte = is_ascii_digit byte || eqb byte 46

digit_in_goal : (byte : ℕ) → is_ascii_digit byte ≡ true → is_goal_byte byte ≡ true
digit_in_goal byte e = ap (λ t. t || eqb byte 46) e

printable_in_goal : (byte : ℕ) → is_goal_byte byte ≡ true → is_printable byte ≡ true
printable_in_goal byte e = grind (arith, e)

no_space_in_goal : (byte : ℕ) → is_goal_byte byte ≡ true → byte ≢ 32
no_space_in_goal byte e = λ is. grind (arith, e, is)

-- a word that says a number has digits alone
digits_of_number : (word : List ℕ) (n : ℕ) → number_of word ≡ Some n → AllPass is_goal_byte word
digits_of_number word n e =
    let digits = AllPass-from_list_all is_ascii_digit word (gate (not (eqb (length word) 0)) (list_all is_ascii_digit word) (leb (digits_value 10 word) 4294967295) (digits_value 10 word) e) in
    λ k d lt. digit_in_goal (get_or word k d) (digits k d lt)
  where
    gate : (a b c : Bool) (v : ℕ) → cond (a && (b && c)) (Some v) None ≡ Some n → b ≡ true
    gate a true c v e = refl
    gate true false c v e = cc
    gate false false c v e = cc

-- the bytes of the two parts that name a goal
bytes_of_parts : (parts : List (List ℕ)) (g : GoalName) → goal_of_parts parts ≡ Some g → AllPass is_goal_byte (join_with_byte 46 parts)
bytes_of_parts [] g e = cc
bytes_of_parts (step ∷ []) g e = cc
bytes_of_parts (step ∷ place ∷ more ∷ rest) g e = cc
bytes_of_parts (step ∷ place ∷ []) g e = both (number_of step) (number_of place) refl refl e
  where
    both : (s p : Option ℕ) → number_of step ≡ s → number_of place ≡ p → goal_named s p ≡ Some g → AllPass is_goal_byte (step ++ 46 ∷ place)
    both None p s_is p_is e = cc
    both (Some n) None s_is p_is e = cc
    both (Some n) (Some m) s_is p_is e = All-append (λ b. is_goal_byte b ≡ true) step (46 ∷ place) (digits_of_number step n s_is) (All-cons (λ b. is_goal_byte b ≡ true) 46 place refl (digits_of_number place m p_is))

-- a word that names a goal has digits and a point alone
bytes_of_goal : (word : List ℕ) (g : GoalName) → goal_name_of word ≡ Some g → AllPass is_goal_byte word
bytes_of_goal word g e = subst (AllPass is_goal_byte) (join_with_byte-slice_split 46 word) (bytes_of_parts (slice_split (λ b. eqb b 46) word) g e)

-- the words of the line are `step` and that word
step_words : (byte : ℕ) (bytes : List ℕ) → All (λ b. b ≢ 32) (byte ∷ bytes) → words_of (codes "step " ++ (byte ∷ bytes)) ≡ codes "step" ∷ (byte ∷ bytes) ∷ []
step_words byte bytes plain =
    ap (λ parts. filter filled (codes "step" ∷ parts)) (only_piece 32 (byte ∷ bytes) plain)
    ∙ ap (λ t. codes "step" ∷ cond (not t) ((byte ∷ bytes) ∷ []) []) (ne_eqb (suc (length bytes)) 0 (λ e. omega (arith, e)))

-- such a line says the step
step_line : (word : List ℕ) (g : GoalName) → goal_name_of word ≡ Some g → command_of (codes "step " ++ word) ≡ Step g None
step_line [] g e = cc
step_line (byte ∷ bytes) g e =
    let word = byte ∷ bytes in
    let line = codes "step " ++ word in
    let known = bytes_of_goal word g e in
    let printable : list_all is_printable word ≡ true = list_all-from_AllPass is_printable word (λ k d lt. printable_in_goal (get_or word k d) (known k d lt)) in
    let words = step_words byte bytes (λ k d lt. no_space_in_goal (get_or word k d) (known k d lt)) in
    ap (λ t. cond t (command_of_words (words_of line) line) Unknown) printable ∙ ap (λ ws. command_of_words ws line) words ∙ ap step_with e

-- A line of these bytes in front, with a word after them that names a goal, says the step with it.
pub line_of_step : (line name word : List ℕ) (found : Option GoalName) → name ≡ take 5 line → word ≡ drop 5 line → bytes_eq name (codes "step ") ≡ true → found ≡ goal_name_of word
    → IfSome found (λ g. command_of line ≡ Step g None)
line_of_step line name word None front back is e = tt
line_of_step line name word (Some g) front back is e =
    ap command_of (sym (take-append-drop 5 line) ∙ ap₂ (λ u v. u ++ v) (sym front ∙ (bytes_eq-Decides name (codes "step ")).0 is) (sym back)) ∙ step_line word g (sym e)
