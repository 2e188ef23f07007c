use Rattle.ghc_console.proofs.CitedWords.{◌∙◌, ap, inr, subst, Err, List, ℕ, Tree, variable, StoreValue, string_bytes, value_at, IsTextOf, VarName, IsVariableNamed}
use Rattle.ghc_console.specs.inner.Found.{names_none}
use Rattle.ghc_console.proofs.FoundReplies.{long_value}
use Rattle.ghc_console.proofs.replies.found.value_named.Goals as goal

pub returns-in_default-clause-refused : goal.returns-in_default-clause-refused
returns-in_default-clause-refused c = inr (names_none (subst (λ (b : List ℕ). (x : VarName) → ¬ IsVariableNamed c.args.core.now.world b x) c.as_bytes.ensures.value c.in_default.ensures.none))

pub returns-clause-refused : goal.returns-clause-refused
returns-clause-refused c =
    let w = c.args.core.now.world in
    let word = c.args.word.now in
    let x = c.in-Some.x in
    let named : IsVariableNamed w word x = subst (λ (b : List ℕ). IsVariableNamed w b x) c.as_bytes.ensures.value c.in-Some.ensures.found in
    long_value w word x c.in-Err.fault named c.in-Err.ensures.refused (λ q.
    let long = c.print.ensures.too_long (c.in-Err.is ∙ ap Err q) in (
      long.0,
      (
        subst (λ (s : StoreValue). IsTextOf (value_at s) (variable x) long.0) c.store.ensures
            (subst (λ (u : Tree). IsTextOf (value_at c.store.result.now.held) u long.0) c.variable-variable.ensures long.1.0),
        long.1.1,
      ),
    ))

pub returns-in-Ok-clause-named : goal.returns-in-Ok-clause-named
returns-in-Ok-clause-named c = subst (λ (b : List ℕ). IsVariableNamed c.args.core.now.world b c.in-Some.x) c.as_bytes.ensures.value c.in-Some.ensures.found

pub returns-in-Ok-clause-text : goal.returns-in-Ok-clause-text
returns-in-Ok-clause-text c =
    subst (λ (s : StoreValue). IsTextOf (value_at s) (variable c.in-Some.x) (string_bytes c.in-Ok.text)) c.store.ensures
    (subst (λ (u : Tree). IsTextOf (value_at c.store.result.now.held) u (string_bytes c.in-Ok.text)) c.variable-variable.ensures c.in-Ok.ensures.text)
