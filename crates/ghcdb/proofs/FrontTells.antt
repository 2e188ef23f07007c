-- Of a program no more need be read than a byte past its limit.
use Rattle.ghcdb.proofs.CitedWords.{◌≡◌, ◌<◌, ◌≤◌, ◌↔◌, ◌⊎◌, ℕ, List, inl, inr, refl, subst, sym, length, take, arith, take_all, length-take-le, cases_lt, Fault, text_limit, IsReadProgram, a_program, IsRefusal, too_long, by_tokens, WrittenClause, answered_once, one_program_tree, most_read, FrontTells}
use Rattle.ghc_term.specs.declared.fault.Fault.TheVariants as fault
use Rattle.ghc_term.specs.declared.limit.Limit.TheVariants as limit

-- a text that is too long is refused as that
refused_long : (text : List ℕ) → text_limit < length text → IsRefusal a_program text (fault.Limit limit.Text)
refused_long text long = by_tokens (too_long refl long refl)

-- and in no other way
long_refusal : (text : List ℕ) (f : Fault) → text_limit < length text → IsRefusal a_program text f → f ≡ fault.Limit limit.Text
long_refusal text f long refused = (answered_once a_program one_program_tree text).one_refusal f (fault.Limit limit.Text) refused (refused_long text long)

-- and it is no program
long_not_read : (text : List ℕ) (written : List WrittenClause) → text_limit < length text → IsReadProgram text written → ⊥
long_not_read text written long read = (answered_once a_program one_program_tree text).never_both read.0 (fault.Limit limit.Text) read.1 (refused_long text long)

-- two texts that are too long are refused in one way
refused_alike : (a b : List ℕ) (f : Fault) → text_limit < length a → text_limit < length b → IsRefusal a_program a f → IsRefusal a_program b f
refused_alike a b f long long' refused = subst (IsRefusal a_program b) (sym (long_refusal a f long refused)) (refused_long b long')

pub front_tells : FrontTells
front_tells text = told (cases_lt text_limit (length text)) where
  front : List ℕ
  front = take most_read text

  Told : List ℕ → Type 0
  Told a = ((written : List WrittenClause) → IsReadProgram a written ↔ IsReadProgram text written) × ((f : Fault) → IsRefusal a_program a f ↔ IsRefusal a_program text f)

  told : (text_limit < length text) ⊎ (length text ≤ text_limit) → Told front
  told (inl long) =
      let long' : text_limit < length front = subst (λ n. text_limit < n) (sym (length-take-le most_read text long)) (omega arith) in (
        λ written. (λ read. absurd (long_not_read front written long' read), λ read. absurd (long_not_read text written long read)),
        λ f. (refused_alike front text f long' long, refused_alike text front f long long'),
      )
  told (inr short) = subst Told (sym (take_all most_read text (omega arith))) (λ written. (λ x. x, λ x. x), λ f. (λ x. x, λ x. x))
