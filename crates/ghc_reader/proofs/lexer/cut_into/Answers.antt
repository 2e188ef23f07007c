use Rattle.ghc_reader.proofs.Words.{◌≡◌, ◌≢◌, ◌⊎◌, ◌++◌, [], IfErr, sym, ap, subst, ◌∙◌, rules, err_from_is_err_and, option_to_list, signs_behind, fault_at, piece_of, place_of_token, IsRefused, IsCutFault}
use Rattle.ghc_term.specs.declared.fault.Fault.TheVariants as fault
use Rattle.ghc_reader.proofs.Cutting.{LexedSoFar, more_lexed, one_refused, refused_fault, line_fits, column_fits}
use Rattle.ghc_reader.proofs.lexer.cut_into.Goals as goal

pub returns-in_err-token-clause-fault : goal.returns-in_err-token-clause-fault
returns-in_err-token-clause-fault c =
    let passed = err_from_is_err_and c.from_residual.result c.from_residual.ensures.1 in
    let reserved = c.args.reserved in
    let text = c.args.text.now in
    let place = c.loop-rest.place in
    let front = c.in-Some.front in
    let refused = subst (λ f. (f ≡ fault.Memory) ⊎ ((f ≡ fault_at place) × IsRefused reserved (piece_of front))) (sym passed.2) c.in_err-token.ensures.refused in
    let before : c.loop-rest.rest.now ≢ [] = search rules in
    let bad = one_refused reserved text _ _ place c.loop-rest.signs c.loop-rest.rest.now c.loop-rest.invariant before front c.in-Some.ensures in
    subst (λ r. IfErr r (IsCutFault reserved text)) (sym passed.1) (refused_fault reserved text place _ passed.0 refused bad)

pub behind-place-requires-clause-line_fits : goal.behind-place-requires-clause-line_fits
behind-place-requires-clause-line_fits c =
    line_fits _ _ _ _ _ _ _ c.loop-rest.invariant c.requires.length

pub behind-place-requires-clause-column_fits : goal.behind-place-requires-clause-column_fits
behind-place-requires-clause-column_fits c =
    column_fits _ _ _ _ _ _ _ c.loop-rest.invariant c.requires.length _ _ c.in-Some.ensures.0

pub loop-rest-preserved : goal.loop-rest-preserved
loop-rest-preserved c =
    let reserved = c.args.reserved in
    let text = c.args.text.now in
    let tokens = c.loop-rest.lexed.tokens.items in
    let places = c.loop-rest.lexed.places.items in
    let place = c.loop-rest.place in
    let front = c.in-Some.front in
    let tokens' = c.add.new.self.tokens.items in
    let places' = c.add.new.self.places.items in
    let found = c.in_ok-token.ensures.found in
    let more = more_lexed reserved text tokens places place c.loop-rest.signs c.loop-rest.rest.now c.loop-rest.invariant front tokens' places' c.in-Some.ensures found.1 (c.in_ok-add.ensures.tokens ∙ ap (λ t. tokens ++ option_to_list t) found.0) (c.in_ok-add.ensures.places ∙ ap (λ t. places ++ place_of_token t place []) found.0) in
    subst (λ s. LexedSoFar reserved text tokens' places' c.behind-place.result s front.rest.now) (sym c.signs_behind-signs.ensures) (subst (λ p. LexedSoFar reserved text tokens' places' p (signs_behind c.loop-rest.signs front.kind) front.rest.now) (sym c.behind-place.ensures) more)
