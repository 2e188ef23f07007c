use Rattle.ghc_term.proofs.Words.{rules, ◌≡◌, length, take, arith, string_bytes, string_len, IsCharBoundary-from_take, IsUtf8-string_bytes, IsUtf8-from_is_utf8}
use Rattle.ghc_term.proofs.appending.or_cut_back.Goals as goal

pub truncate-requires : goal.truncate-requires
truncate-requires c within =
    let text = string_bytes c.args.out.now in
    let measured : string_len c.args.out.now ≡ length text = search rules in
    let place = IsCharBoundary-from_take text c.args.length (IsUtf8-string_bytes c.args.out.now) (omega (arith, within, measured)) (IsUtf8-from_is_utf8 (take c.args.length text) c.requires) in
    (place.0, λ _. place.1)
