use Rattle.ghc_records.proofs.Words.{◌≡◌, ◌++◌, map, string_bytes, codes, StartsWith, binding_text, bindings_text}
use denote.Text.{Utf8}
use denote.Shadow.{shadow}
use Rattle.ghc_records.proofs.Listing.{led}
use Rattle.ghc_records.proofs.BindingOrder.{shown}
use Rattle.ghc_records.proofs.text.step_text.write_bindings.Given as goal

abbrev pub invariant-loop-x : goal.invariant-loop-x
invariant-loop-x l =
    shadow (Utf8 l.mark)
    × (string_bytes l.out ++ led (codes ";") l.mark (map binding_text (shown (λ t. t.now) l.x-iterator)) ≡ string_bytes l.fn.out ++ bindings_text l.binds)
    × StartsWith (string_bytes l.out) (string_bytes l.fn.out)
