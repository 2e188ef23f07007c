-- What commands leave spied.
use Rattle.ghc_console.proofs.CitedWords.{Result, Ok, Err, OnOk}

-- What holds is known of an answer too.
pub always : {T E : Type 0} (r : Result T E) {P : Type 0} → P → OnOk r P
always (Ok t) p = p
always (Err e) p = tt
