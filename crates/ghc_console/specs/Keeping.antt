-- What `keep` takes back, and its text.
use Rattle.std.specs.Prelude.{◌≡◌, ℕ, List, [], ◌∷◌, ◌++◌, codes, length}
use Rattle.std.specs.Fmt.{decimal}
use Rattle.ghc_term.specs.declared.fault.Fault.{Fault}
use Rattle.ghc_records.specs.Record.{numbers}
use Rattle.ghc_depend.specs.Depend.{IsNotKept}
use Rattle.ghc_core.specs.declared.changes.Change.TheVariants.{Goes as goes}
use Rattle.ghc_core.specs.declared.changes.Going.{Going}
use Rattle.ghc_core.specs.Gone.{Gone, all_gone}
use Rattle.ghc_core.specs.Change.{CanChange, Changes}
use Rattle.ghc_core.specs.World.{World}
use Rattle.ghc_console.specs.TextLines.{lined, refusal, undone_text}

-- RollsBack w n text v: step n is not kept in the world w, which stays, and the text is empty. Or it is rolled back, which leaves the world v, and the text tells which steps are undone.
pub data RollsBack (w : World) (n : ℕ) : List ℕ → World → Type 0 where
  not_kept : IsNotKept w.kept n → RollsBack w n [] w
  rolls : {v : World} (gone : Gone) → gone.first.number ≡ n → CanChange w (goes Going.Together gone) → Changes w (goes Going.Together gone) v → RollsBack w n (undone_text (numbers (all_gone gone))) v

-- RollBack w ns text v: from the world w on, the steps of these numbers are rolled back one after another, each that is still kept then. That leaves the world v, and the text tells it of each.
pub data RollBack (w : World) : List ℕ → List ℕ → World → Type 0 where
  none_yet : RollBack w [] [] w
  and_next : {ns text line : List ℕ} {n : ℕ} {v u : World} → RollBack w ns text v → RollsBack v n line u → RollBack w (ns ++ n ∷ []) (text ++ line) u

-- the line that says how many steps are kept
abbrev pub kept_line : World → List ℕ
kept_line v = lined (codes "kept " ++ decimal (length v.kept))

-- TellsKept w ns text v: the text tells how the steps of these numbers are rolled back, one after another, and how many steps are kept then. Or memory is refused before the end: then F1 stands in place of that, and what was rolled back stays so.
pub data TellsKept (w : World) (ns : List ℕ) : List ℕ → World → Type 0 where
  rolled_all : {lines : List ℕ} {v : World} → RollBack w ns lines v → TellsKept w ns (lines ++ kept_line v) v
  rolled_some : {front lines : List ℕ} {v : World} (back : List ℕ) → ns ≡ front ++ back → RollBack w front lines v → TellsKept w ns (lines ++ refusal Fault.Memory) v
