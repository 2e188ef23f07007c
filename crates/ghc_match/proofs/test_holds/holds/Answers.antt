use Rattle.ghc_match.proofs.Words.{value_at, IsAtom, IsList}
use Rattle.ghc_match.specs.Match.{IsInteger}
use Rattle.ghc_match.proofs.EndsLemmas.{stands_ends_once}
use Rattle.ghc_match.proofs.GuardingLemmas.{value_holds, none_holds, integer_value, atom_value, list_value}
use Rattle.ghc_match.proofs.test_holds.holds.Goals as goal

pub returns-in-Some : goal.returns-in-Some
returns-in-Some c =
    let once = stands_ends_once c.args.stands.now (value_at c.args.store.now.held) c.in-IsInteger.x in
    rw c.in-IsInteger.is (value_holds _ IsInteger c.is_integer.result c.in-Some.value.now once c.in-Some.ensures.0 c.is_integer.ensures)

pub returns-in-None : goal.returns-in-None
returns-in-None c = rw c.in-IsInteger.is (none_holds _ IsInteger integer_value c.in-None.ensures)

pub returns-in-Some-value_of : goal.returns-in-Some-value_of
returns-in-Some-value_of c =
    let once = stands_ends_once c.args.stands.now (value_at c.args.store.now.held) c.in-IsAtom.x in
    rw c.in-IsAtom.is (value_holds _ IsAtom c.is_atom.result c.in-Some-value_of.value.now once c.in-Some-value_of.ensures.0 c.is_atom.ensures)

pub returns-in-None-value_of : goal.returns-in-None-value_of
returns-in-None-value_of c = rw c.in-IsAtom.is (none_holds _ IsAtom atom_value c.in-None-value_of.ensures)

pub returns-in-Some-value_of-2 : goal.returns-in-Some-value_of-2
returns-in-Some-value_of-2 c =
    let once = stands_ends_once c.args.stands.now (value_at c.args.store.now.held) c.in-IsList.x in
    rw c.in-IsList.is (value_holds _ IsList c.is_list.result c.in-Some-value_of-2.value.now once c.in-Some-value_of-2.ensures.0 c.is_list.ensures)

pub returns-in-None-value_of-2 : goal.returns-in-None-value_of-2
returns-in-None-value_of-2 c = rw c.in-IsList.is (none_holds _ IsList list_value c.in-None-value_of-2.ensures)

pub returns-in-Compare : goal.returns-in-Compare
returns-in-Compare c = rw c.in-Compare.is c.holds_between.ensures
