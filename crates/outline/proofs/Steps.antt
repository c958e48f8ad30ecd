-- Moves of a cursor, one after another.
use Rattle.std.proofs.Common.{◌≡◌, List, Some, arith}
use Rattle.tok_lexical.specs.declared.delimiter.Delimiter.{Delimiter}
use Rattle.tok_core.specs.Forest.{Tree}
use Rattle.tok_buffer.specs.Entry.{Entered, enter, enter_any}
use Rattle.tok_buffer.specs.Place.{Place}
use Rattle.tok_buffer.specs.Progress.{EntriesGoOn, ReadsGoOn, StaysAlong}
use Rattle.tok_buffer.specs.Reads.{read_ident, read_punct}
use Rattle.outline.specs.Passing.{Passes, Stays}

-- a move past something adds nothing
pub passes_stays : (p q : Place) → Passes p q → Stays p q
passes_stays p q one = grind arith

-- two moves past something
pub passes_along : StaysAlong → (p q r : Place) → Passes p q → Passes q r → Passes p r
passes_along law p q r one two = grind (arith, law.along)

-- a move past something, and another move
pub passes_on : StaysAlong → (p q r : Place) → Passes p q → Stays q r → Passes p r
passes_on law p q r one two = grind (arith, law.along)

-- a name
pub past_ident : ReadsGoOn → (p : Place) (ts : List Tree) (q : Place) →
    read_ident p ≡ Some (ts, q) → Passes p q
past_ident law p ts q e = (law.leaves.idents.stays p ts q e, law.leaves.idents.lowers p ts q e)

-- a punct
pub past_punct : ReadsGoOn → (p : Place) (ts : List Tree) (q : Place) →
    read_punct p ≡ Some (ts, q) → Passes p q
past_punct law p ts q e = (law.leaves.puncts.stays p ts q e, law.leaves.puncts.lowers p ts q e)

-- a group
pub past_group : EntriesGoOn → (d : Delimiter) (p : Place) (e : Entered) →
    enter d p ≡ Some e → Passes p e.after
past_group law d p e eq = ((law.groups d).stays p e eq, (law.groups d).lowers p e eq)

-- a group of any delimiter
pub past_any : EntriesGoOn → (p : Place) (e : Entered) → enter_any p ≡ Some e → Passes p e.after
past_any law p e eq = (law.any_groups.stays p e eq, law.any_groups.lowers p e eq)
