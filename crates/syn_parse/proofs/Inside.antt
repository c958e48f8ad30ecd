-- A peek into a group, by the visible trees ahead.
use Rattle.std.proofs.Common.{arith, ◌≡◌, Bool, false, Option, Some, None}
use Rattle.tok_lexical.specs.declared.delimiter.Delimiter.{Delimiter}
use Rattle.tok_core.specs.Forest.{Forest}
use Rattle.tok_buffer.specs.Entry.{Entered, enter}
use Rattle.tok_buffer.specs.Place.{Place}
use Rattle.tok_buffer.specs.View.{IsVisibleDelimiter}
use Rattle.tok_buffer.proofs.View.InFront.{tells-enter}
use Rattle.tok_types.specs.Sees.{Sees}
use Rattle.syn_parse.specs.Inside.{inside}

pub seen_inside : (sees : Option (Forest → Bool)) (d : Delimiter) (p : Place) (e : Entered)
    (found : Bool) → IsVisibleDelimiter d → enter d p ≡ Some e → Sees sees e.content found
    → Sees (inside d sees) p found
seen_inside sees d p e found v h k = grind (arith, tells-enter)

pub none_inside : (sees : Option (Forest → Bool)) (d : Delimiter) (p : Place)
    → IsVisibleDelimiter d → enter d p ≡ None → Sees (inside d sees) p false
none_inside sees d p v h = grind (arith, tells-enter)
