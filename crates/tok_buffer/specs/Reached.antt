-- The places of a buffer that have a view.
use Rattle.std.specs.Prelude.{◌≡◌, Some}
use Rattle.tok_lexical.specs.declared.delimiter.Delimiter.{Delimiter}
use Rattle.tok_buffer.specs.Buffer.{Laid}
use Rattle.tok_buffer.specs.Descent.{descend}
use Rattle.tok_buffer.specs.Entry.{Entered, enter}
use Rattle.tok_buffer.specs.Place.{Place, empty_place, start, pass}
use Rattle.tok_buffer.specs.View.{IsVisibleDelimiter}

-- those reached from the start by descending, passing trees and entering visible groups, and the
-- empty place
pub data Reached (b : Laid) : Place → Type 0 where
  begin : Reached b (start b.number b.forest)
  down : (p : Place) → Reached b p → Reached b (descend p)
  past : (p : Place) → Reached b p → Reached b (pass p)
  into : (d : Delimiter) (p : Place) (e : Entered) → IsVisibleDelimiter d
      → enter d p ≡ Some e → Reached b p → Reached b e.content
  nowhere : Reached b empty_place
