-- A place that is reached has all that the lemmas ask.
use Rattle.std.proofs.Common.{◌≡◌, true}
use Rattle.tok_core.specs.Filled.{filled}
use Rattle.tok_buffer.specs.Buffer.{Laid}
use Rattle.tok_buffer.specs.Place.{Place}
use Rattle.tok_buffer.specs.Reached.{Reached, begin, down, past, into, nowhere}
use Rattle.tok_buffer.proofs.View.Standing.{Stands, stands-start, stands-descend, stands-pass}
use Rattle.tok_buffer.proofs.View.Standing.{stands-enter, stands-empty}

pub reached_stands : (b : Laid) → filled b.forest ≡ true → (p : Place) → Reached b p
    → Stands b.number b.forest p
reached_stands b h _ begin = stands-start b.number b.forest h
reached_stands b h _ (down p r) = stands-descend b.number b.forest p (reached_stands b h p r)
reached_stands b h _ (past p r) = stands-pass b.number b.forest p (reached_stands b h p r)
reached_stands b h _ (into d p e v i r) =
    (rw i at (stands-enter b.number b.forest d p v (reached_stands b h p r))).0
reached_stands b h _ nowhere = stands-empty b.number b.forest
