use Rattle.std.proofs.Common.{◌≡◌, ℕ, ◌-◌, ◌<◌, ◌≤◌, length, drop, get_or}
use Rattle.tok_carets.specs.Lines.{IsKnown, IsPlaceAt, nowhere}
use Rattle.tok_carets.proofs.index.LineIndex.line_columns.Given as goal

abbrev pub invariant-loop-done : goal.invariant-loop-done
invariant-loop-done l =
    (length l.places ≡ length l.initial.places) × (l.done ≤ length l.bytes)
    × (drop l.done l.places ≡ drop l.done l.initial.places)
    × ((k : ℕ) → k < l.done
    → IsPlaceAt l.self.text.now (get_or l.bytes k 0) (get_or l.places k nowhere))
    × IsKnown l.self.text.now l.from l.known

abbrev pub decreases-loop-done : goal.decreases-loop-done
decreases-loop-done l = length l.bytes - l.done
