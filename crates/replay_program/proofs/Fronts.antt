-- What of a text went out, write by write.
use Rattle.std.proofs.Common.{◌≡◌, ℕ, ◌-◌, List, ◌++◌, length, take, drop}
use Rattle.std.proofs.Common.{append_assoc, length-drop}
use Rattle.std.proofs.Math.Seq.{take-length}
use Rattle.std.proofs.lemmas.List.{take-append-drop}

-- a front of a text, and the front of the rest
pub front_more : (bytes front rest next : List ℕ) (n : ℕ) → bytes ≡ front ++ rest
    → next ≡ drop n rest → bytes ≡ (front ++ take n rest) ++ next
front_more bytes front rest next n e q =
    cc (take-append-drop n rest, append_assoc front (take n rest) next)

-- all that stands from a place on
pub part_from : (n : ℕ) (rest : List ℕ) → take (length rest - n) (drop n rest) ≡ drop n rest
part_from n rest =
    rw (← length-drop n rest) (take-length (drop n rest))
