-- What a list begins with.
use Rattle.std.proofs.Common.{◌∙◌, ap, List, ◌++◌, append_assoc, Ok, Err}
use Rattle.std.specs.Prelude.{OnErr, Result}
use Rattle.tok_entries.specs.Entries.{BeginsWith}

pub begins_then : {A : Type 0} (xs ys zs : List A) → BeginsWith xs ys → BeginsWith ys zs
    → BeginsWith xs zs
begins_then xs ys zs h k =
    (k.0 ++ h.0, h.1 ∙ ap (λ w. w ++ h.0) k.1 ∙ append_assoc zs k.0 h.0)

pub on_err : {T E A : Type 0} (r : Result T E) → A → OnErr r A
on_err (Ok v) a = tt
on_err (Err e) a = a
