-- A text is cut in one way only.
use Rattle.std.proofs.Common.{◌≡◌, ℕ, ◌+◌, ◌⊎◌, inl, inr, List, ◌++◌, refl, sym, append_assoc}
use Rattle.tok_lexical.proofs.Fits.{decides_unique}
use Rattle.tok_core.specs.Lexical.Items.{Item}
use Rattle.tok_lexical.specs.Widths.{width}
use Rattle.tok_core.specs.Lexical.Reading.{Cut, stop, piece}
use Rattle.tok_lexical.specs.declared.rule.Mode.{Mode}

-- two cuts that begin together: one goes on from the other
pub cuts : {mode : Mode} {number at end to : ℕ} {text rest after : List ℕ}
    {some others : List Item} → Cut mode number at text some end rest →
    Cut mode number at text others to after
    → ((more : List Item) × (others ≡ some ++ more) × Cut mode number end rest more to after)
    ⊎ ((more : List Item) × (some ≡ others ++ more) × Cut mode number to after more end
    rest)
cuts {others = others} stop c = inl (others, refl, c)
cuts {some = some} (piece d m c) stop = inr (some, refl, piece d m c)
cuts {mode} {number} {at} {to = to} {after = after}
    (piece {taken = p} {after = r} {rule} {more = o} d m c) (piece {more = k} d' m' c') =
    let w = decides_unique d d' in
    let moved : Cut mode number (at + width rule p) r k to after = rw (w.0, w.1, w.2) c' in
    elim (cuts c moved) [
      | inl (more, e, n) ↦ inl (more, rw (w.0, w.1, w.2, e) (sym (append_assoc _ o more)), n)
      | inr (more, e, n) ↦ inr (more, rw (w.0, w.1, w.2, e) (sym (append_assoc _ k more)), n)
    ]
