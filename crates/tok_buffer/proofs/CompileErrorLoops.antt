-- The compile errors of messages that are written in turn.
use Rattle.std.proofs.Common.{◌≡◌, ℕ, ◌+◌, ◌<◌, ◌≤◌, List, ◌∷◌, length, drop}
use Rattle.std.proofs.Common.{get_or, add-one, drop-cons}
use Rattle.std.proofs.Math.ListN.{drop_of_length-le}
use Rattle.std.specs.Global.{Box}
use Rattle.tok_core.specs.Forest.{Forest, concat}
use Rattle.tok_core.proofs.Facts.{concat-none, joined_assoc}
use Rattle.tok_buffer.specs.CompileErrors.{compile_error, compile_errors}
use Rattle.tok_buffer.specs.Messages.{unboxed}
use Rattle.tok_buffer.specs.declared.error.Message.{Message}

next_message : (items : List (Box Message)) (i : ℕ) (m : Box Message) → i < length items →
    m ≡ get_or items i m → drop i items ≡ m ∷ drop (i + 1) items
next_message items i m h is = rw (add-one, drop-cons items i m, ← is)

pub errors_step : (items : List (Box Message)) (i : ℕ) (m : Box Message) (old new all : Forest) →
    i < length items → m ≡ get_or items i m → new ≡ concat old (compile_error m.value) →
    concat old (compile_errors (unboxed (drop i items))) ≡ all →
    concat new (compile_errors (unboxed (drop (i + 1) items))) ≡ all
errors_step items i m old new all h is e before =
    let next = next_message items i m h is in
    cc (joined_assoc old (compile_error m.value) (compile_errors (unboxed (drop (i + 1) items))))

pub errors_done : (items : List (Box Message)) (i : ℕ) (old all : Forest) → length items ≤ i →
    concat old (compile_errors (unboxed (drop i items))) ≡ all → old ≡ all
errors_done items i old all h before = rw (drop_of_length-le items h, concat-none) at before
