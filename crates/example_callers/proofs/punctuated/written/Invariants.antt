use Rattle.std.proofs.Common.{◌≡◌, ◌++◌, string_bytes}
use Rattle.syn_punctuated.specs.Lists.{values_of, separators_of}
use Rattle.example_callers.specs.Text.{text_of}
use Rattle.example_callers.proofs.Text.{pairs_text}
use Rattle.example_callers.proofs.punctuated.written.Given as goal

abbrev pub invariant-loop-pair : goal.invariant-loop-pair
invariant-loop-pair l =
    string_bytes l.text ++ pairs_text l.pair-iterator
    ≡ text_of (values_of l.fn.list) (separators_of l.fn.list)
