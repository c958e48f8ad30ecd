use denote.Shadow.{shadow}
use denote.Text.{Utf8}
use Rattle.std.proofs.Common.{◌++◌, ℕ, List}
use Rattle.std.specs.Prelude.{codes, string_bytes}
use Rattle.tok_buffer.specs.Messages.{each_message}
use Rattle.tok_carets.specs.Shown.{ShowsEach}
use Rattle.tok_carets.proofs.source.Lookup.show_error.Given as goal

abbrev pub invariant-loop-message : goal.invariant-loop-message
invariant-loop-message l =
    shadow (Utf8 l.level)
    × ((rest : List ℕ) → ShowsEach l.self.source.now l.level l.message-iterator rest
    → ShowsEach l.fn.self.source.now (codes "error") (each_message l.fn.error)
    (string_bytes l.out ++ rest))
