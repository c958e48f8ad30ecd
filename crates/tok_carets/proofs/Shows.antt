-- Messages that are shown, from the last one on.
use Rattle.std.proofs.Common.{◌≡◌, ◌++◌, [], ◌∷◌, ℕ, List}
use Rattle.std.specs.Prelude.{codes}
use Rattle.tok_leaves.specs.Spans.{range}
use Rattle.tok_leaves.specs.declared.span.Span.{Span}
use Rattle.tok_buffer.specs.Messages.{first_message_span, first_text}
use Rattle.tok_buffer.specs.declared.error.Message.{Message}
use Rattle.tok_carets.specs.Shown.{Shows, ShowsEach, shows_more, shows_none}
use Rattle.tok_carets.specs.declared.source.Source.{Source}

module _ (source : Source) (level : List ℕ) where
  -- a message, and after it others as notes
  pub one_more : (left after : List (List Message)) (first message : List Message) (span : Span)
      (words one rest : List ℕ) → left ≡ first ∷ after → message ≡ first
      → words ≡ first_text message → span ≡ first_message_span message
      → Shows source level words (range span) one → ShowsEach source (codes "note") after rest
      → ShowsEach source level left (one ++ rest)
  one_more left after first message span words one rest cut same w s shown more =
      rw cut (shows_more level first after one rest (rw (← same, ← w, ← s) shown) more)

  -- no message
  pub none_left : (left : List (List Message)) → left ≡ [] → ShowsEach source level left []
  none_left left none = rw none (shows_none level)
