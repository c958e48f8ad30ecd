-- No list parser runs out of turns: more than are allowed change nothing.
use Rattle.std.proofs.Common.{◌≡◌, ap, ℕ, zero, suc, ◌+◌, ◌≤◌, cond, List, [], ◌∷◌, length}
use Rattle.std.proofs.Common.{Option, arith, le_refl}
use Rattle.tok_leaves.specs.declared.span.Span.{Span}
use Rattle.tok_core.specs.Forest.{Tree}
use Rattle.tok_buffer.specs.Ahead.{marked_ahead}
use Rattle.tok_buffer.specs.Place.{Place}
use Rattle.tok_buffer.specs.Reads.{read_punctuation}
use Rattle.tok_buffer.proofs.View.Readings.{of_punctuation}
use Rattle.tok_buffer.proofs.View.Shortens.{LeavesFewer, fewer}
use Rattle.syn_replay.specs.Kinds.{Kind, read, kind_missing}
use Rattle.syn_parse.specs.State.{fresh}
use Rattle.syn_replay.proofs.Views.KindReads.{of_kind}
use Rattle.syn_replay.specs.Reports.{Piece}
use Rattle.syn_replay.specs.Turns.{ListOutcome, read_all, refused_at, with_parts, is_later, no_progress_at}
use Rattle.syn_replay.specs.Turns.{after_read, after_value, ListRule, is_over, without_separator}
use Rattle.syn_replay.specs.Turns.{turns, MoreTurnsChangeNothing}

-- as many turns as there are visible trees ahead, and one more
abbrev IsEnough : ℕ → Place → Type 0
IsEnough n p = length (marked_ahead p) + 1 ≤ n

after_fewer : (p : Place) (u : ListOutcome) (a b : List Piece → Place → ListOutcome)
    (r : Option (List Tree × Place))
    → LeavesFewer p r
    → ((x : List Piece) (q : Place) → length (marked_ahead q) + 1 ≤ length (marked_ahead p)
    → a x q ≡ b x q)
    → after_read u a r ≡ after_read u b r
after_fewer a0 a1 a2 a3 a4 a5 a6 = grind arith

module _ (kind : Kind) (separator : List ℕ) (scope : Span) where
  more_turns : (n m : ℕ) (a b : Place → ListOutcome)
      → ((q : Place) → IsEnough n q → IsEnough m q → a q ≡ b q)
      → (p q : Place) (x : List Piece) (u : ListOutcome)
      → length (marked_ahead q) ≤ n
      → length (marked_ahead q) ≤ m
      → after_value kind separator scope p x u a q ≡ after_value kind separator scope p x u b q
  more_turns n m a b same p q x u h k =
      after_fewer q u _ _ (read_punctuation separator q) (fewer (of_punctuation separator) q)
      (λ s r f. ap
      (λ o. with_parts (x ∷ (s ∷ []))
      (cond (is_later p r) o (refused_at (no_progress_at r scope) r)))
      (same r (omega (arith, h, f)) (omega (arith, k, f))))

  -- for each rule
  module _ (rule : ListRule) where
    enough-turns : (n m : ℕ) (p : Place) → IsEnough n p → IsEnough m p
        → turns kind separator scope rule n p ≡ turns kind separator scope rule m p
    enough-turns zero m p h k = absurd (omega (arith, h))
    enough-turns (suc n) zero p h k = absurd (omega (arith, k))
    enough-turns (suc n) (suc m) p h k =
        let again = enough-turns n m in
        ap (λ o. cond (is_over rule p) (read_all [] p) o)
        (after_fewer p (refused_at (kind_missing kind (fresh p scope)) p) _ _ (read kind p)
        (fewer (of_kind kind).1 p)
        (λ x q f.
        ap (λ o. cond (is_over rule q) (read_all (x ∷ []) q) o)
        (more_turns n m (turns kind separator scope rule n) (turns kind separator scope rule m)
        again p q x (without_separator kind separator scope rule x q) (omega (arith, h, f))
        (omega (arith, k, f)))))

pub more_turns_change_nothing : MoreTurnsChangeNothing
more_turns_change_nothing kind separator scope rule n p h = grind (arith, enough-turns, le_refl)
