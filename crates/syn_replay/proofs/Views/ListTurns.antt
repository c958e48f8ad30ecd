-- List parsers at places with equal views.
use Rattle.std.proofs.Common.{◌≡◌, ap, refl, ℕ, zero, suc}
use Rattle.std.proofs.Common.{nat_lt, true, List, [], ◌∷◌, ◌++◌, Option, Some, None}
use Rattle.std.proofs.lemmas.Bool.{lt-ltb}
use Rattle.tok_leaves.specs.declared.span.Span.{Span}
use Rattle.tok_core.specs.Forest.{Tree}
use Rattle.tok_buffer.specs.Buffer.{Laid}
use Rattle.tok_buffer.specs.Place.{Place}
use Rattle.tok_buffer.specs.Reads.{read_punctuation}
use Rattle.tok_buffer.specs.declared.error.Message.{Message}
use Rattle.tok_buffer.proofs.Onwards.{GoesOn, keeps_scope, later_count, lies_nowhere, reading_goes}
use Rattle.tok_buffer.proofs.Onwards.{then_goes}
use Rattle.tok_buffer.proofs.View.Alike.{Alike, ReadsAlike, alike-end, alike-reading}
use Rattle.tok_buffer.proofs.View.Spans.{same_length}
use Rattle.tok_buffer.proofs.View.Moves.{LeadsTo}
use Rattle.tok_buffer.proofs.View.Readings.{of_punctuation}
use Rattle.syn_replay.specs.Kinds.{Kind, read, kind_missing}
use Rattle.syn_parse.specs.State.{fresh}
use Rattle.syn_replay.proofs.Views.KindReads.{of_kind}
use Rattle.syn_replay.proofs.Views.KindsAlike.{alike-kind, alike-kind_missing}
use Rattle.syn_replay.specs.Reports.{Piece}
use Rattle.syn_replay.specs.Turns.{ListOutcome, read_all, refused_at, with_parts, is_later}
use Rattle.syn_replay.specs.Turns.{after_read, after_value, next_turn, pieces_of, without_separator}
use Rattle.syn_replay.specs.Turns.{ListRule, terminated, separated, is_over, turns, turns_left}
use Rattle.syn_replay.proofs.Views.Choices.{either}
use Rattle.std.proofs.Common.{arith}

-- each read leads to a later place of the same scope
later-read : (k : Kind) (p : Place) → LeadsTo (GoesOn p) (read k p)
later-read k p = reading_goes (of_kind k).1 p

later-separator : (s : List ℕ) (p v : Place) → GoesOn p v
    → LeadsTo (GoesOn p) (read_punctuation s v)
later-separator s p v h = then_goes (of_punctuation s) p v h

is_later_there : (p q : Place) → GoesOn p q → is_later p q ≡ true
is_later_there a0 a1 a2 = grind (arith, lies_nowhere, nat_lt, keeps_scope, lt-ltb, later_count)

module _ (f g : Laid) where
  pub data OutcomesAlike : ListOutcome → ListOutcome → Type 0 where
    both_read : {a b : List (List Piece)} {p q : Place} → a ≡ b → Alike f g p q
        → OutcomesAlike (read_all a p) (read_all b q)
    both_refused : {r s : Message} {p q : Place} → r.text ≡ s.text → Alike f g p q
        → OutcomesAlike (refused_at r p) (refused_at s q)

  with-parts : (a : List (List Piece)) (x y : ListOutcome) → OutcomesAlike x y
      → OutcomesAlike (with_parts a x) (with_parts a y)
  with-parts a x y (both_read e h) = both_read (ap (λ z. a ++ z) e) h
  with-parts a x y (both_refused e h) = both_refused e h

  module _ (kind : Kind) (separator : List ℕ) (left right : Span) where
    next-turn : (p q v w : Place) (a b : Place → ListOutcome) → GoesOn p v → GoesOn q w
        → OutcomesAlike (a v) (b w)
        → OutcomesAlike (next_turn kind separator left p v a) (next_turn kind separator right q w b)
    next-turn p q v w a b h k i = rw (is_later_there p v h, is_later_there q w k) i

    after-read : (p q : Place) (u v : ListOutcome) (a b : List Piece → Place → ListOutcome)
        (r s : Option (List Tree × Place))
        → OutcomesAlike u v
        →
        ((x : List Piece) (i j : Place) → Alike f g i j → GoesOn p i → GoesOn q j
        → OutcomesAlike (a x i) (b x j))
        → ReadsAlike f g r s
        → LeadsTo (GoesOn p) r
        → LeadsTo (GoesOn q) s
        → OutcomesAlike (after_read u a r) (after_read v b s)
    after-read p q u v a b None None e m h i j = e
    after-read p q u v a b None (Some s) e m h i j = absurd h
    after-read p q u v a b (Some r) None e m h i j = absurd h
    after-read p q u v a b (Some r) (Some s) e m h i j =
        rw (← (ap pieces_of h.0)) (m (pieces_of r.0) r.1 s.1 h.1 i j)

    after-value : (p q : Place) (x : List Piece) (u v : ListOutcome) (a b : Place → ListOutcome)
        (i j : Place)
        → OutcomesAlike u v
        → ((y z : Place) → Alike f g y z → OutcomesAlike (a y) (b z))
        → Alike f g i j
        → GoesOn p i
        → GoesOn q j
        → OutcomesAlike (after_value kind separator left p x u a i)
        (after_value kind separator right q x v b j)
    after-value p q x u v a b i j e again h k m =
        after-read p q u v _ _ (read_punctuation separator i) (read_punctuation separator j) e
        (λ s y z l n o. with-parts (x ∷ (s ∷ [])) _ _
        (next-turn p q y z a b n o (again y z l)))
        (alike-reading f g i j h (of_punctuation separator)) (later-separator separator p i k)
        (later-separator separator q j m)

    alike-over : (rule : ListRule) (p q : Place) → Alike f g p q → is_over rule p ≡ is_over rule q
    alike-over terminated p q h = alike-end f g p q h
    alike-over separated p q h = refl

    alike-without : (rule : ListRule) (x : List Piece) (p q : Place) → Alike f g p q
        → OutcomesAlike (without_separator kind separator left rule x p)
        (without_separator kind separator right rule x q)
    alike-without terminated x p q h = both_refused refl h
    alike-without separated x p q h = both_read refl h

    pub alike-turns : (rule : ListRule) (n : ℕ) (p q : Place) → Alike f g p q
        → OutcomesAlike (turns kind separator left rule n p) (turns kind separator right rule n q)
    alike-turns rule zero p q h = both_refused refl h
    alike-turns rule (suc n) p q h =
        either OutcomesAlike (is_over rule p) (is_over rule q) (read_all [] p) (read_all [] q) _ _
        (alike-over rule p q h) (both_read refl h)
        (after-read p q (refused_at (kind_missing kind (fresh p left)) p)
        (refused_at (kind_missing kind (fresh q right)) q) _ _ (read kind p) (read kind q)
        (both_refused (alike-kind_missing f g kind (fresh p left) (fresh q right) h) h)
        (λ x i j k l m.
        either OutcomesAlike (is_over rule i) (is_over rule j) (read_all (x ∷ []) i)
        (read_all (x ∷ []) j) _ _
        (alike-over rule i j k) (both_read refl k)
        (after-value p q x (without_separator kind separator left rule x i)
        (without_separator kind separator right rule x j) (turns kind separator left rule n)
        (turns kind separator right rule n) i j (alike-without rule x i j k)
        (alike-turns rule n) k l m))
        (alike-kind f g kind p q h) (later-read kind p) (later-read kind q))

  -- as many turns are allowed at both places
  pub alike-turns_left : (p q : Place) → Alike f g p q → turns_left p ≡ turns_left q
  alike-turns_left p q h = grind (arith, same_length)
