-- A text read into a buffer follows the grammar.
use Rattle.std.proofs.Common.{◌≡◌, ◌∙◌, ℕ, List, sym, refl, Ok, Err, Result}
use Rattle.std.proofs.lemmas.List.{append_cancel_right}
use Rattle.std.specs.Result.{IfOk, IfErr}
use Rattle.tok_core.specs.Lexical.Errors.{OnRefused}
use Rattle.tok_core.specs.Lexical.Outcome.{FollowsFrom, FollowsSource}
use Rattle.tok_core.specs.Lexical.Reading.{ReadsFrom, IsRefusedFrom}
use Rattle.tok_core.specs.declared.lexer.error.LexFault.{LexFault}
use Rattle.tok_core.specs.declared.lexer.error.LexFault.TheVariants.{Refused, Memory}
use Rattle.tok_core.proofs.Lexical.Laws.{follows, forest_once, refused_once, never_both}
use Rattle.tok_lexical.specs.declared.rule.Mode.TheVariants.{Source}
use Rattle.tok_lexical.specs.Widths.{bytes}
use Rattle.tok_lexical.specs.declared.edition.Edition.{Edition}
use Rattle.tok_lexical.specs.declared.rule.Mode.{Mode}
use Rattle.tok_lexical.proofs.Sources.{begins_once}
use Rattle.tok_buffer.specs.Buffer.{Laid, forest_of, KeepsReading, SameReading}
use Rattle.tok_core.specs.Forest.{Forest}

module _ (begin : ℕ) (mode : Mode) (number : ℕ) (text : List ℕ) where
  on_forest : (r : Result Laid LexFault) →
      IfOk r (λ b. ReadsFrom begin mode number text b.forest) →
      IfOk (forest_of r) (ReadsFrom begin mode number text)
  on_forest (Ok b) h = h
  on_forest (Err e) h = tt

  on_fault : (r : Result Laid LexFault) →
      IfErr r (λ fault. OnRefused fault (IsRefusedFrom begin mode number text)) →
      IfErr (forest_of r) (λ fault. OnRefused fault (IsRefusedFrom begin mode number text))
  on_fault (Ok b) h = tt
  on_fault (Err e) h = h

  pub buffer_follows : (r : Result Laid LexFault) →
      IfOk r (λ b. ReadsFrom begin mode number text b.forest) →
      IfErr r (λ fault. OnRefused fault (IsRefusedFrom begin mode number text)) →
      FollowsFrom begin mode number text (forest_of r)
  buffer_follows r reads refuses = follows begin mode number text (forest_of r)
      (on_forest r reads) (on_fault r refuses)

  -- two readings of one text are the same
  pub same_reading : (one other : Result Laid LexFault) (n : ℕ) → IfOk one (λ b. b.number ≡ n) →
      IfOk other (λ b. b.number ≡ n) → FollowsFrom begin mode number text (forest_of one) →
      FollowsFrom begin mode number text (forest_of other) → SameReading one other
  same_reading (Ok a) (Ok b) n p q f g =
      λ i. record {
        number = (p ∙ sym q) i;
        forest = forest_once begin mode number text a.forest b.forest f.reads g.reads i;
      }
  same_reading (Ok a) (Err (Refused e)) n p q f g = never_both begin mode number text a.forest e
      f.reads g.refuses
  same_reading (Ok a) (Err Memory) n p q f g = tt
  same_reading (Err (Refused e)) (Ok b) n p q f g = never_both begin mode number text b.forest e
      g.reads f.refuses
  same_reading (Err (Refused e)) (Err (Refused o)) n p q f g = refused_once begin mode number
      text e o f.refuses g.refuses
  same_reading (Err (Refused e)) (Err Memory) n p q f g = tt
  same_reading (Err Memory) other n p q f g = tt

  -- a stream that is laid out follows what was read
  pub kept_follows : (read out : Result Forest LexFault) → KeepsReading read out →
      FollowsFrom begin mode number text read → FollowsFrom begin mode number text out
  kept_follows read (Ok f) k h = rw k at h
  kept_follows read (Err (Refused e)) k h = rw k at h
  kept_follows read (Err Memory) k h = record {
    reads = tt;
    only_read = λ f r. refl;
    refuses = tt;
    only_refused = λ e r. tt;
  }

pub kept_source : (edition : Edition) (number : ℕ) (text : List ℕ)
    (read out : Result Forest LexFault) → KeepsReading read out →
    FollowsSource edition number text read → FollowsSource edition number text out
kept_source edition number text read out k (front, rest, cut, begins, f) =
    (front, rest, cut, begins, kept_follows (bytes front) (Source edition) number rest read out k f)

-- two readings of one source are the same: it begins at one place
pub same_source : (edition : Edition) (number : ℕ) (text : List ℕ)
    (one other : Result Laid LexFault) (n : ℕ) → IfOk one (λ b. b.number ≡ n) →
    IfOk other (λ b. b.number ≡ n) → FollowsSource edition number text (forest_of one) →
    FollowsSource edition number text (forest_of other) → SameReading one other
same_source edition number text one other n p q (front, rest, cut, begins, f)
    (front', rest', cut', begins', g) =
    let at_rest : rest' ≡ rest = begins_once begins' begins in
    let at_front : front' ≡ front = append_cancel_right front' front rest
    (cc (at_rest, cut, cut')) in
    same_reading (bytes front) (Source edition) number rest one other n p q f
    (rw (at_front, at_rest) at g)
