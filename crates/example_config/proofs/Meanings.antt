-- What integers mean, with a suffix and without one.
use Rattle.std.proofs.Common.{◌∙◌, sym, ap, refl, ◌∷◌, subst, ◌≡◌, ◌<◌, ◌^◌, ℕ, List, [], Some}
use Rattle.std.proofs.Common.{true, false, Err, Ok, Option, arith, eqb-true}
use Rattle.std.specs.Prelude.{encode_utf8_all, Result, ◌==◌, codes, length}
use Rattle.std.proofs.lemmas.Bool.{false≢true, lt-ltb, ltb-true}
use Rattle.std.proofs.lemmas.Str.{encodes-chars}
use Rattle.std.specs.Str.{IsUtf8, chars}
use Rattle.syn_parse.specs.Positions.{scope_trees}
use Rattle.syn_parse.specs.Takes.{IsMissing, and_then, MemoryOr, Outcome, SaysFound, Taking}
use Rattle.syn_parse.specs.Takes.{TakesAs, ◌>>=◌, found, refuses_at}
use Rattle.syn_parse.specs.TreesAhead.{ahead, Ahead}
use Rattle.tok_leaves.specs.declared.span.Span.{Span}
use Rattle.tok_core.specs.Forest.{Forest}
use Rattle.tok_buffer.specs.Messages.{message_at}
use Rattle.tok_buffer.specs.declared.error.Message.{Message}
use Rattle.syn_parse.specs.Faults.{Refuses}
use Rattle.tok_values.specs.Values.{HasValue}
use Rattle.tok_values.specs.declared.integers.IntegerFault.TheVariants.{TooLarge}
use Rattle.syn_parse.specs.State.{State}
use Rattle.syn_parse.specs.declared.fault.Fault.{Fault}
use Rattle.example_config.specs.Forms.{Form, number, value_form}
use Rattle.example_config.specs.Reading.{Means, SaysOnce, in_integer, in_number}
use Rattle.example_config.specs.declared.value.Value.{Value}

-- an error at this span says what is missing there
at_given : (A : Type 0) (a : Ahead) (span : Span) (words : List ℕ) (f : Fault)
    → Refuses (message_at span words) f
    → (trees : Forest) (scope : Span) → SaysFound trees scope (refuses_at {A = A} span words a) f
at_given A a span words f k trees scope = grind arith

one_missing : (r : Message) (f : Fault) → Refuses r f → MemoryOr f (Unit {0})
one_missing r f k = grind arith

pub says : {A : Type 0} (o : Outcome A) (a : Ahead) (span : Span) (words : List ℕ) (f : Fault)
    → o ≡ refuses_at span words a → Refuses (message_at span words) f → SaysOnce o f
says {A} o a span words f h k = grind (arith, one_missing, at_given)

pub is_empty : (text : List ℕ) → true ≡ (length text == 0) → text ≡ []
is_empty [] e = refl
is_empty (c ∷ text) e =
    let k = eqb-true (length (c ∷ text)) 0 (sym e) in absurd (omega (arith, k))

no_text : (text : List ℕ) → false ≡ (length text == 0) → text ≡ [] → ⊥
no_text text e k = grind (arith, false≢true)

module _ (span : Span) (n : ℕ) (suffix : List ℕ) (a : Ahead) (small : n < 2 ^ 64) where
  fits : in_integer span (Some (n, chars suffix)) a ≡ in_number span n (chars suffix) a
  fits = grind (arith, lt-ltb)

  pub without_suffix : true ≡ (length suffix == 0)
      → in_integer span (Some (n, chars suffix)) a ≡ found (number span n) a
  unfolding chars
  without_suffix e = grind (arith, fits, is_empty)

  pub with_suffix : IsUtf8 suffix → false ≡ (length suffix == 0)
      → in_integer span (Some (n, chars suffix)) a ≡ refuses_at span (codes "expected no suffix") a
  with_suffix u e = fits ∙ go (chars suffix) refl where
    go : (cs : List ℕ) → chars suffix ≡ cs
        → in_number span n cs a ≡ refuses_at span (codes "expected no suffix") a
    go [] k = absurd (no_text suffix e (sym (encodes-chars suffix u) ∙ ap encode_utf8_all k))
    go (c ∷ cs) k = refl

-- an integer that is too large
pub too_large : (span : Span) (wanted : Option (ℕ × List ℕ)) (a : Ahead)
    → HasValue wanted (Err TooLarge)
    → in_integer span wanted a ≡ refuses_at span (codes "expected an integer below 2^64") a
too_large span wanted a h = grind (arith, ltb-true)

-- a value is taken, and then what it means
module _ {B : Type 0} (take : Taking B) (m : B → Taking Form) (v : B) (s t : State) where
  pub then_means : (r : Result Value Fault) → TakesAs (λ v. v) take s (Ok v) t → Means (m v) r
      → TakesAs value_form (take >>= m) s r t
  then_means (Ok x) h k = (ap (λ o. and_then o m) h.0 ∙ k (ahead t), h.1)
  then_means (Err f) h k =
      let here = ap (λ o. and_then o m) h.0 in (
        subst (λ o. MemoryOr f (IsMissing o)) (sym here) (k (ahead t)).0,
        λ i. subst (λ o. SaysFound (scope_trees s.place) s.scope_span o f) (sym here)
            ((k (ahead t)).1 (scope_trees s.place) s.scope_span),
      )
