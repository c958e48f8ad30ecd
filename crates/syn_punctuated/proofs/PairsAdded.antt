-- One more pair.
use Rattle.std.proofs.Common.{◌≡◌, ◌+◌, List, [], ◌∷◌, ◌++◌, map, length, refl, sym, ap, ◌∙◌, arith}
use Rattle.std.proofs.Common.{append_assoc, length-append, Option, true, false, is_some}
use Rattle.std.proofs.Common.{Result, MatchResult, IfErr}
use Rattle.std.proofs.lemmas.List.{length-map, map-append}
use Rattle.std.specs.Option.{option_to_list}
use Rattle.std.specs.Result.{IsErrAnd}
use Rattle.std.specs.Global.{Box}
use Rattle.syn_punctuated.specs.declared.punctuated.Punctuated.{Punctuated as List'}
use Rattle.syn_punctuated.specs.declared.pair.Pair.{Pair}
use Rattle.syn_punctuated.specs.declared.pair.Pair.TheVariants.{Punctuated, End}
use Rattle.syn_punctuated.specs.Private.Boxes.{boxed_values}
use Rattle.syn_punctuated.specs.Lists.{values_of, separators_of}
use Rattle.syn_punctuated.specs.Pairs.{value_of_pair, separator_of_pair}
use Rattle.syn_punctuated.specs.Adds.{AddsPairs, IsPairs, EndsBare, separators_in}

boxed_count : {X : Type 0} (last : Option (Box X))
    → (is_some last ≡ true → length (boxed_values last) ≡ 1)
    × (is_some last ≡ false → length (boxed_values last) ≡ 0)
boxed_count last = grind arith

-- what holds of a fault holds of an answer that is this fault
module _ {A B : Type 0} (Q : B → Type 0) (fault : B) where
  pub match_fault : (P : A → Type 0) (r : Result A B) → IsErrAnd r (λ e. e ≡ fault) → Q fault
      → MatchResult r P Q
  match_fault P r h q = grind arith

  pub if_fault : (r : Result A B) → IsErrAnd r (λ e. e ≡ fault) → Q fault → IfErr r Q
  if_fault r h q = grind arith

module _ {X Y : Type 0} where
  pub some_is_bare : (list : List' X Y) → is_some list.last ≡ true
      → length (values_of list) ≡ length (separators_of list) + 1
  some_is_bare list e =
      rw (
        length-append (map (λ p. p.0) list.inner.items) (boxed_values list.last),
        length-map list.inner.items (λ p. p.0),
        length-map list.inner.items (λ p. p.1),
        (boxed_count list.last).0 e,
      ) refl

  pub none_is_trailing : (list : List' X Y) → is_some list.last ≡ false
      → length (values_of list) ≡ length (separators_of list)
  none_is_trailing list e =
      rw (
        length-append (map (λ p. p.0) list.inner.items) (boxed_values list.last),
        length-map list.inner.items (λ p. p.0),
        length-map list.inner.items (λ p. p.1),
        (boxed_count list.last).1 e,
      ) (omega arith)

  pairs_more : (ps : List (Pair X Y)) (p : Pair X Y) → IsPairs ps → (EndsBare ps → ⊥)
      → IsPairs (ps ++ p ∷ [])
  pairs_more [] (Punctuated x y) h shut = tt
  pairs_more [] (End x) h shut = refl
  pairs_more (Punctuated x y ∷ ps) p h shut = pairs_more ps p h shut
  pairs_more (End x ∷ ps) p h shut = absurd (shut h)

  bare_more : (ps : List (Pair X Y)) (x : X) → IsPairs ps → (EndsBare ps → ⊥)
      → EndsBare (ps ++ End x ∷ [])
  bare_more [] x h shut = refl
  bare_more (Punctuated w y ∷ ps) x h shut = bare_more ps x h shut
  bare_more (End w ∷ ps) x h shut = absurd (shut h)

  trailing_more : (ps : List (Pair X Y)) (x : X) (y : Y) → EndsBare (ps ++ Punctuated x y ∷ [])
      → ⊥
  trailing_more [] x y h = h
  trailing_more (Punctuated w z ∷ ps) x y h = trailing_more ps x y h
  trailing_more (End w ∷ []) x y h = cc
  trailing_more (End w ∷ q ∷ ps) x y h = cc

  separators_more : (ps : List (Pair X Y)) (p : Pair X Y)
      → separators_in (ps ++ p ∷ []) ≡ separators_in ps ++ option_to_list (separator_of_pair p)
  separators_more [] (Punctuated x y) = refl
  separators_more [] (End x) = refl
  separators_more (Punctuated x y ∷ ps) p = ap (λ zs. y ∷ zs) (separators_more ps p)
  separators_more (End x ∷ ps) p = separators_more ps p

  module _ (old mid new : List' X Y) (ps : List (Pair X Y)) (p : Pair X Y)
      (h : AddsPairs old ps mid) (shut : EndsBare ps
      → ⊥) (values : values_of new ≡ values_of mid ++ value_of_pair p ∷ [])
      (separators : separators_of new ≡ separators_of mid ++ option_to_list (separator_of_pair p))
    where
      pub adds_more : AddsPairs old (ps ++ p ∷ []) new
      adds_more = record {
        values =
            values ∙ ap (λ zs. zs ++ value_of_pair p ∷ []) h.values
            ∙ append_assoc (values_of old) _ _
            ∙ ap (λ zs. values_of old ++ zs) (sym (map-append value_of_pair ps (p ∷ [])));
        separators =
            separators ∙ ap (λ zs. zs ++ option_to_list (separator_of_pair p)) h.separators
            ∙ append_assoc (separators_of old) _ _
            ∙ ap (λ zs. separators_of old ++ zs) (sym (separators_more ps p));
        are_pairs = pairs_more ps p h.are_pairs shut;
      }

lengths_grow : {X Y : Type 0} (mid new : List' X Y) (p : Pair X Y)
    → length (values_of mid) ≡ length (separators_of mid)
    → values_of new ≡ values_of mid ++ value_of_pair p ∷ []
    → separators_of new ≡ separators_of mid ++ option_to_list (separator_of_pair p)
    → (length (values_of new) ≡ length (separators_of mid) + 1)
    × (length (separators_of new)
    ≡ length (separators_of mid) + length (option_to_list (separator_of_pair p)))
lengths_grow mid new p same values separators = (
  ap length values ∙ length-append (values_of mid) _ ∙ ap (λ n. n + 1) same,
  ap length separators ∙ length-append (separators_of mid) _,
)

module _ {X Y : Type 0} (mid new : List' X Y) (ps : List (Pair X Y)) (are : IsPairs ps)
    (shut : EndsBare ps → ⊥) (same : length (values_of mid) ≡ length (separators_of mid)) where
  pub bare_after : (p : Pair X Y) → values_of new ≡ values_of mid ++ value_of_pair p ∷ []
      → separators_of new ≡ separators_of mid ++ option_to_list (separator_of_pair p)
      → length (values_of new) ≡ length (separators_of new) + 1 → EndsBare (ps ++ p ∷ [])
  bare_after (Punctuated x y) values separators e =
      let c = lengths_grow mid new (Punctuated x y) same values separators in
      absurd (omega (arith, c.0, c.1, e))
  bare_after (End x) values separators e = bare_more ps x are shut

  pub trailing_after : (p : Pair X Y) → values_of new ≡ values_of mid ++ value_of_pair p ∷ []
      → separators_of new ≡ separators_of mid ++ option_to_list (separator_of_pair p)
      → length (values_of new) ≡ length (separators_of new) → EndsBare (ps ++ p ∷ []) → ⊥
  trailing_after (Punctuated x y) values separators e = trailing_more ps x y
  trailing_after (End x) values separators e =
      let c = lengths_grow mid new (End x) same values separators in
      absurd (omega (arith, c.0, c.1, e))
