-- A list whose values are replaced, each by one of another type.
use Rattle.std.proofs.Common.{arith}
use Rattle.std.proofs.Common.{◌≡◌, ◌∙◌, sym, ap, refl, ℕ, List, [], ◌∷◌, ◌++◌, map}
use Rattle.std.proofs.Common.{Option, Some, None}
use Rattle.std.specs.Global.{Box, Vec}
use Rattle.tok_leaves.specs.declared.span.Span.{Span}
use Rattle.tok_leaves.specs.Spans.{whole_span}
use Rattle.tok_types.specs.declared.delimiter.Visible.{Visible}
use Rattle.syn_punctuated.specs.TakeLists.{list_form}
use Rattle.syn_punctuated.specs.declared.punctuated.Punctuated.{Punctuated}

abbrev pub of_parts : {T P : Type 0} → Vec (T × P) → Option (Box T) → Punctuated T P
of_parts inner last = record { inner = inner; last = last }

-- what holds of lists without a last value and with one holds of all
by_last : {T P : Type 0} (Q : Punctuated T P → Type 0)
    → ((inner : Vec (T × P)) → Q (of_parts inner None))
    → ((inner : Vec (T × P)) (b : Box T) → Q (of_parts inner (Some b)))
    → (list : Punctuated T P) → Q list
by_last {T} {P} Q without with list = go list.inner list.last where
  go : (inner : Vec (T × P)) (last : Option (Box T)) → Q (of_parts inner last)
  go inner None = without inner
  go inner (Some b) = with inner b

module _ {T A P : Type 0} (f : T → A) where
  abbrev pub map_value : T × P → A × P
  map_value pair = (f pair.0, pair.1)

  -- the values and the separators of a list, and those of the list with other values
  abbrev Both : List (T × P) → List T → List A × List P
  Both pairs more = (
    map f (map {A = T × P} (λ pair. pair.0) pairs ++ more),
    map (λ sign. sign) (map {A = T × P} (λ pair. pair.1) pairs),
  )

  abbrev pub Mapped : List (T × P) → List T → List A × List P
  Mapped pairs more = (
    map {A = A × P} (λ pair. pair.0) (map map_value pairs) ++ map f more,
    map {A = A × P} (λ pair. pair.1) (map map_value pairs),
  )

  list_mapped : (pairs : List (T × P)) (more : List T) → Mapped pairs more ≡ Both pairs more
  list_mapped [] more = refl
  list_mapped (pair ∷ pairs) more = grind (arith, list_mapped pairs more)

  -- One level of a value that holds a list, where the level has the list's values replaced: so is
  -- the form of the list. A list without a last value and one with it compute on their own.
  pub values_mapped : {F : Type 0} (make : Punctuated T P → F) (listed : List A × List P → F)
      (level : Punctuated T P → F) → ((list : Punctuated T P) → make list ≡ level list)
      → ((inner : Vec (T × P)) → level (of_parts inner None) ≡ listed (Mapped inner.items []))
      → ((inner : Vec (T × P)) (b : Box T)
      → level (of_parts inner (Some b)) ≡ listed (Mapped inner.items (b.value ∷ [])))
      → (list : Punctuated T P) → make list ≡ listed (list_form f (λ sign. sign) list)
  values_mapped make listed level made none some =
      by_last (λ list. make list ≡ listed (list_form f (λ sign. sign) list))
      (λ inner. made (of_parts inner None) ∙ none inner ∙ ap listed (list_mapped inner.items []))
      (λ inner b. made (of_parts inner (Some b)) ∙ some inner b
      ∙ ap listed (list_mapped inner.items (b.value ∷ [])))

-- A value of a type that is made level by level, with a list among its parts: of the list in one
-- level it is enough to show what this makes of it without a last value and with one, which compute
-- on their own.
pub list_formed : {T A P V L F : Type 0} (f : T → A) {roll : L → V} (form : V → F)
    (layer : Punctuated T P → L) (listed : List A × List P → F) {made : Punctuated T P → V}
    {level : L → F}
    → ((list : Punctuated T P) → roll (layer list) ≡ made list)
    → ((l : L) → form (roll l) ≡ level l)
    → ((inner : Vec (T × P))
    → level (layer (of_parts inner None)) ≡ listed (Mapped f inner.items []))
    → ((inner : Vec (T × P)) (last : Box T)
    → level (layer (of_parts inner (Some last))) ≡ listed (Mapped f inner.items (last.value ∷ [])))
    → (list : Punctuated T P) → form (made list) ≡ listed (list_form f (λ sign. sign) list)
list_formed f form layer listed {made} {level} rolls again none some list =
    values_mapped f (λ l. form (made l)) listed (λ l. level (layer l))
    (λ l. ap form (sym (rolls l)) ∙ again (layer l)) none some list

-- What a value is that is made of delimiters and a list, as this form sees it: this, of their span
-- and of what the list's values are.
pub record IsOfList {d : ℕ} {T A P V F : Type 0} (f : T → A) (form : V → F)
    (made : Visible d → Punctuated T P → V) (listed : Span → List A × List P → F) : Type 0 where
  pub is : (b : Visible d) (list : Punctuated T P)
      → form (made b list) ≡ listed (whole_span b.span) (list_form f (λ sign. sign) list)

-- A list without a last value and one with it compute on their own, so with the lemmas of the
-- value's type `search` proves the two premises.
pub of_list : {d : ℕ} {T A P V F : Type 0} {f : T → A} {form : V → F}
    {made : Visible d → Punctuated T P → V} {listed : Span → List A × List P → F}
    → ((b : Visible d) (inner : Vec (T × P)) → form (made b (of_parts inner None))
    ≡ listed (whole_span b.span) (Mapped f inner.items []))
    → ((b : Visible d) (inner : Vec (T × P)) (last : Box T)
    → form (made b (of_parts inner (Some last)))
    ≡ listed (whole_span b.span) (Mapped f inner.items (last.value ∷ [])))
    → IsOfList f form made listed
of_list {f = f} {form = form} {made = made} {listed = listed} none some = record {
  is = λ b.
      values_mapped f (λ list. form (made b list)) (listed (whole_span b.span)) _ (λ list. refl)
      (none b) (some b);
}
