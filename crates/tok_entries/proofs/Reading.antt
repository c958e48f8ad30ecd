-- Each read of entries finds what comes first among their visible trees.
use Rattle.std.proofs.Common.{◌≡◌, ℕ, ◌+◌, ◌-◌, ◌<◌, ◌⊎◌, inl, inr, Bool, true, false}
use Rattle.std.proofs.Common.{List, [], ◌∷◌, ◌++◌, length, get_or, drop, refl, ap, sym, ◌∙◌}
use Rattle.std.proofs.Common.{arith, append_assoc, length-append, length-drop, Some, None}
use Rattle.std.proofs.Math.Seq.{drop-append_seam}
use Rattle.std.proofs.lemmas.Bool.{false≢true, eqb-true, lt-ltb}
use Rattle.std.proofs.lemmas.List.{drop-drop, get_or-drop}
use Rattle.std.proofs.lemmas.Str.{encode_ascii, inside_one, len_utf8_bounds, length-encode}
use Rattle.std.specs.List.{slice_get}
use Rattle.std.specs.Prelude.{◌==◌, ◌&&◌, cond, encode_utf8, MatchOption, not, Option}
use Rattle.std.specs.Prelude.{option_map}
use Rattle.tok_lexical.specs.Ascii.{apostrophe}
use Rattle.tok_lexical.specs.declared.delimiter.Delimiter.{Delimiter}
use Rattle.tok_lexical.specs.declared.delimiter.Delimiter.TheVariants as delimiter
use Rattle.tok_leaves.specs.declared.punct.Spacing.TheVariants.{Alone, Joint}
use Rattle.tok_leaves.specs.declared.span.Span.{Span}
use Rattle.tok_leaves.specs.Leaves.{Leaf, ident, punct, literal, leaf_text}
use Rattle.tok_leaves.specs.Spans.{opening_span}
use Rattle.tok_core.specs.Erase.{erase}
use Rattle.tok_core.specs.Filled.{has_trees}
use Rattle.tok_core.specs.Forest.{Tree, leaf, group, Forest, no_trees, tree}
use Rattle.tok_core.specs.Weight.{weight}
use Rattle.tok_entries.specs.Entries.{BeginsWith, delimiter_code, edge, leaf_entry, leaf_kind}
use Rattle.tok_entries.specs.Entries.{texts, tree_entries, tree_texts}
use Rattle.tok_entries.specs.Visible.{FindsInvisible, FindsLifetime, FindsTree}
use Rattle.tok_entries.specs.Visible.{HasNoLifetime, IsLeft, IsVisible, Reads, ReadsFirst}
use Rattle.tok_entries.specs.Visible.{Shows, between, is_group_of}
use Rattle.tok_core.specs.Kinds.{any_tree, is_ident, is_literal, is_punct}
use Rattle.tok_entries.specs.Cursor.{after, front, has_apostrophe, is_joint_apostrophe, read_group}
use Rattle.tok_entries.specs.Cursor.{read_group_at, read_ident, read_leaf, read_lifetime}
use Rattle.tok_entries.specs.Cursor.{read_tree, step_over, whole}
use Rattle.tok_entries.specs.declared.entry.Entry.{Entry}
use Rattle.tok_entries.specs.declared.cursor.Step.{Step}
use Rattle.tok_entries.proofs.Fillings.{length-tree_entries}
use Rattle.tok_entries.proofs.Once.{leaf_is_small}
use Rattle.tok_entries.proofs.Showing.{texts_erased}
use Rattle.tok_entries.proofs.Leading.{Front, no_front, leaf_front, group_front, between_is}
use Rattle.tok_entries.proofs.Leading.{erase_group, front_of, get_rest, left_after, rest_after}

-- parts of a forest that begins with a tree
first_tree : Tree → Forest → Tree
first_tree other no_trees = other
first_tree other (tree t f) = t

other_trees : Forest → Forest
other_trees no_trees = no_trees
other_trees (tree t f) = f

same_first : (t u : Tree) (f g : Forest) → tree t f ≡ tree u g → t ≡ u
unfolding first_tree
same_first t u f g e = ap (first_tree t) e

same_others : (t u : Tree) (f g : Forest) → tree t f ≡ tree u g → f ≡ g
unfolding other_trees
same_others t u f g e = ap other_trees e

no_tree_first : (t : Tree) (f : Forest) → no_trees ≡ tree t f → ⊥
no_tree_first t f e = false≢true (ap has_trees e)

-- the texts of a tree and of those after it
text_first : (t : Tree) (f : Forest) (bs : List ℕ) → BeginsWith bs (texts (tree t f))
    → BeginsWith bs (tree_texts t)
text_first t f bs (more, e) = (texts f ++ more, e ∙ append_assoc (tree_texts t) (texts f) more)

texts_left : (at : ℕ) (t : Tree) (f : Forest) (bs : List ℕ)
    → BeginsWith (drop at bs) (texts (tree t f))
    → BeginsWith (drop (at + length (tree_texts t)) bs) (texts f)
texts_left at t f bs (more, e) = (
  more,
  sym (drop-drop (length (tree_texts t)) at bs)
      ∙ ap (λ l. drop (length (tree_texts t)) l)
      (e ∙ append_assoc (tree_texts t) (texts f) more)
      ∙ drop-append_seam (tree_texts t) (texts f ++ more),
)

-- the front entry
front_entry : (es more : List Entry) (e : Entry) → drop (front es) es ≡ e ∷ more
    → slice_get es (front es) ≡ Some e
front_entry es more e cut =
    get_rest (front es) 0 (front es) es e (omega arith) (ap (λ l. slice_get l 0) cut)

-- what a read of a leaf finds
data LeafRead (test : Entry → Bool) : ℕ → List Entry → Forest → Option Step → Type 0 where
  no_leaf : (at : ℕ) (es : List Entry) (f : Forest)
      → ((l : Leaf) (g : Forest) → f ≡ tree (leaf l) g → test (leaf_entry at l) ≡ true → ⊥)
      → LeafRead test at es f None
  a_leaf : (at : ℕ) (es : List Entry) (l : Leaf) (more : List Entry) (g : Forest)
      → test (leaf_entry at l) ≡ true → drop (front es) es ≡ leaf_entry at l ∷ more
      → Shows (at + length (leaf_text l)) more g
      → LeafRead test at es (tree (leaf l) g) (Some (step_over es (front es) (front es)))

module _ (test : Entry → Bool)
    (no_edge : (d : Delimiter) (span : Span) (at n : ℕ) → test (edge 3 d span at n) ≡ false) where
  leaf_read : {at : ℕ} {es : List Entry} {f : Forest} → Front at es f
      → LeafRead test at es f (read_leaf test es)
  leaf_read (no_front at es h) =
      rw (h, read_leaf) (no_leaf at es no_trees (λ l g e t. no_tree_first (leaf l) g e))
  leaf_read (leaf_front at es l more f cut h) =
      rw (front_entry es more (leaf_entry at l) cut, read_leaf)
      (go (test (leaf_entry at l)) refl)
    where
      go : (b : Bool) → test (leaf_entry at l) ≡ b → LeafRead test at es (tree (leaf l) f)
          (cond b (Some (step_over es (front es) (front es))) None)
      go true e = a_leaf at es l more f e cut h
      go false e =
          no_leaf at es (tree (leaf l) f) (λ m g same t.
          let one : l ≡ m = cc in absurd (cc))
  leaf_read (group_front at es d inside span more f v cut h) =
      let e = edge 3 d (opening_span span) at (weight inside + 1) in
      rw (front_entry es _ e cut, no_edge d (opening_span span) at (weight inside + 1), read_leaf)
      (no_leaf at es (tree (group d (erase inside) span) f) (λ l g e t. absurd (cc)))

  -- a test of trees and one of entries that are alike
  module _ (wanted : Tree → Bool) (bs : List ℕ)
      (alike : (at : ℕ) (l : Leaf) → BeginsWith (drop at bs) (leaf_text l)
      → test (leaf_entry at l) ≡ wanted (leaf l))
      (no_group : (d : Delimiter) (f : Forest) (span : Span) → wanted (group d f span) ≡ false)
    where
      found : {at : ℕ} {es : List Entry} {f : Forest} {r : Option Step}
          → BeginsWith (drop at bs) (texts f) → LeafRead test at es f r → Reads wanted at bs es f r
      found begin (no_leaf at es f none) = λ t rest e fits. by_kind t rest e fits where
        by_kind : (t : Tree) (rest : Forest) → f ≡ tree t rest → wanted t ≡ true → ⊥
        by_kind (leaf l) rest e fits =
            none l rest e
            (alike at l (text_first (leaf l) rest (drop at bs) (rw e at begin)) ∙ fits)
        by_kind (group d g span) rest e fits = false≢true (sym (no_group d g span) ∙ fits)
      found begin (a_leaf at es l more g fits cut h) = (
        leaf l,
        g,
        refl,
        sym (alike at l (text_first (leaf l) g (drop at bs) begin)) ∙ fits,
        (
          leaf l,
          refl,
          between_is (front es) es (leaf_entry at l ∷ []) more cut (front es) refl,
        ),
        (
          left_after (at + length (leaf_text l)) (front es) (front es) es more g
              (rest_after (front es) es (leaf_entry at l ∷ []) more cut (front es + 1) refl) h,
          texts_left at (leaf l) g bs begin,
        ),
      )

      pub reads_leaf : (at : ℕ) (es : List Entry) (f : Forest) → IsLeft at bs es f
          → Reads wanted at bs es f (read_leaf test es)
      reads_leaf at es f (h, begin) = found begin (leaf_read (front_of h))

-- the text of a punct begins with an apostrophe if it is one
quote_is : (at : ℕ) (bs rest : List ℕ) (c : ℕ) → drop at bs ≡ encode_utf8 c ++ rest
    → (get_or bs at 0 == 39) ≡ (c == 39)
quote_is at bs rest c e = by_char (c == 39) refl where
  first : get_or bs at 0 ≡ get_or (encode_utf8 c ++ rest) 0 0
  first =
      ap (λ k. get_or bs k 0) (omega arith) ∙ sym (get_or-drop at bs 0 0)
      ∙ ap (λ l. get_or l 0 0) e

  by_byte : (b : Bool) → (get_or bs at 0 == 39) ≡ b → (c == 39) ≡ false → b ≡ false
  by_byte false h no_quote = refl
  by_byte true h no_quote =
      let is : get_or (encode_utf8 c ++ rest) 0 0 ≡ 39 = sym first ∙ eqb-true _ 39 h in
      let long : 0 < length (encode_utf8 c) =
      omega (arith, length-encode c, (len_utf8_bounds c).0) in
      let same : c ≡ 39 =
      inside_one c rest (encode_utf8 c ++ rest) 0 refl long (omega (arith, is)) ∙ is in
      sym (sym no_quote ∙ ap (λ x. x == 39) same)

  by_char : (b : Bool) → (c == 39) ≡ b → (get_or bs at 0 == 39) ≡ b
  by_char true h =
      let same : c ≡ 39 = eqb-true c 39 h in
      ap (λ x. x == 39)
      (first ∙ ap (λ x. get_or (encode_utf8 x ++ rest) 0 0) same
      ∙ ap (λ l. get_or (l ++ rest) 0 0) (encode_ascii 39 (omega arith)))
  by_char false h = by_byte (get_or bs at 0 == 39) refl h

ident_alike : (at : ℕ) (l : Leaf) → (leaf_kind l == 0) ≡ is_ident (leaf l)
ident_alike at (ident text span) = refl
ident_alike at (punct c spacing span) = refl
ident_alike at (literal text span) = refl

literal_alike : (at : ℕ) (l : Leaf) → (leaf_kind l == 2) ≡ is_literal (leaf l)
literal_alike at (ident text span) = refl
literal_alike at (punct c spacing span) = refl
literal_alike at (literal text span) = refl

punct_alike : (bs : List ℕ) (at : ℕ) (l : Leaf) → BeginsWith (drop at bs) (leaf_text l)
    → (leaf_kind l == 1 && not (get_or bs at 0 == 39)) ≡ is_punct (leaf l)
punct_alike bs at (ident text span) begin = refl
punct_alike bs at (punct c spacing span) (rest, e) = ap not (quote_is at bs rest c e)
punct_alike bs at (literal text span) begin = refl

-- an identifier after a joint apostrophe
module _ (bs : List ℕ) (at : ℕ) (es more : List Entry) (c : ℕ) (quote : Span) (same : c ≡ 39)
    (cut : drop (front es) es ≡ leaf_entry at (punct c Joint quote) ∷ more) where
  one : length (encode_utf8 c) ≡ 1
  one =
      ap (λ x. length (encode_utf8 x)) same ∙ ap (λ l. length l) (encode_ascii 39 (omega arith))

  rest : drop (front es + 1) es ≡ more
  rest =
      rest_after (front es) es (leaf_entry at (punct c Joint quote) ∷ []) more cut
      (front es + 1) refl

  named : {k : ℕ} {l : List Entry} {g : Forest} {r : Option Step}
      → k ≡ at + length (encode_utf8 c) → l ≡ more
      → BeginsWith (drop at bs) (texts (tree (leaf (punct c Joint quote)) g))
      → LeafRead (λ e. e.kind == 0) k l g r
      → MatchOption (option_map (after (front es) (front es + 1)) r)
      (HasNoLifetime (tree (leaf (punct c Joint quote)) g))
      (FindsLifetime at bs es (tree (leaf (punct c Joint quote)) g))
  named at_is l_is begin (no_leaf k l f none) = λ other name span later e.
      none (ident name span) later (same_others _ _ f _ e) refl
  named at_is l_is begin (a_leaf k l (punct d spacing span) later h fits cut_name left) =
      absurd (false≢true fits)
  named at_is l_is begin (a_leaf k l (literal text span) later h fits cut_name left) =
      absurd (false≢true fits)
  named at_is l_is begin (a_leaf k l (ident name span) later h fits cut_name left) =
      let m = front l in
      let next = (step_over l m m).next in
      let here : k + length name ≡ at + 1 + length name = omega (arith, one, at_is) in
      let shows : Shows (k + length name) (drop next l) h =
      left_after (k + length name) m m l later h
      (rest_after m l (leaf_entry k (ident name span) ∷ []) later cut_name (m + 1) refl)
      left in
      let over : drop next l ≡ drop ((front es + 1) + next) es =
      ap (λ x. drop next x) (l_is ∙ sym rest) ∙ drop-drop next (front es + 1) es in (
        quote,
        name,
        span,
        h,
        ap (λ x. tree (leaf (punct x Joint quote)) (tree (leaf (ident name span)) h)) same,
        front_entry es more (leaf_entry at (punct c Joint quote)) cut
            ∙ ap (λ x. Some (leaf_entry at (punct x Joint quote))) same,
        get_rest (front es + 1) m ((front es + 1) + m) es
            (leaf_entry k (ident name span)) refl
            (ap (λ x. slice_get x m) (rest ∙ sym l_is)
            ∙ front_entry l later (leaf_entry k (ident name span)) cut_name)
            ∙ ap (λ n. Some (leaf_entry n (ident name span))) (at_is ∙ ap (λ n. at + n) one),
        (
          rw (here, over) at shows,
          rw (← here) (texts_left k (leaf (ident name span)) h bs
              (rw at_is (texts_left at (leaf (punct c Joint quote))
              (tree (leaf (ident name span)) h) bs begin))),
        ),
      )

abbrev lifetime_from : List Entry → Option Step → Option Step
lifetime_from es r =
    elim r [
      | Some s ↦ option_map (after s.at (s.at + 1)) (read_ident (drop (s.at + 1) es))
      | None ↦ None
    ]

module _ (bs : List ℕ) where
  quoted : {at : ℕ} {es : List Entry} {f : Forest} {r : Option Step}
      → BeginsWith (drop at bs) (texts f) → LeafRead (is_joint_apostrophe bs) at es f r
      → MatchOption (lifetime_from es r) (HasNoLifetime f) (FindsLifetime at bs es f)
  quoted begin (no_leaf at es f none) = λ quote name span rest e.
      let begun : BeginsWith (drop at bs) (encode_utf8 39) =
      text_first (leaf (punct apostrophe Joint quote)) (tree (leaf (ident name span)) rest)
      (drop at bs) (rw e at begin) in
      none (punct apostrophe Joint quote) (tree (leaf (ident name span)) rest) e
      (quote_is at bs begun.0 39 begun.1)
  quoted begin (a_leaf at es (ident text span) more g fits cut h) = absurd (false≢true fits)
  quoted begin (a_leaf at es (literal text span) more g fits cut h) = absurd (false≢true fits)
  quoted begin (a_leaf at es (punct c Alone span) more g fits cut h) = absurd (false≢true fits)
  quoted begin (a_leaf at es (punct c Joint span) more g fits cut h) =
      let begun : BeginsWith (drop at bs) (encode_utf8 c) =
      text_first (leaf (punct c Joint span)) g (drop at bs) begin in
      let same : c ≡ 39 = eqb-true c 39 (sym (quote_is at bs begun.0 c begun.1) ∙ fits) in
      rw (rest bs at es more c span same cut)
      (named bs at es more c span same cut refl refl begin
      (leaf_read (λ e. e.kind == 0) (λ d s k n. refl) (front_of h)))

  pub reads_lifetime : (at : ℕ) (es : List Entry) (f : Forest) → IsLeft at bs es f
      → MatchOption (read_lifetime bs es) (HasNoLifetime f) (FindsLifetime at bs es f)
  reads_lifetime at es f (h, begin) =
      quoted begin (leaf_read (is_joint_apostrophe bs) (λ d s k n. refl) (front_of h))

-- a group whose opening is the entry of this number
module _ (at n : ℕ) (es : List Entry) (d : Delimiter) (inside : Forest) (span : Span)
    (more : List Entry) (cut : drop n es ≡ tree_entries at (group d inside span) ++ more) where
  size : length (tree_entries at (group d inside span)) ≡ 2 + weight inside
  size = length-tree_entries at (group d inside span)

  pub whole_is : whole es n (weight inside + 1)
      ≡ Some (step_over es n (n + (weight inside + 1)))
  whole_is =
      let long : length es - n ≡ (2 + weight inside) + length more =
      omega (
        arith,
        length-drop n es,
        ap (λ l. length l) cut,
        length-append (tree_entries at (group d inside span)) more,
        size,
      ) in
      rw (
        lt-ltb 0 (weight inside + 1) (omega arith),
        lt-ltb (weight inside + 1) (length es - n) (omega (arith, long)),
      )

  pub group_between : between (step_over es n (n + (weight inside + 1))) es
      ≡ tree_entries at (group d inside span)
  group_between =
      between_is n es (tree_entries at (group d inside span)) more cut
      (n + (weight inside + 1)) (omega (arith, size))

  pub group_left : (f : Forest) → Shows (at + length (texts inside)) more f
      → Shows (at + length (texts inside))
      (drop (step_over es n (n + (weight inside + 1))).next es) f
  group_left f h =
      left_after (at + length (texts inside)) n (n + (weight inside + 1)) es more f
      (rest_after n es (tree_entries at (group d inside span)) more cut
      (n + (weight inside + 1) + 1) (omega (arith, size))) h

  pub group_found : (wanted : Tree → Bool) (bs : List ℕ) (f : Forest) → IsVisible d
      → wanted (group d (erase inside) span) ≡ true
      → BeginsWith (drop at bs) (texts (tree (group d (erase inside) span) f))
      → Shows (at + length (texts inside)) more f
      → FindsTree wanted at bs es (tree (group d (erase inside) span) f)
      (step_over es n (n + (weight inside + 1)))
  group_found wanted bs f v fits begin h = (
    group d (erase inside) span,
    f,
    refl,
    fits,
    (group d inside span, erase_group d inside span no_trees v, group_between),
    (
      rw (texts_erased inside) (group_left f h),
      texts_left at (group d (erase inside) span) f bs begin,
    ),
  )

leaf_is_no_opening : (l : Leaf) → (leaf_kind l == 3) ≡ false
leaf_is_no_opening (ident text span) = refl
leaf_is_no_opening (punct c spacing span) = refl
leaf_is_no_opening (literal text span) = refl

read_visible : (d : Delimiter) (es : List Entry) → IsVisible d
    → read_group d es ≡ read_group_at d es (front es)
read_visible delimiter.None es v = absurd (v refl)
read_visible delimiter.Parenthesis es v = refl
read_visible delimiter.Brace es v = refl
read_visible delimiter.Bracket es v = refl

grouped : {at : ℕ} {es : List Entry} {f : Forest} (d : Delimiter) (bs : List ℕ)
    → BeginsWith (drop at bs) (texts f) → Front at es f
    → Reads (is_group_of d) at bs es f (read_group_at d es (front es))
grouped d bs begin (no_front at es h) =
    rw (h, read_group_at) (λ t rest e fits. no_tree_first t rest e)
grouped d bs begin (leaf_front at es l more f cut h) =
    rw (front_entry es more (leaf_entry at l) cut, leaf_is_no_opening l, read_group_at)
    (λ t rest e fits. false≢true
    (ap (is_group_of d) (same_first (leaf l) t f rest e) ∙ fits))
grouped d bs begin (group_front at es g inside span more f v cut h) =
    go (delimiter_code g == delimiter_code d) refl
  where
    first : slice_get es (front es) ≡ Some (edge 3 g (opening_span span) at (weight inside + 1))
    first = front_entry es _ (edge 3 g (opening_span span) at (weight inside + 1)) cut

    go : (b : Bool) → (delimiter_code g == delimiter_code d) ≡ b
        → Reads (is_group_of d) at bs es (tree (group g (erase inside) span) f)
        (read_group_at d es (front es))
    go true fits =
        rw (first, fits, whole_is at (front es) es g inside span more cut, read_group_at)
        (group_found at (front es) es g inside span more cut (is_group_of d) bs f v fits begin h)
    go false other =
        rw (first, other, read_group_at) (λ t rest e fits. false≢true
        (sym other ∙ ap (is_group_of d) (same_first _ t f rest e) ∙ fits))

any_read : {at : ℕ} {es : List Entry} {f : Forest} (bs : List ℕ)
    → BeginsWith (drop at bs) (texts f) → Front at es f
    → MatchOption (read_tree es) (f ≡ no_trees) (FindsTree any_tree at bs es f)
any_read bs begin (no_front at es h) =
    rw (h, read_tree, MatchOption) refl
any_read bs begin (leaf_front at es l more f cut h) =
    rw (
      front_entry es more (leaf_entry at l) cut,
      lt-ltb (leaf_kind l) 3 (leaf_is_small l),
      read_tree,
      MatchOption,
    ) (
      leaf l,
      f,
      refl,
      refl,
      (
        leaf l,
        refl,
        between_is (front es) es (leaf_entry at l ∷ []) more cut (front es) refl,
      ),
      (
        left_after (at + length (leaf_text l)) (front es) (front es) es more f
            (rest_after (front es) es (leaf_entry at l ∷ []) more cut (front es + 1) refl) h,
        texts_left at (leaf l) f bs begin,
      ),
    )
any_read bs begin (group_front at es d inside span more f v cut h) =
    rw (
      front_entry es _ (edge 3 d (opening_span span) at (weight inside + 1)) cut,
      whole_is at (front es) es d inside span more cut,
      read_tree,
      MatchOption,
    )
    (group_found at (front es) es d inside span more cut any_tree bs f v refl begin h)

skipped : (at : ℕ) (bs : List ℕ) (es : List Entry) (f : Forest) (r : Option Step)
    → MatchOption r (HasNoLifetime f) (FindsLifetime at bs es f)
    → MatchOption (read_tree es) (f ≡ no_trees) (FindsTree any_tree at bs es f)
    → MatchOption (elim r [ Some s ↦ Some s | None ↦ read_tree es ]) (f ≡ no_trees)
    (λ s. FindsLifetime at bs es f s ⊎ (HasNoLifetime f × FindsTree any_tree at bs es f s))
skipped at bs es f (Some s) found others = inl found
skipped at bs es f None no_lifetime others = go (read_tree es) others where
  go : (r : Option Step) → MatchOption r (f ≡ no_trees) (FindsTree any_tree at bs es f)
      → MatchOption r (f ≡ no_trees)
      (λ s. FindsLifetime at bs es f s ⊎ (HasNoLifetime f × FindsTree any_tree at bs es f s))
  go (Some s) found = inr (no_lifetime, found)
  go None none = none

pub reads_first : (at : ℕ) (bs : List ℕ) (es : List Entry) (f : Forest) → IsLeft at bs es f
    → ReadsFirst at bs es f
reads_first at bs es f left = record {
  ident =
      reads_leaf (λ e. e.kind == 0) (λ d s k n. refl) is_ident bs
      (λ k l begin. ident_alike k l) (λ d g s. refl) at es f left;
  punct =
      reads_leaf (λ e. e.kind == 1 && not (has_apostrophe bs e)) (λ d s k n. refl) is_punct bs
      (λ k l begin. punct_alike bs k l begin) (λ d g s. refl) at es f left;
  literal =
      reads_leaf (λ e. e.kind == 2) (λ d s k n. refl) is_literal bs
      (λ k l begin. literal_alike k l) (λ d g s. refl) at es f left;
  group = λ d v.
      rw (read_visible d es v) (grouped d bs left.1 (front_of left.0));
  lifetime = reads_lifetime bs at es f left;
  skip =
      skipped at bs es f (read_lifetime bs es) (reads_lifetime bs at es f left)
      (any_read bs left.1 (front_of left.0));
}

pub finds_invisible : (at : ℕ) (bs : List ℕ) (inside : Forest) (span : Span) (more : List Entry)
    (f : Forest) → IsLeft (at + length (texts inside)) bs more f
    → FindsInvisible at bs inside span more f
finds_invisible at bs inside span more f (h, begin) =
    let es = tree_entries at (group delimiter.None inside span) ++ more in (
      step_over es 0 (0 + (weight inside + 1)),
      whole_is at 0 es delimiter.None inside span more refl,
      group_between at 0 es delimiter.None inside span more refl,
      (group_left at 0 es delimiter.None inside span more refl f h, begin),
    )
