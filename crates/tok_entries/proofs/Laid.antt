-- The levels that are laid out in entries and texts are read back.
use Rattle.std.proofs.Common.{◌≡◌, ℕ, ◌+◌, ◌-◌, ◌<◌, Bool, true, false, List, [], ◌∷◌, ◌++◌, length}
use Rattle.std.proofs.Common.{refl, ap, sym, ◌∙◌, subst, arith, append_assoc, length-append, set}
use Rattle.std.proofs.Common.{take, drop, map, eqb-true}
use Rattle.std.proofs.lemmas.Bool.{false≢true, ltb-true, and_from}
use Rattle.std.proofs.lemmas.List.{append-nil}
use Rattle.std.proofs.lemmas.Str.{encode_ascii}
use Rattle.std.proofs.Math.Seq.{drop-append_seam, take-append_seam}
use Rattle.std.specs.Prelude.{cond, nat_lt, slice_index_or}
use Rattle.tok_lexical.specs.declared.delimiter.Delimiter.{Delimiter}
use Rattle.tok_leaves.specs.declared.punct.Spacing.{Spacing}
use Rattle.tok_leaves.specs.declared.punct.Spacing.TheVariants.{Alone, Joint}
use Rattle.tok_leaves.specs.declared.span.Origin.{Origin}
use Rattle.tok_leaves.specs.declared.span.Origin.TheVariants.{CallSite, Source}
use Rattle.tok_leaves.specs.declared.span.Span.{Span}
use Rattle.tok_leaves.specs.Leaves.{Leaf, ident, punct, literal, leaf_text}
use Rattle.tok_leaves.specs.Spans.{source, opening_span, closing_span}
use Rattle.tok_core.specs.Building.{Levels, add_leaf, opened, Closes, but_last, last_of, places}
use Rattle.tok_core.specs.Code.{delimiter_back}
use Rattle.tok_core.specs.Forest.{Tree, leaf, group, Forest, no_trees, tree, concat}
use Rattle.tok_core.specs.Weight.{weight}
use Rattle.tok_core.proofs.Facts.{concat-none}
use Rattle.tok_core.proofs.Levels.{ends_in_last, levels_of-put, one_end}
use Rattle.tok_pruned.proofs.Pruning.{first_of, second_of}
use Rattle.tok_entries.specs.declared.entry.Entry.{Entry}
use Rattle.tok_entries.specs.Entries.{edge, end_byte, entries, first_byte}
use Rattle.tok_entries.specs.Entries.{leaf_entry, spacing_number, texts, tree_entries, tree_texts}
use Rattle.tok_entries.specs.Private.Laid.{all_fit, fits, fits_leaf, fits_tree, is_in_source, IsLaid}
use Rattle.tok_entries.specs.Private.Laid.{laid, laid_texts, leaf_of, levels_in, spacing_of}
use Rattle.tok_entries.specs.Private.Laid.{stack_entries, stack_entry, stack_tree}
use Rattle.tok_entries.specs.Private.Laid.{unclosed}
use Rattle.tok_entries.proofs.Fillings.{fill_lays, length-entries}
use Rattle.tok_entries.proofs.Steps.{entries_on, texts_on}

-- the text of a leaf is between what is before and after it
taken_text : (bs before text after : List ℕ) → bs ≡ before ++ (text ++ after)
    → take ((length before + length text) - length before) (drop (length before) bs) ≡ text
taken_text bs before text after e =
    let n : (length before + length text) - length before ≡ length text = omega arith in
    rw (e, drop-append_seam, n) (take-append_seam text after)

in_source_back : (o : Origin) → is_in_source (record { origin = o }) ≡ true
    → source 0 (first_byte (record { origin = o })) (end_byte (record { origin = o }))
    ≡ record { origin = o }
in_source_back CallSite h = absurd (false≢true h)
in_source_back (Source n a b) h = cc (eqb-true n 0 h)

opens_at : (c : Bool) (n a x b : ℕ) → first_byte (cond c (source n a x) (source n a b)) ≡ a
opens_at true n a x b = refl
opens_at false n a x b = refl

closes_at : (c : Bool) (n a y b : ℕ) → end_byte (cond c (source n y b) (source n a b)) ≡ b
closes_at true n a y b = refl
closes_at false n a y b = refl

-- the span of a group, from its two edges
edges_back : (o : Origin) → is_in_source (record { origin = o }) ≡ true
    → source 0 (first_byte (opening_span (record { origin = o })))
    (end_byte (closing_span (record { origin = o }))) ≡ record { origin = o }
edges_back CallSite h = absurd (false≢true h)
edges_back (Source n a b) h =
    cc (
      opens_at (nat_lt a b) n a (a + 1) b,
      closes_at (nat_lt a b) n a (b - 1) b,
      eqb-true n 0 h,
    )

spacing_back : (s : Spacing) → spacing_of (spacing_number s) ≡ s
spacing_back Alone = refl
spacing_back Joint = refl

leaf_back : (bs before after : List ℕ) (l : Leaf) → fits_leaf l ≡ true
    → bs ≡ before ++ (leaf_text l ++ after) → leaf_of bs (leaf_entry (length before) l) ≡ l
leaf_back bs before after (ident text span) h e =
    let s = in_source_back span.origin (first_of (is_in_source span) true h) in
    cc (taken_text bs before text after e)
leaf_back bs before after (punct c spacing span) h e =
    let s = in_source_back span.origin (first_of (is_in_source span) (nat_lt c 128) h) in
    let small = ltb-true c 128 (second_of (is_in_source span) (nat_lt c 128) h) in
    let byte =
    taken_text bs before (leaf_text (punct c spacing span)) after e ∙ encode_ascii c small in
    rw byte (cc (spacing_back spacing))
leaf_back bs before after (literal text span) h e =
    let s = in_source_back span.origin (first_of (is_in_source span) true h) in
    cc (taken_text bs before text after e)

module _ (bs : List ℕ) where
  stack-append : (xs ys : List Entry) (s : List (Forest × ℕ))
      → stack_entries bs (xs ++ ys) s ≡ stack_entries bs xs (stack_entries bs ys s)
  stack-append [] ys s = refl
  stack-append (x ∷ xs) ys s = ap (stack_entry bs x) (stack-append xs ys s)

  stack-leaf : (n : ℕ) (l : Leaf) (s : List (Forest × ℕ))
      → stack_entry bs (leaf_entry n l) s ≡ stack_tree (leaf (leaf_of bs (leaf_entry n l))) s
  stack-leaf n (ident text span) s = refl
  stack-leaf n (punct c spacing span) s = refl
  stack-leaf n (literal text span) s = refl

  mutual
    stack-tree : (t : Tree) (before after : List ℕ) (f : Forest) (z : ℕ) (s : List (Forest × ℕ))
        → fits_tree t ≡ true → bs ≡ before ++ (tree_texts t ++ after)
        → stack_entries bs (tree_entries (length before) t) ((f, z) ∷ s) ≡ (tree t f, z) ∷ s
    stack-tree (leaf l) before after f z s h e =
        cc (stack-leaf (length before) l ((f, z) ∷ s), leaf_back bs before after l h e)
    stack-tree (group d g p) before after f z s h e =
        let at = length before in
        let closing = edge 4 d (closing_span p) (at + length (texts g)) (weight g + 1) in
        let inside : stack_entries bs (entries at g ++ closing ∷ []) ((f, z) ∷ s)
        ≡ (g, end_byte (closing_span p)) ∷ (f, z) ∷ s =
        cc (
          stack-append (entries at g) (closing ∷ []) ((f, z) ∷ s),
          stack-forest g before after no_trees (end_byte (closing_span p)) ((f, z) ∷ s)
              (first_of (fits g) (is_in_source p) h) e,
          concat-none g,
        ) in
        rw inside (cc (
          delimiter_back d,
          edges_back p.origin (second_of (fits g) (is_in_source p) h),
        ))

    stack-forest : (g : Forest) (before after : List ℕ) (f : Forest) (z : ℕ)
        (s : List (Forest × ℕ)) → fits g ≡ true → bs ≡ before ++ (texts g ++ after)
        → stack_entries bs (entries (length before) g) ((f, z) ∷ s) ≡ (concat g f, z) ∷ s
    stack-forest no_trees before after f z s h e = refl
    stack-forest (tree t g) before after f z s h e =
        let at = length before in
        let whole : bs ≡ before ++ (tree_texts t ++ (texts g ++ after)) =
        cc (append_assoc (tree_texts t) (texts g) after) in
        cc (
          stack-append (tree_entries at t) (entries (at + length (tree_texts t)) g) ((f, z) ∷ s),
          length-append before (tree_texts t),
          stack-forest g (before ++ tree_texts t) after f z s (second_of (fits_tree t) (fits g) h)
              (cc (append_assoc before (tree_texts t) (texts g ++ after))),
          stack-tree t before (texts g ++ after) (concat g f) z s
              (first_of (fits_tree t) (fits g) h) whole,
        )

  stack-laid : (s : List Forest) (f : Forest) (before : List ℕ) → all_fit s ≡ true
      → fits f ≡ true → bs ≡ before ++ (laid_texts s ++ texts f)
      → stack_entries bs
      (laid (length before) s ++ entries (length before + length (laid_texts s)) f)
      ((no_trees, 0) ∷ []) ≡ map (λ g. (g, 0)) (s ++ f ∷ [])
  stack-laid [] f before h k e =
      let n : length before + 0 ≡ length before = omega arith in
      let all = stack-forest f before [] no_trees 0 [] k (cc (append-nil (texts f))) in
      cc (concat-none f)
  stack-laid (g ∷ s) f before h k e =
      let at = length before in
      let to = at + length (texts g) in
      let n : length (before ++ texts g) ≡ to = length-append before (texts g) in
      let m : at + length (texts g ++ laid_texts s)
      ≡ length (before ++ texts g) + length (laid_texts s) =
      omega (arith, n, length-append (texts g) (laid_texts s)) in
      let rest = entries (at + length (texts g ++ laid_texts s)) f in
      let all : bs ≡ before ++ (texts g ++ (laid_texts s ++ texts f)) =
      cc (append_assoc (texts g) (laid_texts s) (texts f)) in
      cc (
        append_assoc (entries at g) (unclosed to ∷ laid to s) rest,
        stack-append (entries at g) (unclosed to ∷ (laid to s ++ rest)) ((no_trees, 0) ∷ []),
        stack-laid s f (before ++ texts g) (second_of (fits g) (all_fit s) h) k
            (cc (append_assoc before (texts g) (laid_texts s ++ texts f))),
        stack-forest g before (laid_texts s ++ texts f) no_trees 0
            (map (λ x. (x, 0)) (s ++ f ∷ [])) (first_of (fits g) (all_fit s) h) all,
        concat-none g,
      )

map_back : (s : List Forest)
    → map (λ (f : Forest × ℕ). f.0) (map (λ (g : Forest). (g, 0)) s) ≡ s
map_back [] = refl
map_back (f ∷ s) = cc (map_back s)

-- entries that are laid out so have these levels
levels_are : (es : List Entry) (bs ps : List ℕ) (s : Levels) → IsLaid es bs ps s
    → levels_in es bs ≡ s
levels_are es bs ps s (e, b, p, h) =
    let from_zero : length (laid_texts s.outer) ≡ 0 + length (laid_texts s.outer) = omega arith in
    cc (
      stack-laid bs s.outer s.inner [] (first_of (all_fit s.outer) (fits s.inner) h)
          (second_of (all_fit s.outer) (fits s.inner) h) b,
      map_back (s.outer ++ s.inner ∷ []),
      levels_of-put s.outer s.inner,
    )

pub laid_now : (es : List Entry) (bs ps : List ℕ) (s : Levels) → IsLaid es bs ps s
    → IsLaid es bs ps (levels_in es bs)
laid_now es bs ps s h = rw (levels_are es bs ps s h) h

fits_on : (f : Forest) (t : Tree) → fits f ≡ true → fits_tree t ≡ true
    → fits (concat f (tree t no_trees)) ≡ true
fits_on no_trees t h k = and_from (fits_tree t) true k refl
fits_on (tree u f) t h k =
    and_from (fits_tree u) (fits (concat f (tree t no_trees)))
    (first_of (fits_tree u) (fits f) h)
    (fits_on f t (second_of (fits_tree u) (fits f) h) k)

-- a tree goes to the end of the innermost level
tree_laid : (es fs : List Entry) (bs cs ps : List ℕ) (outer : List Forest) (f : Forest) (t : Tree)
    → all_fit outer ≡ true → fits f ≡ true → fits_tree t ≡ true → ps ≡ places 0 outer
    → es ≡ laid 0 outer ++ entries (length (laid_texts outer)) f
    → fs ≡ es ++ tree_entries (length (laid_texts outer) + length (texts f)) t
    → bs ≡ laid_texts outer ++ texts f → cs ≡ bs ++ tree_texts t
    → IsLaid fs cs ps (record { outer = outer; inner = concat f (tree t no_trees) })
tree_laid es fs bs cs ps outer f t h k l p e y b z =
    let at = length (laid_texts outer) in (
      cc (
        append_assoc (laid 0 outer) (entries at f) (tree_entries (at + length (texts f)) t),
        entries_on at f t,
      ),
      cc (append_assoc (laid_texts outer) (texts f) (tree_texts t), texts_on f t),
      p,
      and_from (all_fit outer) (fits (concat f (tree t no_trees))) h (fits_on f t k l),
    )

leaf_laid : (es fs : List Entry) (bs cs ps : List ℕ) (s : Levels) (l : Leaf) → IsLaid es bs ps s
    → fits_leaf l ≡ true → fs ≡ es ++ leaf_entry (length bs) l ∷ [] → cs ≡ bs ++ leaf_text l
    → IsLaid fs cs ps (add_leaf l s)
leaf_laid es fs bs cs ps s l (e, b, p, h) k y z =
    let n : length bs ≡ length (laid_texts s.outer) + length (texts s.inner) =
    cc (length-append (laid_texts s.outer) (texts s.inner)) in
    tree_laid es fs bs cs ps s.outer s.inner (leaf l)
    (first_of (all_fit s.outer) (fits s.inner) h) (second_of (all_fit s.outer) (fits s.inner) h)
    k p e (cc) b z

-- the same, of the levels that are in the entries
module _ (es fs : List Entry) (bs cs ps : List ℕ) (l : Leaf)
    (h : IsLaid es bs ps (levels_in es bs)) (k : fits_leaf l ≡ true)
    (y : fs ≡ es ++ leaf_entry (length bs) l ∷ []) (z : cs ≡ bs ++ leaf_text l) where
  now : IsLaid fs cs ps (add_leaf l (levels_in es bs))
  now = leaf_laid es fs bs cs ps (levels_in es bs) l h k y z

  pub leaf_kept : IsLaid fs cs ps (levels_in fs cs)
  leaf_kept = laid_now fs cs ps (add_leaf l (levels_in es bs)) now

  pub leaf_shown : (old : Levels) → levels_in es bs ≡ old → levels_in fs cs ≡ add_leaf l old
  leaf_shown old e =
      cc (levels_are fs cs ps (add_leaf l (levels_in es bs)) now)

texts-put : (s : List Forest) (f : Forest) → laid_texts (s ++ f ∷ []) ≡ laid_texts s ++ texts f
texts-put [] f = append-nil (texts f)
texts-put (g ∷ s) f =
    cc (texts-put s f, append_assoc (texts g) (laid_texts s) (texts f))

laid-put : (at : ℕ) (s : List Forest) (f : Forest) → laid at (s ++ f ∷ [])
    ≡ (laid at s ++ entries (at + length (laid_texts s)) f)
    ++ unclosed (at + length (laid_texts s ++ texts f)) ∷ []
laid-put at [] f =
    let n : at + 0 ≡ at = omega arith in
    cc
laid-put at (g ∷ s) f =
    let to = at + length (texts g) in
    let n : to + length (laid_texts s) ≡ at + length (texts g ++ laid_texts s) =
    omega (arith, length-append (texts g) (laid_texts s)) in
    let m : to + length (laid_texts s ++ texts f)
    ≡ at + length ((texts g ++ laid_texts s) ++ texts f) =
    omega (
      arith,
      ap length (append_assoc (texts g) (laid_texts s) (texts f)),
      length-append (texts g) (laid_texts s ++ texts f),
    ) in
    let rest = entries (at + length (texts g ++ laid_texts s)) f in
    let last = unclosed (at + length ((texts g ++ laid_texts s) ++ texts f)) in
    cc (
      laid-put to s f,
      append_assoc (entries at g) (unclosed to ∷ (laid to s ++ rest)) (last ∷ []),
      append_assoc (entries at g) (unclosed to ∷ laid to s) rest,
    )

place : (n at : ℕ) (s : List Forest) (f : Forest) → places n (s ++ f ∷ [])
    ≡ places n s ++ (n + length (laid at s ++ entries (at + length (laid_texts s)) f)) ∷ []
place n at [] f = cc (length-entries (at + 0) f)
place n at (g ∷ s) f =
    let to = at + length (texts g) in
    let k = to + length (laid_texts s) in
    let m : k ≡ at + length (texts g ++ laid_texts s) =
    omega (arith, length-append (texts g) (laid_texts s)) in
    let l : n + weight g + 1 + length (laid to s ++ entries k f)
    ≡ n + length ((entries at g ++ unclosed to ∷ laid to s) ++ entries k f) =
    omega (
      arith,
      ap length (append_assoc (entries at g) (unclosed to ∷ laid to s) (entries k f)),
      length-append (entries at g) (unclosed to ∷ (laid to s ++ entries k f)),
      length-entries at g,
    ) in
    cc (place (n + weight g + 1) to s f)

-- the same from the front on
laid_first : (s : List Forest) (f : Forest) → laid 0 (s ++ f ∷ [])
    ≡ (laid 0 s ++ entries (length (laid_texts s)) f)
    ++ unclosed (length (laid_texts s ++ texts f)) ∷ []
laid_first s f =
    let n : 0 + length (laid_texts s) ≡ length (laid_texts s) = omega arith in
    let m : 0 + length (laid_texts s ++ texts f) ≡ length (laid_texts s ++ texts f) = omega arith in
    cc (laid-put 0 s f)

first_place : (s : List Forest) (f : Forest) → places 0 (s ++ f ∷ [])
    ≡ places 0 s ++ length (laid 0 s ++ entries (length (laid_texts s)) f) ∷ []
first_place s f =
    let n : 0 + length (laid_texts s) ≡ length (laid_texts s) = omega arith in
    let m : 0 + length (laid 0 s ++ entries (length (laid_texts s)) f)
    ≡ length (laid 0 s ++ entries (length (laid_texts s)) f) =
    omega arith in
    cc (place 0 0 s f)

all_fit-put : (s : List Forest) (f : Forest) → all_fit s ≡ true → fits f ≡ true
    → all_fit (s ++ f ∷ []) ≡ true
all_fit-put [] f h k = and_from (fits f) true k refl
all_fit-put (g ∷ s) f h k =
    and_from (fits g) (all_fit (s ++ f ∷ [])) (first_of (fits g) (all_fit s) h)
    (all_fit-put s f (second_of (fits g) (all_fit s) h) k)

open_laid : (es fs : List Entry) (bs ps qs : List ℕ) (s : Levels) → IsLaid es bs ps s
    → fs ≡ es ++ unclosed (length bs) ∷ [] → qs ≡ ps ++ length es ∷ [] → IsLaid fs bs qs (opened s)
open_laid es fs bs ps qs s (e, b, p, h) y q = (
  cc (laid_first s.outer s.inner, append-nil (laid 0 (s.outer ++ s.inner ∷ []))),
  cc (texts-put s.outer s.inner, append-nil (laid_texts (s.outer ++ s.inner ∷ []))),
  cc (first_place s.outer s.inner),
  and_from (all_fit (s.outer ++ s.inner ∷ [])) true
      (all_fit-put s.outer s.inner (first_of (all_fit s.outer) (fits s.inner) h)
      (second_of (all_fit s.outer) (fits s.inner) h)) refl,
)

module _ (es fs : List Entry) (bs ps qs : List ℕ) (h : IsLaid es bs ps (levels_in es bs))
    (y : fs ≡ es ++ unclosed (length bs) ∷ []) (q : qs ≡ ps ++ length es ∷ []) where
  pub open_kept : IsLaid fs bs qs (levels_in fs bs)
  open_kept =
      laid_now fs bs qs (opened (levels_in es bs))
      (open_laid es fs bs ps qs (levels_in es bs) h y q)

  pub open_shown : (old : Levels) → levels_in es bs ≡ old → levels_in fs bs ≡ opened old
  open_shown old e =
      cc (levels_are fs bs qs (opened (levels_in es bs))
      (open_laid es fs bs ps qs (levels_in es bs) h y q))

all_fit-but_last : (f : Forest) (s : List Forest) → all_fit (f ∷ s) ≡ true
    → (all_fit (but_last f s) ≡ true) × (fits (last_of f s) ≡ true)
all_fit-but_last f [] h = (refl, first_of (fits f) true h)
all_fit-but_last f (g ∷ s) h =
    let (a, b) = all_fit-but_last g s (second_of (fits f) (all_fit (g ∷ s)) h) in
    (and_from (fits f) (all_fit (but_last g s)) (first_of (fits f) (all_fit (g ∷ s)) h) a, b)

-- Where a level is left, its group's place is the last one, and it is in the entries.
pub record Left (es : List Entry) (bs ps : List ℕ) (n : ℕ) (s : Levels) : Type 0 where
  pub outer : List Forest
  pub before : Forest
  pub is : s.outer ≡ outer ++ before ∷ []
  pub place : n ≡ length (laid 0 outer ++ entries (length (laid_texts outer)) before)
  pub places : ps ≡ places 0 outer
  pub entries : es
      ≡ ((laid 0 outer ++ entries (length (laid_texts outer)) before)
      ++ unclosed (length (laid_texts outer ++ texts before)) ∷ [])
      ++ entries (length (laid_texts outer ++ texts before)) s.inner
  pub texts : bs ≡ (laid_texts outer ++ texts before) ++ texts s.inner
  pub fit : (all_fit outer ≡ true) × (fits before ≡ true) × (fits s.inner ≡ true)

pub leaves_level : (es : List Entry) (bs os ps : List ℕ) (n : ℕ) (s : Levels) → IsLaid es bs os s
    → 0 < length s.outer → os ≡ ps ++ n ∷ [] → Left es bs ps n s
leaves_level es bs os ps n s (e, b, p, h) some o = go s.outer refl some
  where
    go : (t : List Forest) → s.outer ≡ t → 0 < length t → Left es bs ps n s
    go [] is some = absurd (omega (arith, some))
    go (f ∷ t) is some =
        let around = but_last f t in
        let last = last_of f t in
        let split = is ∙ ends_in_last f t in
        let ends = one_end ps (places 0 around) n
        (length (laid 0 around ++ entries (length (laid_texts around)) last))
        (cc (first_place around last)) in
        let whole : laid_texts s.outer ≡ laid_texts around ++ texts last =
        cc (texts-put around last) in
        let parts = all_fit-but_last f t
        (ap all_fit (sym is) ∙ first_of (all_fit s.outer) (fits s.inner) h) in
        record {
          outer = around;
          before = last;
          is = split;
          place = ends.1;
          places = ends.0;
          entries = cc (laid_first around last);
          texts = cc;
          fit = (parts.0, parts.1, second_of (all_fit s.outer) (fits s.inner) h);
        }

-- the place is one of the entries
pub left_before : (es : List Entry) (bs ps : List ℕ) (n : ℕ) (s : Levels) → Left es bs ps n s
    → n < length es
left_before es bs ps n s h =
    let x = laid 0 h.outer ++ entries (length (laid_texts h.outer)) h.before in
    let m = length (laid_texts h.outer ++ texts h.before) in
    omega (
      arith,
      h.place,
      ap length h.entries,
      length-append (x ++ unclosed m ∷ []) (entries m s.inner),
      length-append x (unclosed m ∷ []),
    )

at_seam : (xs ys : List Entry) (y d : Entry) (n : ℕ) → n ≡ length xs
    → slice_index_or (xs ++ y ∷ ys) n d ≡ y
at_seam xs ys y d n e = rw e (seam xs)
  where
    seam : (ws : List Entry) → slice_index_or (ws ++ y ∷ ys) (length ws) d ≡ y
    seam [] = refl
    seam (w ∷ ws) = seam ws

-- the entry at the place says where the texts of the group begin
pub begins_at : (es : List Entry) (bs ps : List ℕ) (n : ℕ) (s : Levels) (z : Entry)
    (h : Left es bs ps n s)
    → (slice_index_or es n z).text_start ≡ length (laid_texts h.outer ++ texts h.before)
begins_at es bs ps n s z h =
    let x = laid 0 h.outer ++ entries (length (laid_texts h.outer)) h.before in
    let m = length (laid_texts h.outer ++ texts h.before) in
    rw (h.entries, append_assoc, at_seam x (entries m s.inner) (unclosed m) z n h.place)

module _ (es fs : List Entry) (bs ps : List ℕ) (n k begin to : ℕ) (s : Levels) (d : Delimiter)
    (p o c : Span) (first last default : Entry) (h : Left es bs ps n s)
    (inside : is_in_source p ≡ true) (q : k ≡ length es)
    (b : begin ≡ (slice_index_or es n default).text_start) (r : to ≡ length bs)
    (ec : c ≡ closing_span p) (ez : last ≡ edge 4 d c to (k - n)) (y : fs ≡ es ++ last ∷ [])
    (eo : o ≡ opening_span p) (ef : first ≡ edge 3 d o begin (k - n)) where
  abbrev at : ℕ
  at = length (laid_texts h.outer ++ texts h.before)

  closed : IsLaid (set fs n first) bs ps
      (record { outer = h.outer; inner = concat h.before (tree (group d s.inner p) no_trees) })
  closed =
      let x = laid 0 h.outer ++ entries (length (laid_texts h.outer)) h.before in
      let w = length-append (laid_texts h.outer) (texts h.before) in
      let ends : to ≡ at + length (texts s.inner) =
      r ∙ ap length h.texts ∙ length-append (laid_texts h.outer ++ texts h.before) (texts s.inner)
      in
      let filled =
      fill_lays x (x ++ unclosed at ∷ []) es fs (unclosed at) first last d s.inner p o c
      (group d s.inner p) at begin to n k (b ∙ begins_at es bs ps n s default h) refl h.place
      h.entries q ends ec ez y eo ef refl in
      tree_laid x (set fs n first) (laid_texts h.outer ++ texts h.before) bs ps h.outer h.before
      (group d s.inner p) h.fit.0 h.fit.1
      (and_from (fits s.inner) (is_in_source p) h.fit.2 inside) h.places refl
      (filled ∙ ap (λ m. x ++ tree_entries m (group d s.inner p)) w) refl h.texts

  pub close_kept : IsLaid (set fs n first) bs ps (levels_in (set fs n first) bs)
  close_kept = laid_now (set fs n first) bs ps
      (record { outer = h.outer; inner = concat h.before (tree (group d s.inner p) no_trees) })
      closed

  pub close_shown : (old : Levels) → s ≡ old → Closes d p old (levels_in (set fs n first) bs)
  close_shown old same =
      let e = levels_are (set fs n first) bs ps
      (record { outer = h.outer; inner = concat h.before (tree (group d s.inner p) no_trees) })
      closed in
      subst (λ w. Closes d p w (levels_in (set fs n first) bs)) same
      (h.before, h.is ∙ ap (λ w. w.outer ++ h.before ∷ []) (sym e), ap (λ w. w.inner) e)
