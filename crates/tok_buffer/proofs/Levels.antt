-- The entries of levels that are open.
use Rattle.std.proofs.Common.{◌≡◌, ℕ, ◌+◌, ◌-◌, ◌<◌, List, [], ◌∷◌, ◌++◌, length, set, refl}
use Rattle.std.proofs.Common.{ap, ◌∙◌, arith, append_assoc, length-append}
use Rattle.tok_leaves.specs.declared.span.Span.{Span}
use Rattle.tok_leaves.specs.Leaves.{Leaf}
use Rattle.tok_lexical.specs.declared.delimiter.Delimiter.{Delimiter}
use Rattle.tok_core.specs.Building.{Levels, add_leaf, opened, Closes, but_last, last_of, places}
use Rattle.std.specs.Prelude.{true, ◌≤◌, Option, None, Some}
use Rattle.std.specs.Option.{option_to_list}
use Rattle.tok_core.specs.Filled.{has_trees}
use Rattle.tok_core.specs.Forest.{leaf, group, Forest, no_trees, tree, concat}
use Rattle.tok_core.specs.Weight.{weight}
use Rattle.tok_core.proofs.Facts.{concat-none}
use Rattle.tok_core.proofs.Levels.{ends_in_last, levels_of-put, one_end, same_levels, places_length}
use Rattle.tok_buffer.specs.declared.entry.Entry.{Entry}
use Rattle.tok_buffer.specs.declared.entry.Entry.TheVariants.{Group, End}
use Rattle.tok_buffer.specs.Private.Layout.{leaf_entry, layout, entries_of, laid, levels_in}
use Rattle.tok_buffer.specs.Private.Layout.{stack_entries}
use Rattle.tok_buffer.proofs.Layouts.{length-layout, layout-concat, stack_entries-append}
use Rattle.tok_buffer.proofs.Layouts.{stack_entries-layout, fill_lays}
use Rattle.std.proofs.lemmas.List.{append-nil}

stack-laid : (s : List Forest) (f : Forest) → stack_entries (laid s ++ layout f) (no_trees ∷ [])
    ≡ s ++ f ∷ []
stack-laid [] f = rw (stack_entries-layout f no_trees [], concat-none f)
stack-laid (g ∷ s) f =
    rw (append_assoc, stack_entries-append, stack-laid s f, stack_entries-layout, concat-none)

-- entries that are laid so have these levels
levels_are : (xs : List Entry) (s : List Forest) (f : Forest) → xs ≡ laid s ++ layout f →
    levels_in xs ≡ record { outer = s; inner = f }
levels_are xs s f e = rw (e, stack-laid s f) (levels_of-put s f)

-- what holds of a builder
abbrev IsBuilt : List Entry → List ℕ → Levels → Type 0
IsBuilt xs ps s = (xs ≡ laid s.outer ++ layout s.inner) × (ps ≡ places 0 s.outer)

pub entries_built : (xs : List Entry) (ps : List ℕ) (s : Levels) → IsBuilt xs ps s →
    IsBuilt xs ps (levels_in xs)
entries_built xs ps s h = rw (levels_are xs s.outer s.inner h.0) h

built_leaf : (xs ys : List Entry) (ps : List ℕ) (s : Levels) (l : Leaf) → IsBuilt xs ps s →
    ys ≡ xs ++ leaf_entry l ∷ [] → IsBuilt ys ps (add_leaf l s)
built_leaf xs ys ps s l (e, p) h = (
  rw (h, e, layout-concat, append_assoc),
  p,
)

-- the same, of the levels that are in the entries
module _ (xs ys : List Entry) (ps : List ℕ) (l : Leaf) (h : IsBuilt xs ps (levels_in xs))
    (y : ys ≡ xs ++ leaf_entry l ∷ []) where
  pub leaf_built : IsBuilt ys ps (levels_in ys)
  leaf_built = entries_built ys ps (add_leaf l (levels_in xs))
      (built_leaf xs ys ps (levels_in xs) l h y)

  pub leaf_shown : (old : Levels) → levels_in xs ≡ old → levels_in ys ≡ add_leaf l old
  leaf_shown old e = levels_are ys (levels_in xs).outer (add_leaf l (levels_in xs)).inner
      (built_leaf xs ys ps (levels_in xs) l h y).0 ∙ ap (add_leaf l) e

laid-put : (s : List Forest) (f : Forest) → laid (s ++ f ∷ []) ≡ (laid s ++ layout f) ++ End 0 ∷ []
laid-put [] f = refl
laid-put (g ∷ s) f = rw (laid-put s f) (simp append_assoc)

place : (n : ℕ) (s : List Forest) (f : Forest) → places n (s ++ f ∷ []) ≡ places n s
    ++ (n + length (laid s ++ layout f)) ∷ []
place n [] f = rw (length-layout f)
place n (g ∷ s) f =
    let l : n + weight g + 1 + length (laid s ++ layout f)
    ≡ n + length ((layout g ++ End 0 ∷ laid s) ++ layout f) =
    omega (arith, length-append {A = Entry}, length-layout) in
    rw (place (n + weight g + 1) s f, l)

first_place : (s : List Forest) (f : Forest) → places 0 (s ++ f ∷ []) ≡ places 0 s
    ++ length (laid s ++ layout f) ∷ []
first_place s f =
    let l : 0 + length (laid s ++ layout f) ≡ length (laid s ++ layout f) = omega arith in
    rw l at (place 0 s f)

built_open : (xs ys : List Entry) (ps qs : List ℕ) (s : Levels) → IsBuilt xs ps s →
    ys ≡ xs ++ End 0 ∷ [] → qs ≡ ps ++ length xs ∷ [] → IsBuilt ys qs (opened s)
built_open xs ys ps qs s (e, p) h q = (
  cc (laid-put s.outer s.inner, append-nil (laid (s.outer ++ s.inner ∷ []))),
  rw (q, p, e, first_place s.outer s.inner),
)

module _ (xs ys : List Entry) (ps qs : List ℕ) (h : IsBuilt xs ps (levels_in xs))
    (y : ys ≡ xs ++ End 0 ∷ []) (q : qs ≡ ps ++ length xs ∷ []) where
  pub open_built : IsBuilt ys qs (levels_in ys)
  open_built = entries_built ys qs (opened (levels_in xs))
      (built_open xs ys ps qs (levels_in xs) h y q)

  pub open_shown : (old : Levels) → levels_in xs ≡ old → levels_in ys ≡ opened old
  open_shown old e = levels_are ys (opened (levels_in xs)).outer no_trees
      (built_open xs ys ps qs (levels_in xs) h y q).0 ∙ ap opened e

-- Where a level is left, its group's place is the last one, and it is in the entries.
pub record Left (xs : List Entry) (ps : List ℕ) (n : ℕ) (s : Levels) : Type 0 where
  pub outer : List Forest
  pub before : Forest
  pub is : s.outer ≡ outer ++ before ∷ []
  pub place : n ≡ length (laid outer ++ layout before)
  pub places : ps ≡ places 0 outer
  pub entries : xs ≡ ((laid outer ++ layout before) ++ End 0 ∷ []) ++ layout s.inner

pub leaves_level : (xs : List Entry) (os ps : List ℕ) (n : ℕ) (s : Levels) → IsBuilt xs os s →
    0 < length s.outer → os ≡ ps ++ n ∷ [] → Left xs ps n s
leaves_level xs os ps n s (e, p) some o = go s.outer refl some
  where
    go : (t : List Forest) → s.outer ≡ t → 0 < length t → Left xs ps n s
    go [] is some = absurd (omega (arith, some))
    go (f ∷ t) is some =
        let ends = one_end ps (places 0 (but_last f t)) n
        (length (laid (but_last f t) ++ layout (last_of f t)))
        (cc (o, p, is, ends_in_last f t, first_place (but_last f t) (last_of f t))) in
        record {
          outer = but_last f t;
          before = last_of f t;
          is = is ∙ ends_in_last f t;
          place = ends.1;
          places = ends.0;
          entries = cc (e, is, ends_in_last f t, laid-put (but_last f t) (last_of f t));
        }

-- the place is one of the entries
pub left_before : (xs : List Entry) (ps : List ℕ) (n : ℕ) (s : Levels) → Left xs ps n s →
    n < length xs
left_before xs ps n s h = omega (arith, h.place, ap length h.entries, length-append {A = Entry})

-- Where a level is open, its place can be taken. `close` and `take_back` share these lemmas.
module _ (xs : List Entry) (os : List ℕ) (old : Levels) (h : IsBuilt xs os (levels_in xs))
    (e : levels_in xs ≡ old) (some : 0 < length old.outer) where
  pub has_place : length os ≡ 0 → ⊥
  has_place none =
      let outer = ap (λ s. length s.outer) e in
      omega (arith, some, none, outer, ap length h.1, places_length 0 (levels_in xs).outer)

  module _ (ps : List ℕ) (n : ℕ) (o : os ≡ ps ++ n ∷ []) where
    pub left_open : Left xs ps n (levels_in xs)
    left_open = leaves_level xs os ps n (levels_in xs) h (rw e some) o

    pub open_before : n < length xs
    open_before = left_before xs ps n (levels_in xs) left_open

module _ (xs ys : List Entry) (ps : List ℕ) (n k : ℕ) (s : Levels) (d : Delimiter) (p : Span)
    (h : Left xs ps n s) (q : k ≡ length xs) (y : ys ≡ xs ++ End (k - n) ∷ []) where
  pub built_close : IsBuilt (set ys n (Group (record { delimiter = d; span = p }) (k - n))) ps
      (record { outer = h.outer; inner = concat h.before (tree (group d s.inner p) no_trees) })
  built_close =
      let lays =
      fill_lays (laid h.outer ++ layout h.before) d p s.inner xs ys n k h.place h.entries q y in
      (rw (lays, append_assoc, layout-concat), h.places)

  pub closes : (old : Levels) → s ≡ old →
      Closes d p old (levels_in (set ys n (Group (record { delimiter = d; span = p }) (k - n))))
  closes old same =
      let e = levels_are (set ys n (Group (record { delimiter = d; span = p }) (k - n))) h.outer
      (concat h.before (tree (group d s.inner p) no_trees)) built_close.0 in
      rw (← same) (h.before, rw e h.is, rw e)

no_layout : (f : Forest) → length (layout f) ≡ 0 → f ≡ no_trees
no_layout no_trees e = refl
no_layout (tree (leaf l) f) e = absurd (omega (arith, e))
no_layout (tree (group d g s) f) e = absurd (omega (arith, e))

some_layout : (f : Forest) → 0 < length (layout f) → has_trees f ≡ true
some_layout no_trees e = absurd (omega (arith, e))
some_layout (tree t f) e = refl

-- the innermost level has as many entries as there are after its place
inner_size : (xs : List Entry) (ps : List ℕ) (n : ℕ) (s : Levels) → Left xs ps n s →
    length xs ≡ n + 1 + length (layout s.inner)
inner_size xs ps n s h = omega (arith, h.place, ap length h.entries, length-append {A = Entry})

-- a level with more entries after its place holds a tree
pub left_filled : (xs : List Entry) (ps : List ℕ) (n : ℕ) (s old : Levels) → Left xs ps n s →
    s ≡ old → n + 1 < length xs → has_trees old.inner ≡ true
left_filled xs ps n s old h e more =
    rw (← e) (some_layout s.inner (omega (arith, more, inner_size xs ps n s h)))

-- where something was taken off the end, it was the last
pub last_taken : (xs ys : List Entry) (r : Option Entry) → (r ≡ None → ⊥) →
    xs ≡ ys ++ option_to_list r → (x : Entry) × (xs ≡ ys ++ x ∷ [])
last_taken xs ys None some e = absurd (some refl)
last_taken xs ys (Some x) some e = (x, e)

-- the last entry is the place of a level that is empty
module _ (xs ys : List Entry) (ps : List ℕ) (n : ℕ) (s : Levels) (x : Entry)
    (h : Left xs ps n s) (y : xs ≡ ys ++ x ∷ []) (few : length xs ≤ n + 1) where
  is_empty : s.inner ≡ no_trees
  is_empty = no_layout s.inner (omega (arith, few, inner_size xs ps n s h))

  before_is : ys ≡ laid h.outer ++ layout h.before
  before_is =
      (one_end ys (laid h.outer ++ layout h.before) x (End 0)
      (rw (← y, h.entries, is_empty, append-nil))).0

  built_back : IsBuilt ys ps (record { outer = h.outer; inner = h.before })
  built_back = (before_is, h.places)

  pub back_built : IsBuilt ys ps (levels_in ys)
  back_built = entries_built ys ps (record { outer = h.outer; inner = h.before }) built_back

  pub back_shown : (old : Levels) → s ≡ old → old ≡ opened (levels_in ys)
  back_shown old e =
      let same = same_levels s (h.outer ++ h.before ∷ []) no_trees h.is is_empty in
      cc (levels_are ys h.outer h.before before_is)

-- entries of one level alone, and an end after them
pub end_completes : (xs ys : List Entry) (s : Levels) → xs ≡ laid s.outer ++ layout s.inner →
    s.outer ≡ [] → ys ≡ xs ++ End 0 ∷ [] → ys ≡ entries_of s.inner
end_completes xs ys s e o y = rw (y, e, o)
