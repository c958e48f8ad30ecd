-- Laws of the layout.
use Rattle.std.proofs.Common.{◌≡◌, ℕ, ◌+◌, ◌-◌, List, [], ◌∷◌, ◌++◌, Option, Some, None, length}
use Rattle.std.proofs.Common.{set, refl, ap, arith, append_assoc, length-append}
use Rattle.tok_leaves.specs.declared.span.Span.{Span}
use Rattle.tok_lexical.specs.declared.delimiter.Delimiter.{Delimiter}
use Rattle.tok_leaves.specs.Leaves.{Leaf, ident, punct, literal, ident_of, punct_of, literal_of}
use Rattle.tok_core.specs.Forest.{Tree, leaf, group, Forest, no_trees, tree, concat, reverse_onto}
use Rattle.tok_core.specs.Weight.{weight}
use Rattle.tok_core.proofs.Facts.{concat-none}
use Rattle.tok_buffer.specs.declared.entry.Entry.{Entry}
use Rattle.tok_buffer.specs.declared.entry.Entry.TheVariants.{Ident, Punct, Literal, Group, End}
use Rattle.tok_buffer.specs.Private.Layout.{leaf_entry, layout, entries_of}
use Rattle.tok_buffer.specs.Private.Layout.{stack_entry, stack_entries, forest_in}
use Rattle.tok_buffer.proofs.Forests.{reversed_is}
use Rattle.tok_core.proofs.Levels.{set_first}

-- the leaf that an entry is
abbrev as_leaf : Entry → Option Leaf
as_leaf (Ident i) = Some (ident_of i)
as_leaf (Punct p) = Some (punct_of p)
as_leaf (Literal l) = Some (literal_of l)
as_leaf e = None

as_leaf-entry : (l : Leaf) → as_leaf (leaf_entry l) ≡ Some l
as_leaf-entry (ident text span) = refl
as_leaf-entry (punct c spacing span) = refl
as_leaf-entry (literal text span) = refl

pub same_leaf : (l m : Leaf) → leaf_entry l ≡ leaf_entry m → l ≡ m
same_leaf l m e = let h : Some l ≡ Some m = cc (as_leaf-entry l, as_leaf-entry m) in cc

pub not_leaf : (x : Entry) (l : Leaf) → as_leaf x ≡ None → leaf_entry l ≡ x → ⊥
not_leaf x l q e = let h : Some l ≡ None = cc (as_leaf-entry l) in cc

pub length-layout : (f : Forest) → length (layout f) ≡ weight f
length-layout no_trees = refl
length-layout (tree (leaf i) f) = omega (arith, length-layout f)
length-layout (tree (group d c s) f) =
    omega (arith, length-layout c, length-layout f, length-append {A = Entry})

pub layout-concat : (f g : Forest) → layout (concat f g) ≡ layout f ++ layout g
layout-concat no_trees g = refl
layout-concat (tree (leaf i) f) g = rw (layout-concat f g)
layout-concat (tree (group d c s) f) g = rw (layout-concat f g, append_assoc)

pub layout-reversed : (f g : Forest) → layout (reverse_onto f g) ≡ layout (reverse_onto f no_trees)
    ++ layout g
layout-reversed f g = rw (reversed_is f g) (layout-concat (reverse_onto f no_trees) g)

pub stack_entries-append : (xs ys : List Entry) (s : List Forest) → stack_entries (xs ++ ys) s
    ≡ stack_entries xs (stack_entries ys s)
stack_entries-append [] ys s = refl
stack_entries-append (x ∷ xs) ys s = rw (stack_entries-append xs ys s)

stack_leaf : (l : Leaf) (f : Forest) (s : List Forest) → stack_entry (leaf_entry l) (f ∷ s)
    ≡ tree (leaf l) f ∷ s
stack_leaf (ident text span) f s = refl
stack_leaf (punct c spacing span) f s = refl
stack_leaf (literal text span) f s = refl

pub stack_entries-layout : (f g : Forest) (s : List Forest) → stack_entries (layout f) (g ∷ s)
    ≡ concat f g ∷ s
stack_entries-layout no_trees g s = refl
stack_entries-layout (tree (leaf i) f) g s =
    rw (stack_entries-layout f g s) (stack_leaf i (concat f g) s)
stack_entries-layout (tree (group d c p) f) g s =
    let apart = stack_entries-append (layout c) (End (weight c + 1) ∷ layout f) (g ∷ s) in
    rw (apart, stack_entries-layout f g s)
    (rw (stack_entries-layout c no_trees (concat f g ∷ s), concat-none))

forest_in-entries_of : (f : Forest) → forest_in (entries_of f) ≡ f
forest_in-entries_of f =
    rw (stack_entries-append (layout f) (End 0 ∷ []) [], stack_entries-layout f no_trees [])
    (concat-none f)

pub fill_lays : (xs : List Entry) (d : Delimiter) (p : Span) (c : Forest) (ys zs : List Entry)
    (n k : ℕ) → n ≡ length xs → ys ≡ (xs ++ End 0 ∷ []) ++ layout c → k ≡ length ys →
    zs ≡ ys ++ End (k - n) ∷ [] → set zs n (Group (record { delimiter = d; span = p }) (k - n))
    ≡ xs ++ layout (tree (group d c p) no_trees)
fill_lays xs d p c ys zs n k hn hy hk hz =
    let off : k - n ≡ weight c + 1 =
    omega (arith, length-append {A = Entry}, length-layout c, ap length hy) in
    rw (off, hz, off, hy, hn) (set_first xs (layout c) (End (weight c + 1) ∷ []) (End 0)
    (Group (record { delimiter = d; span = p }) (weight c + 1)))

pub forest_in_is : (xs : List Entry) (f : Forest) → xs ≡ entries_of f → forest_in xs ≡ f
forest_in_is xs f e = rw e (forest_in-entries_of f)

pub lies : (xs : List Entry) (f : Forest) → xs ≡ entries_of f → xs ≡ entries_of (forest_in xs)
lies xs f e = rw (forest_in_is xs f e) e

pub step_lays : (new old all : List Entry) (t : Tree) (before after : Forest) →
    new ≡ old ++ layout (tree t no_trees) → old ++ layout before ≡ all → before ≡ tree t after →
    new ++ layout after ≡ all
step_lays new old all t before after e h q =
    let both = layout-concat (tree t no_trees) after in
    cc (append_assoc old (layout (tree t no_trees)) (layout after))
