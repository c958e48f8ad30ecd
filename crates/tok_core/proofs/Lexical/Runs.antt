-- Items taken one after the other, with the groups that they leave open, innermost first: one
-- list of items leads to one list of groups.
use Rattle.std.proofs.Common.{◌≡◌, ℕ, ◌+◌, ◌<◌, ◌≤◌, List, [], ◌∷◌, ◌++◌, length, refl}
use Rattle.std.proofs.Common.{arith, append_assoc, reverse}
use Rattle.std.proofs.lemmas.List.{append-nil, length-reverse, reverse-append, reverse-reverse}
use Rattle.tok_leaves.specs.Leaves.{Leaf}
use Rattle.tok_core.specs.Forest.{Forest}
use Rattle.tok_core.specs.Lexical.Items.{Item, leaf_item, opening, closing, Flat, no_items}
use Rattle.tok_core.specs.Lexical.Items.{leaf_first, group_first, depth, most_levels, Opens, inside, within}
use Rattle.tok_core.specs.Lexical.Items.{IsOpenBy}
use Rattle.tok_lexical.specs.declared.delimiter.Delimiter.{Delimiter}

-- the open groups, innermost first: a delimiter, and the byte of its opening
abbrev pub Levels : Type 0
Levels = List (Delimiter × ℕ)

-- one item: a leaf changes nothing, an opening adds a group, and a closing ends the innermost one
pub data Step : Levels → Item → Levels → Type 0 where
  stays : {levels : Levels} {l : Leaf} → Step levels (leaf_item l) levels
  opens : {levels : Levels} {delimiter : Delimiter} {start : ℕ} → length levels < most_levels →
      Step levels (opening delimiter start) ((delimiter, start) ∷ levels)
  closes : {levels : Levels} {delimiter closer : Delimiter} {start end : ℕ} →
      delimiter ≡ closer → Step ((delimiter, start) ∷ levels) (closing closer end) levels

-- items in turn
pub data Run : Levels → List Item → Levels → Type 0 where
  ends : {levels : Levels} → Run levels [] levels
  goes : {levels next last : Levels} {x : Item} {items : List Item} → Step levels x next →
      Run next items last → Run levels (x ∷ items) last

step_unique : {levels one other : Levels} {x : Item} → Step levels x one → Step levels x other →
    one ≡ other
step_unique stays stays = refl
step_unique (opens l) (opens k) = refl
step_unique (closes e) (closes f) = refl

run_append : {one two three : Levels} {xs ys : List Item} → Run one xs two → Run two ys three →
    Run one (xs ++ ys) three
run_append ends s = s
run_append (goes x r) s = goes x (run_append r s)

-- what comes after a front
run_after : {one two three : Levels} {xs ys : List Item} → Run one xs two →
    Run one (xs ++ ys) three → Run two ys three
run_after ends s = s
run_after (goes x r) (goes y s) = run_after r (rw (step_unique y x) at s)

forest_runs : {number : ℕ} {f : Forest} {items : List Item} (levels : Levels) →
    length levels + depth f ≤ most_levels → Flat number f items → Run levels items levels
forest_runs levels l no_items = ends
forest_runs levels l (leaf_first k) = goes stays (forest_runs levels l k)
forest_runs levels l (group_first {inside = inner} {f = f} delimiter start end k m) =
    goes (opens (omega arith))
    (run_append (forest_runs ((delimiter, start) ∷ levels) (omega arith) k)
    (goes (closes refl) (forest_runs levels (omega arith) m)))

-- outermost first, put onto what is open
onto : Levels → Levels → Levels
onto [] levels = levels
onto (p ∷ ps) levels = onto ps (p ∷ levels)

opens_runs : {number n : ℕ} {items : List Item} {inner : Levels} (levels : Levels) →
    length levels + n ≤ most_levels → Opens number n inner items →
    Run levels items (onto inner levels)
unfolding onto
opens_runs levels l (inside (f, d, k)) = forest_runs levels (omega arith) k
opens_runs levels l (within {delimiter = delimiter} {start = start} before items (f, d, k) o) =
    run_append (forest_runs levels (omega arith) k)
    (goes (opens (omega arith)) (opens_runs ((delimiter, start) ∷ levels) (omega arith) o))

onto_is : (levels outer : Levels) → onto levels outer ≡ reverse levels ++ outer
unfolding onto
onto_is [] outer = refl
onto_is (p ∷ levels) outer =
    cc (
      onto_is levels (p ∷ outer),
      append_assoc (reverse levels) (p ∷ []) outer,
      reverse-append (p ∷ []) levels,
    )

-- the groups left open, innermost first
left_open : {number : ℕ} {levels : Levels} {items : List Item} →
    Opens number most_levels levels items → Run [] items (reverse levels)
left_open {levels = levels} o =
    rw (onto_is levels [], append-nil) at (opens_runs [] (omega arith) o)

nothing_left : {one two : Levels} → Run one [] two → one ≡ two
nothing_left ends = refl

-- the items of one front, and of a longer one
pub after_front : {number : ℕ} {levels others : Levels} {items more : List Item} →
    Opens number most_levels levels items → Opens number most_levels others (items ++ more) →
    Run (reverse levels) more (reverse others)
after_front o p = run_after (left_open o) (left_open p)

pub one_left_open : {number : ℕ} {levels others : Levels} {items : List Item} →
    Opens number most_levels levels items → Opens number most_levels others items → levels ≡ others
one_left_open {levels = levels} {others = others} {items = items} o p =
    let same : reverse levels ≡ reverse others =
    nothing_left (after_front {others = others} o (rw (append-nil items) p)) in
    cc (reverse-reverse levels, reverse-reverse others)

-- a closing delimiter comes only where the group that is open innermost is its own
pub first_closes : (levels last : Levels) (delimiter : Delimiter) (end : ℕ) (items : List Item) →
    Run (reverse levels) (closing delimiter end ∷ items) last → IsOpenBy levels delimiter
first_closes levels last delimiter end items r = go (reverse levels) refl r
  where
    go : (inner : Levels) → reverse levels ≡ inner → Run inner (closing delimiter end ∷ items)
        last → IsOpenBy levels delimiter
    go [] e (goes s r) = elim s [ ]
    go ((d, start) ∷ inner) e (goes (closes f) s) = (
      reverse inner,
      start,
      cc (reverse-reverse levels, reverse-append ((d, start) ∷ []) inner),
    )

-- a leaf changes nothing
pub leaf_passed : {levels last : Levels} {l : Leaf} {items : List Item} →
    Run levels (leaf_item l ∷ items) last → Run levels items last
leaf_passed (goes stays r) = r

opens_here : (inner last : Levels) (delimiter : Delimiter) (start : ℕ) (items : List Item) →
    Run inner (opening delimiter start ∷ items) last → length inner < most_levels
opens_here inner last delimiter start items (goes (opens l) r) = l

pub first_opens : (levels last : Levels) (delimiter : Delimiter) (start : ℕ)
    (items : List Item) → Run (reverse levels) (opening delimiter start ∷ items) last →
    length levels < most_levels
first_opens levels last delimiter start items r =
    rw (← (length-reverse levels)) (opens_here (reverse levels) last delimiter start items r)
