-- The span of a stream is one of the position of what is ahead of it; without invisible groups
-- there is only one.
use Rattle.std.proofs.Common.{arith, ◌≡◌, ◌∙◌, refl, ◌&&◌, true, false, cond, List, [], ◌∷◌, Some}
use Rattle.std.proofs.Common.{None}
use Rattle.std.proofs.lemmas.Bool.{and_parts, false≢true}
use Rattle.std.specs.Prelude.{⊤, IfSome}
use Rattle.tok_lexical.specs.declared.delimiter.Delimiter.{Delimiter}
use Rattle.tok_leaves.specs.declared.span.Span.{Span}
use Rattle.tok_core.specs.Clear.{is_invisible_group}
use Rattle.tok_core.specs.Erase.{erase}
use Rattle.tok_core.specs.Filled.{filled, has_trees}
use Rattle.tok_core.specs.Forest.{Tree, leaf, group, Forest, no_trees, tree, concat, reverse_onto}
use Rattle.tok_core.specs.Forest.{tree_span}
use Rattle.tok_buffer.specs.Buffer.{Laid}
use Rattle.tok_buffer.specs.Descent.{descend}
use Rattle.tok_buffer.specs.EachRead.{Read, First}
use Rattle.tok_buffer.specs.Entry.{Entered, enter, enter_any}
use Rattle.tok_buffer.specs.Messages.{stream_span}
use Rattle.tok_buffer.specs.Place.{Enclosing, in_group, Frame, frame, Place, empty_place, at, front}
use Rattle.tok_buffer.specs.Place.{is_at_end, pass}
use Rattle.tok_core.specs.Kinds.{any_tree}
use Rattle.tok_buffer.specs.Spans.{current_span}
use Rattle.tok_buffer.specs.Trees.{PassesTrees, further, read_visible}
use Rattle.tok_buffer.specs.Reached.{Reached, begin, down, past, into, nowhere}
use Rattle.tok_buffer.specs.View.{IsVisibleDelimiter, erased_ahead, erased_in}
use Rattle.tok_buffer.proofs.View.Ends.{IsFilledPlace, IsSettled, has-front}
use Rattle.tok_buffer.proofs.View.Keeps.{kept-descend, of-front}
use Rattle.tok_buffer.proofs.View.Moves.{IsMoved, Leads, LeadsTo, leads, leads-take, moved-pass}
use Rattle.tok_buffer.proofs.View.Readings.{Reading}
use Rattle.tok_buffer.proofs.View.Places.{reached_stands}
use Rattle.syn_parse.specs.Positions.{IsAt, IsNext, Position, Stands, among, at_trees, here, later}
use Rattle.syn_parse.specs.Positions.{only_span, over_tree, scope_trees, seen_outside, tree_start}
use Rattle.syn_parse.specs.Positions.{trees_in}
use Rattle.syn_parse.specs.TreesAhead.{IsFilled}
use Rattle.syn_parse.specs.Laws.{ErrorsHaveOneSpan}
use Rattle.tok_lexical.specs.declared.delimiter.Delimiter.TheVariants as delimiter
use Rattle.tok_buffer.specs.Trees as trees

-- each frame but the last one is of an invisible group
abbrev Nested : Frame → List Frame → Type 0
Nested l [] = ⊤
Nested (frame (in_group delimiter.None span) p a) (l ∷ ls) = Nested l ls
Nested (frame o p a) (l ∷ ls) = ⊥

abbrev IsNested : Place → Type 0
IsNested empty_place = ⊤
IsNested (at n s c l ls) = Nested l ls

nested-ahead : (o : Enclosing) (p q a b : Forest) (ls : List Frame) → Nested (frame o p a) ls
    → Nested (frame o q b) ls
nested-ahead o p q a b [] h = tt
nested-ahead (in_group delimiter.None span) p q a b (l ∷ ls) h = h
nested-ahead o p q a b (l ∷ ls) h = absurd h

moved-nested : IsMoved IsNested
moved-nested = grind (arith, nested-ahead)

nested-content : (d : Delimiter) (p : Place) → IsVisibleDelimiter d
    → IfSome (enter d p) (λ e. IsNested e.content)
nested-content d p v = of-front (λ e. IsNested e.content) d p v (go (descend p)) where
  go : (q : Place) → IfSome (enter_any q) (λ e. IsNested e.content)
  go empty_place = tt
  go (at n s c (frame o q no_trees) ls) = tt
  go (at n s c (frame o q (tree (leaf l) a)) ls) = tt
  go (at n s c (frame o q (tree (group e inside span) a)) ls) = tt

reached-nested : (b : Laid) (p : Place) → Reached b p → IsNested p
reached-nested b _ begin = tt
reached-nested b _ (down p r) = kept-descend IsNested moved-nested.kept p (reached-nested b p r)
reached-nested b _ (past p r) = moved-pass IsNested moved-nested p (reached-nested b p r)
reached-nested b _ (into d p e v i r) = rw i at (nested-content d p v)
reached-nested b _ nowhere = tt

into-trees : (o : Enclosing) (p inside : Forest) (span : Span) (f : Forest) (ls : List Frame)
    → trees_in (frame (in_group delimiter.None span) no_trees inside) (frame o p f ∷ ls)
    ≡ trees_in (frame o p (tree (group delimiter.None inside span) f)) ls
into-trees o p inside span f ls = refl

module _ (f : Forest) where
  abbrev pub InScope : Place → Type 0
  InScope p = scope_trees p ≡ f

  moved-trees : IsMoved InScope
  moved-trees = grind (arith, into-trees)

  pub leads-trees : Leads InScope InScope
  leads-trees = grind (arith, kept-descend, moved-trees, moved-pass)

pub scope_kept : {read : Read} {first : First} → Reading read first → (p : Place)
    → LeadsTo (InScope (scope_trees p)) (read p)
scope_kept reading p =
    let f = scope_trees p in leads (InScope f) (InScope f) (leads-trees f) reading p refl

pub visible_kept : (p : Place) → LeadsTo (InScope (scope_trees p)) (read_visible p)
visible_kept p =
    let f = scope_trees p in
    leads-take (InScope f) (InScope f) (leads-trees f) any_tree (descend p)
    ((leads-trees f).down p refl)

pub passes_kept : (p q : Place) → PassesTrees p q → scope_trees q ≡ scope_trees p
passes_kept p q trees.here = refl
passes_kept p z (further q r ts h e) =
    let f = scope_trees p in
    rw e at (leads-take (InScope f) (InScope f) (leads-trees f) any_tree q (passes_kept p q h))

descended-trees : (p : Place) → scope_trees (descend p) ≡ scope_trees p
descended-trees p = (leads-trees (scope_trees p)).down p refl

passed-trees : (p : Place) → scope_trees (pass p) ≡ scope_trees p
passed-trees p = moved-pass (InScope (scope_trees p)) (moved-trees (scope_trees p)) p refl

-- what stands among some trees stands among all trees of the scope
module _ (part : Tree → Span) (span : Span) (ahead : Forest) where
  stands-onto : (p a after : Forest) → Stands part span ahead a after
      → Stands part span ahead (reverse_onto p a) after
  stands-onto no_trees a after h = h
  stands-onto (tree t p) a after h = stands-onto p (tree t a) after (later t a after h)

  stands-around : (o : Enclosing) (p a : Forest) (ls : List Frame) → Nested (frame o p a) ls
      → Stands part span ahead a (erased_in ls)
      → Stands part span ahead (trees_in (frame o p a) ls) no_trees
  stands-around o p a [] n h = stands-onto p a no_trees h
  stands-around (in_group delimiter.None s) p a (frame o q b ∷ ls) n h =
      stands-around o q (tree (group delimiter.None (reverse_onto p a) s) b) ls
      (nested-ahead o q q b _ ls n)
      (among delimiter.None (reverse_onto p a) b (erased_in ls) s
      (stands-onto p a (erased_in (frame o q b ∷ ls)) h))
  stands-around o p a (l ∷ ls) n h = absurd n

-- the part of the front tree, and the scope's span at its end
abbrev front_span : (Tree → Span) → Span → Place → Span
front_span part scope p = elim (front p) [ Some t ↦ part t | None ↦ scope ]

module _ (part : Tree → Span) where
  is-next : (trees ahead : Forest) (scope span : Span) → has_trees ahead ≡ true
      → Stands part span ahead trees no_trees → IsNext part trees scope ahead span
  is-next trees ahead scope span h k = grind (arith, false≢true)

  front-next : (o : Enclosing) (p : Forest) (t : Tree) (f : Forest) (ls : List Frame)
      → Nested (frame o p (tree t f)) ls → (scope : Span)
      → has_trees (concat (erase (tree t f)) (erased_in ls)) ≡ true
      → IsNext part (trees_in (frame o p (tree t f)) ls) scope
      (concat (erase (tree t f)) (erased_in ls)) (part t)
  front-next o p t f ls n scope h =
      let ahead = concat (erase (tree t f)) (erased_in ls) in
      is-next (trees_in (frame o p (tree t f)) ls) ahead scope (part t) h
      (stands-around part (part t) ahead o p (tree t f) ls n
      (here t f (erased_in ls) refl refl))

  next-front : (p : Place) → IsSettled p → IsFilledPlace p → IsNested p → (scope : Span)
      → IsNext part (scope_trees p) scope (erased_ahead p) (front_span part scope p)
  next-front empty_place h k n scope = refl
  next-front (at i s c (frame o p no_trees) []) h k n scope = refl
  next-front (at i s c (frame o p no_trees) (l ∷ ls)) h k n scope = absurd h
  next-front (at i s c (frame o p (tree (leaf l) f)) ls) h k n scope =
      front-next o p (leaf l) f ls n scope refl
  next-front (at i s c (frame o p (tree (group delimiter.None inside span) f)) ls) h k n scope =
      let outer = and_parts (has_trees (erase inside) && filled inside) (filled f) k.0 in
      let inner = and_parts (has_trees (erase inside)) (filled inside) outer.0 in
      front-next o p (group delimiter.None inside span) f ls n scope
      (has-front (concat (erase inside) (erase f)) (erased_in ls)
      (has-front (erase inside) (erase f) inner.0))
  next-front (at i s c (frame o p (tree (group d inside span) f)) ls) h k n scope =
      front-next o p (group d inside span) f ls n scope refl

  next-told : (p : Place) (scope : Span) → IsFilled p
      → IsNext part (scope_trees p) scope (erased_ahead p) (front_span part scope p)
  next-told p scope i = grind (arith, reached_stands, next-front, reached-nested)

-- the span of a stream, and that of the whole next tree
starts-front : (p : Place) (scope : Span) → front_span tree_start scope p ≡ stream_span p scope
starts-front p scope = grind arith

covers-front : (p : Place) (scope : Span)
    → front_span tree_span scope p ≡ cond (is_at_end p) scope (current_span p)
covers-front p scope = grind arith

pub start_told : (p : Place) (scope : Span) → IsFilled p
    → IsAt (scope_trees p) scope (at_trees (erased_ahead p)) (stream_span p scope)
start_told p scope i =
    rw (← starts-front p scope) (next-told tree_start p scope i)

pub whole_told : (p : Place) (scope : Span) → IsFilled p
    → IsAt (scope_trees p) scope (over_tree (erased_ahead p))
    (cond (is_at_end p) scope (current_span p))
whole_told p scope i =
    rw (← covers-front p scope) (next-told tree_span p scope i)

entered-visible : (d : Delimiter) → IsVisibleDelimiter d → (p : Place) (e : Entered)
    → enter d p ≡ Some e → IsVisibleDelimiter e.delimiter
entered-visible d v p e h = grind (arith, false≢true)

-- a group that is entered is among the trees of the scope, and stays there
module _ (d : Delimiter) (visible : IsVisibleDelimiter d) (p : Place) (e : Entered)
    (is : enter d p ≡ Some e) where
  after-any : (q : Place) → IfSome (enter_any q) (λ x. scope_trees x.after ≡ scope_trees q)
  after-any empty_place = tt
  after-any (at n s c (frame o q no_trees) ls) = tt
  after-any (at n s c (frame o q (tree (leaf l) a)) ls) = tt
  after-any (at n s c (frame o q (tree (group x inside span) a)) ls) =
      passed-trees (at n s c (frame o q (tree (group x inside span) a)) ls)

  pub after_trees : scope_trees e.after ≡ scope_trees p
  after_trees =
      (rw is at (of-front (λ y. scope_trees y.after ≡ scope_trees (descend p)) d p visible
      (after-any (descend p)))) ∙ descended-trees p

  module _ (part : Tree → Span) (span : Span) (ahead : Forest) where
    in-visible : (x : Delimiter) → IsVisibleDelimiter x → (inside f after : Forest) (s : Span)
        → Stands part span ahead inside no_trees
        → Stands part span ahead (tree (group x inside s) f) after
    in-visible delimiter.None v inside f after s h = absurd v
    in-visible x v inside f after s h = among x inside f after s h

    content-any : (q : Place) → IsNested q
        → IfSome (enter_any q) (λ x. IsVisibleDelimiter x.delimiter
        → Stands part span ahead (scope_trees x.content) no_trees
        → Stands part span ahead (scope_trees q) no_trees)
    content-any q n = grind (arith, stands-around, in-visible)

    before-content : IsFilled p → Stands part span ahead (scope_trees e.content) no_trees
        → Stands part span ahead (scope_trees p) no_trees
    before-content i h =
        let nested = reached-nested i.buffer (descend p) (down p i.reached) in
        let inside = of-front (λ y. IsVisibleDelimiter y.delimiter
        → Stands part span ahead (scope_trees y.content) no_trees
        → Stands part span ahead (scope_trees (descend p)) no_trees) d p visible
        (content-any (descend p) nested) in
        rw (← descended-trees p) ((rw is at inside) (entered-visible d visible p e is) h)

  pub content_at : IsFilled p → (close scope : Span) (x : Position) (span : Span)
      → IsAt (scope_trees e.content) close x span
      → IsAt (scope_trees p) scope (seen_outside close x) span
  content_at i close scope x span h = grind (arith, before-content)

-- In a forest without invisible groups a position has one span.
abbrev StartsVisible : Forest → Type 0
StartsVisible no_trees = ⊤
StartsVisible (tree t f) = is_invisible_group t ≡ false

starts-concat : (f g : Forest) → StartsVisible f → StartsVisible g → StartsVisible (concat f g)
starts-concat f g h k = grind arith

starts-erased : (f : Forest) → StartsVisible (erase f)
starts-erased no_trees = tt
starts-erased (tree (leaf l) f) = refl
starts-erased (tree (group delimiter.None inside span) f) =
    starts-concat (erase inside) (erase f) (starts-erased inside) (starts-erased f)
starts-erased (tree (group d inside span) f) = refl

no-invisible : {A : Type 0} (inside f : Forest) (span : Span)
    → erase (tree (group delimiter.None inside span) f) ≡ tree (group delimiter.None inside span) f
    → A
no-invisible inside f span e =
    let k = rw e at (starts-erased (tree (group delimiter.None inside span) f)) in absurd (cc)

same-rest : {t u : Tree} {f g : Forest} → tree t f ≡ tree u g → f ≡ g
same-rest e = cc

same-inside : {d : Delimiter} {x y : Forest} {s : Span} {f g : Forest}
    → tree (group d x s) f ≡ tree (group d y s) g → x ≡ y
same-inside e = cc

erased-rest : (t : Tree) (f : Forest) → erase (tree t f) ≡ tree t f → erase f ≡ f
erased-rest (leaf l) f e = same-rest e
erased-rest (group delimiter.None inside span) f e = no-invisible inside f span e
erased-rest (group d inside span) f e = same-rest e

erased-inside : (d : Delimiter) (inside f : Forest) (span : Span)
    → erase (tree (group d inside span) f) ≡ tree (group d inside span) f → erase inside ≡ inside
erased-inside delimiter.None inside f span e = no-invisible inside f span e
erased-inside d inside f span e = same-inside e

same-first : {t u : Tree} {f g : Forest} → tree t f ≡ tree u g → t ≡ u
same-first e = cc

module _ (part : Tree → Span) (span : Span) (t : Tree) (g : Forest) where
  stands-once : (f after : Forest) → Stands part span (tree t g) f after → erase f ≡ f
      → span ≡ part t
  stands-once _ _ (here u f after same all) e = grind (arith, same-first)
  stands-once _ _ (later u f after h) e = stands-once f after h (erased-rest u f e)
  stands-once _ _ (among d inside f after s h) e =
      stands-once inside _ h (erased-inside d inside f s e)

pub one_span : (f : Forest) → erase f ≡ f → (scope : Span) (x : Position) (span : Span)
    → IsAt f scope x span → span ≡ only_span scope x
one_span f e scope x span h = grind (arith, stands-once)

-- where no invisible group is, an error says what is missing at one span
pub said_once : ErrorsHaveOneSpan
said_once f e k m i h = grind (arith, one_span)
