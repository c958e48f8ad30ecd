-- A group takes what is inside, and then what is after it; how a stream enters and closes one.
use Rattle.std.proofs.Common.{◌≡◌, ◌∙◌, sym, ap, refl, arith, ◌<◌, ◌≤◌, Option, Some, None, Ok, Err}
use Rattle.std.specs.Option.{option_or}
use Rattle.std.specs.Prelude.{Result, is_some, length, option_map}
use Rattle.tok_lexical.specs.declared.delimiter.Delimiter.{Delimiter}
use Rattle.tok_leaves.specs.declared.span.DelimSpan.{DelimSpan}
use Rattle.tok_leaves.specs.declared.span.Span.{Span}
use Rattle.tok_leaves.specs.Spans.{closing_span, whole_span}
use Rattle.tok_core.specs.Filled.{has_trees}
use Rattle.tok_core.specs.Forest.{Forest}
use Rattle.tok_core.specs.Weight.{weight}
use Rattle.tok_buffer.specs.Ahead.{Leftover, leftover}
use Rattle.tok_buffer.specs.Entry.{Entered, enter, EnteredWith}
use Rattle.tok_buffer.specs.InFront.{entered_ahead, first_group, first_tree_span}
use Rattle.tok_buffer.specs.Place.{Place}
use Rattle.tok_buffer.specs.declared.error.Message.{Message}
use Rattle.tok_buffer.specs.View.{IsVisibleDelimiter, erased_ahead}
use Rattle.tok_buffer.specs.Progress.{remaining}
use Rattle.tok_buffer.proofs.Onwards.{entries_go_on, reads_keep_scope}
use Rattle.tok_buffer.proofs.View.InFront.{ahead_tells}
use Rattle.tok_buffer.proofs.View.Laws.{calls_lead_on}
use Rattle.syn_parse.specs.Faults.{Refuses}
use Rattle.syn_parse.specs.ErrorWords.{delimiter_words, refused_at}
use Rattle.syn_parse.specs.Groups.{AreParts, Enters, RunsWithin, SpanWith}
use Rattle.syn_parse.specs.Reads.{Call}
use Rattle.syn_parse.specs.State.{State, after_group, closed, content_of}
use Rattle.syn_parse.specs.declared.fault.Fault.{Fault}
use Rattle.syn_parse.specs.declared.fault.Fault.TheVariants.{Refused, Memory}
use Rattle.syn_parse.specs.TreesAhead.{IsFilled, after_content, ahead, scope_of}
use Rattle.syn_parse.specs.Lighter.{group_is_first, group_weighs}
use Rattle.syn_parse.specs.Grouped.{grouped}
use Rattle.syn_parse.specs.Takings.{Keeps, Takings, stated, untold}
use Rattle.syn_parse.specs.Positions.{Missing, missing_inside, scope_trees}
use Rattle.syn_parse.specs.Takes.{EntersAhead, IsMissing, MemoryOr, Outcome, Says, SaysFound, Stays}
use Rattle.syn_parse.specs.Takes.{TakeWithin, TakesAs, Taking, after_inside, inside_first}
use Rattle.syn_parse.specs.Takes.{take_group}
use Rattle.syn_parse.proofs.Scopes.{one_scope}
use Rattle.syn_parse.proofs.Failing.{says_memory}
use Rattle.syn_parse.proofs.Positions.{after_trees, content_at}
use Rattle.syn_parse.proofs.Premises.{given, given_on, under}
use Rattle.syn_parse.proofs.Told.{here_told}

-- a leftover is there where a visible tree is
left-trees : (l : Option Leftover) (f : Forest) → option_map (λ x. x.span) l ≡ first_tree_span f
    → is_some l ≡ has_trees f
left-trees l f e = grind arith

pub leftover-trees : (p : Place) → is_some (leftover p) ≡ has_trees (erased_ahead p)
leftover-trees p = left-trees (leftover p) (erased_ahead p) (ahead_tells p).leftovers

abbrev left_span : Option Leftover → Option Span
left_span = option_map (λ l. l.span)

unread-or : (n m l : Option Leftover)
    → left_span (option_or n (option_or m l))
    ≡ option_or (left_span n) (option_or (left_span m) (left_span l))
unread-or n m l = grind arith

-- a content is closed
pub closed_ahead : (content s : State)
    → ahead (closed content s) ≡ after_content (ahead content) (ahead s)
closed_ahead content s =
    let left = (ahead_tells content.place).leftovers in
    rw (unread-or s.noted content.noted (leftover content.place), left) refl

span-is : (d : DelimSpan) (x : Span) → d.join ≡ x → d ≡ record { join = x }
span-is d x e = ap (λ y. record { join = y }) e

memory-or : (f : Fault) (P Q : Type 0) → (P → Q) → MemoryOr f P → MemoryOr f Q
memory-or f P Q h m = grind arith

both-filled : (d : Delimiter) → IsVisibleDelimiter d → (p : Place) (e : Entered)
    → enter d p ≡ Some e
    → IsFilled p → IsFilled e.content × IsFilled e.after
both-filled d v p e h i = grind (arith, calls_lead_on)

-- after a group is the scope that it is in
after-scope : (d : Delimiter) (p : Place) (e : Entered) → enter d p ≡ Some e
    → scope_of e.after ≡ scope_of p
after-scope d p e h = one_scope p e.after (reads_keep_scope.calls.groups d p e h)

after-remains : (d : Delimiter) (p : Place) (e : Entered) → enter d p ≡ Some e
    → remaining e.after ≤ remaining p
after-remains d p e h = omega (arith, (entries_go_on.groups d).lowers p e h)

-- less remains in a group than before it
content-remains : (d : Delimiter) (p : Place) (e : Entered) → enter d p ≡ Some e
    → remaining e.content < remaining p
content-remains d p e h = (entries_go_on.groups d).inwards p e h

-- a group that is entered is the first one ahead
first-entered : (d : Delimiter) → IsVisibleDelimiter d → (p : Place) (x : Option Entered)
    → enter d p ≡ x → first_group d (erased_ahead p) ≡ option_map entered_ahead x
first-entered d v p x h = sym ((ahead_tells p).enters d v) ∙ ap (option_map entered_ahead) h

-- a group's content weighs less than what is ahead before it
pub content-lighter : (d : Delimiter) → IsVisibleDelimiter d → (p : Place) (e : Entered)
    → enter d p ≡ Some e → weight (erased_ahead e.content) < weight (erased_ahead p)
content-lighter d v p e h =
    let w = group_weighs d (erased_ahead p) (entered_ahead e) (first-entered d v p (Some e) h) in
    omega (arith, w)

-- after a group is a place of its stream
after-stays : (d : Delimiter) → IsVisibleDelimiter d → (s t : State) (e : Entered)
    → enter d s.place ≡ Some e
    → t.place ≡ e.after → t.scope_span ≡ s.scope_span → Stays s t
after-stays d v s t e h p q =
    rw (p, q) (
      λ i. (both-filled d v s.place e h i).1,
      after-scope d s.place e h,
      after-remains d s.place e h,
      after_trees d v s.place e h,
      refl,
    )

-- what an error says in a group it says outside of it
module _ (d : Delimiter) (visible : IsVisibleDelimiter d) (s : State) (e : Entered)
    (is : enter d s.place ≡ Some e) (i : IsFilled s.place) where
  pub said_outside : (m : Missing) (f : Fault)
      → Says (scope_trees e.content) (closing_span e.span) m f
      → Says (scope_trees s.place) s.scope_span (missing_inside (closing_span e.span) m) f
  said_outside m (Refused x) h = (
    h.0,
    content_at d visible s.place e is i (closing_span e.span) s.scope_span m.position h.0 h.1,
    h.2,
  )
  said_outside m (Memory x) h = tt

  inside_says : {A : Type 0} (o : Outcome A) (f : Fault)
      → SaysFound (scope_trees e.content) (closing_span e.span) o f
      → SaysFound (scope_trees s.place) s.scope_span (after_inside (ahead s) (entered_ahead e) o) f
  inside_says o f h = grind (arith, said_outside)

module _ {T A : Type 0} (form : T → A) (inner : Taking A) (calls : Call T)
    (d : Delimiter) (visible : IsVisibleDelimiter d) (s t : State)
    (each : TakeWithin s form inner calls) where
  abbrev both : DelimSpan × T → DelimSpan × A
  both p = (p.0, form p.1)

  is-first : (x : Option Entered) → enter d s.place ≡ x
      → take_group d inner (ahead s) ≡ inside_first d inner (ahead s) (option_map entered_ahead x)
  unfolding take_group
  is-first x h = ap (inside_first d inner (ahead s)) (first-entered d visible s.place x h)

  inside-missing : (e : EnteredWith Forest) (o : Outcome A) → IsMissing o
      → IsMissing (after_inside (ahead s) e o)
  inside-missing e o h = grind arith

  ran : (e : Entered) (returned : Result T Fault) (left : State) (r : Result (DelimSpan × T) Fault)
      → enter d s.place ≡ Some e → TakesAs form inner (content_of e) returned left
      → SpanWith e.span returned r → t ≡ closed left (after_group e s)
      → TakesAs both (take_group d inner) s r t
  ran e (Ok v) left (Ok found_) h i w k =
      let entered = is-first (Some e) h in
      let inside = ap (after_inside (ahead s) (entered_ahead e)) i.0 in
      let after = closed_ahead left (after_group e s) in
      let span = span-is found_.0 e.span w.0 in (
        cc (entered, inside, after, span, w.1, k),
        after-stays d visible s t e h (ap (λ u. u.place) k) (ap (λ u. u.scope_span) k),
      )
  ran e (Ok v) left (Err g) h i w k = absurd w
  ran e (Err f) left (Ok found_) h i w k = absurd w
  ran e (Err f) left (Err g) h i w k =
      rw (w, is-first (Some e) h) (
        memory-or f _ _ (λ n. inside-missing (entered_ahead e) _ n) i.0,
        λ j. inside_says d visible s e h j _ f (i.1 (both-filled d visible s.place e h j).0),
      )

  no_group_refuses : (f : Fault) → enter d s.place ≡ None
      → Refuses (refused_at s (delimiter_words d)) f
      → TakesAs both (take_group d inner) s (Err f) t
  no_group_refuses (Refused e) h r =
      rw (is-first None h) ((tt, ap length r), here_told (delimiter_words d) s (Refused e) r)
  no_group_refuses (Memory e) h r = grind (arith, says_memory)

  within : (x : Option Entered) (r : Result (DelimSpan × T) Fault) → enter d s.place ≡ x
      → RunsWithin calls x (refused_at s (delimiter_words d)) s r t
      → TakesAs both (take_group d inner) s r t
  within None (Ok v) h w = absurd w.0
  within None (Err f) h w = no_group_refuses f h w.0
  within (Some e) r h w =
      ran e w.0 w.1 r h (each (content_of e) w.0 w.1 (
        content-lighter d visible s.place e h,
        λ i. (both-filled d visible s.place e h i).0,
      ) w.2) w.3 w.4

  pub group_told : (r : Result (DelimSpan × T) Fault)
      → RunsWithin calls (enter d s.place) (refused_at s (delimiter_words d)) s r t
      → TakesAs both (take_group d inner) s r t
  group_told r w = within (enter d s.place) r refl w

-- a function that runs within a group does there what each of its calls does
pub runs_by : {R : Type 0} (calls parses : Call R) (x : Option Entered) (words : Message)
    (s t : State) (r : Result (DelimSpan × R) Fault)
    → ((a : State) (y : Result R Fault) (b : State) → calls a y b → parses a y b)
    → RunsWithin calls x words s r t → RunsWithin parses x words s r t
runs_by calls parses x words s t r h w = grind arith

-- a value within a group takes what its type states
pub group_keeps : {T : Type 0} (takes : Takings T) (calls : Call T) (d : Delimiter)
    → IsVisibleDelimiter d
    → (s t : State) (r : Result (DelimSpan × T) Fault)
    → ((x : State) (y : Result T Fault) (z : State) → calls x y z → Keeps takes x y z)
    → RunsWithin calls (enter d s.place) (refused_at s (delimiter_words d)) s r t
    → Keeps (grouped d takes) s r t
group_keeps untold calls d v s t r each w = tt
group_keeps (stated alone form take x) calls d v s t r each w =
    under alone _ _ (λ i. group_told form take calls d v s t
    (λ x y z l h. given alone _ _ (each x y z h) (given_on alone _ _ l.1 i)) r w)

-- a group is entered
module _ {T : Type 0} (span_of : T → DelimSpan) (content : T → State) (d : Delimiter)
    (visible : IsVisibleDelimiter d) (s t : State) where
  value_enters : (e : Entered) (v : T) → enter d s.place ≡ Some e → whole_span (span_of v) ≡ e.span
      → content v ≡ content_of e → t ≡ after_group e s → EntersAhead span_of content d s (Ok v) t
  value_enters e v h i j k =
      let first = first-entered d visible s.place (Some e) h in
      let same = (group_is_first d (erased_ahead s.place) (entered_ahead e) first).1 in
      rw (k, j, i) (
        rw same at first,
        refl,
        refl,
        λ f. (both-filled d visible s.place e h f).0,
        λ f m g. said_outside d visible s e h f m g,
        content-remains d s.place e h,
        after-stays d visible s (after_group e s) e h refl refl,
      )

  not-entered : (f : Fault) → enter d s.place ≡ None → Refuses (refused_at s (delimiter_words d)) f
      → EntersAhead span_of content d s (Err f) t
  not-entered (Refused e) h r =
      ((first-entered d visible s.place None h, ap length r), here_told _ s (Refused e) r)
  not-entered (Memory e) h r = (tt, λ i. tt)

  enters : (x : Option Entered) (r : Result T Fault) → enter d s.place ≡ x
      → Enters (λ v e. AreParts (span_of v) (content v) e) x (refused_at s (delimiter_words d)) s r
      t
      → EntersAhead span_of content d s r t
  enters x r h w = grind (arith, not-entered, value_enters)

  pub enters_ahead : (r : Result T Fault)
      → Enters (λ v e. AreParts (span_of v) (content v) e) (enter d s.place)
      (refused_at s (delimiter_words d)) s r t
      → EntersAhead span_of content d s r t
  enters_ahead r w = enters (enter d s.place) r refl w

-- a call of a function that is passed
pub at-states : {T : Type 0} (calls : Call T) (s t u v : State) (r : Result T Fault) → s ≡ u → t ≡ v
    → calls s r t → calls u r v
at-states calls s t u v r a b h = rw (a, b) at h

-- what is known of a group that has been entered
pub group_entered : {T : Type 0} (Parts : T → Entered
    → Type 0) (x : Option Entered) (words : Message) (s : State) (v : T) (t : State)
    → Enters Parts x words s (Ok v) t
    → (e : Entered) × (x ≡ Some e) × Parts v e × (t ≡ after_group e s)
group_entered Parts x words s v t h = grind arith
