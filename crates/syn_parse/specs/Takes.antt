-- Parsers as functions of what is ahead.
use Rattle.std.specs.Option.{option_or}
use Rattle.std.specs.Prelude.{◌≡◌, ◌<◌, ◌≤◌, ℕ, Bool, true, if◌then◌else◌, not, List, ◌++◌, codes}
use Rattle.std.specs.Prelude.{IfSome, Option, Some, None, Result, Ok, Err, length}
use Rattle.tok_lexical.specs.declared.delimiter.Delimiter.{Delimiter}
use Rattle.tok_leaves.specs.declared.span.DelimSpan.{DelimSpan}
use Rattle.tok_leaves.specs.declared.span.Span.{Span}
use Rattle.tok_leaves.specs.Spans.{closing_span}
use Rattle.tok_core.specs.Filled.{filled, has_trees}
use Rattle.tok_core.specs.Forest.{Tree, Forest}
use Rattle.tok_core.specs.Weight.{weight}
use Rattle.tok_buffer.specs.Entry.{EnteredWith}
use Rattle.tok_buffer.specs.InFront.{first_group, first_tree_span}
use Rattle.tok_buffer.specs.Messages.{first_text, message_at, one_message, spans_of}
use Rattle.tok_buffer.specs.Progress.{remaining}
use Rattle.tok_buffer.specs.View.{IsVisibleDelimiter}
use Rattle.syn_parse.specs.Faults.{IsMemory, RefusesAt}
use Rattle.syn_parse.specs.Reads.{Call}
use Rattle.syn_parse.specs.ErrorWords.{delimiter_words}
use Rattle.syn_parse.specs.Positions.{IsAt, Missing, at_span, at_trees, missing_inside, scope_trees}
use Rattle.syn_parse.specs.State.{State}
use Rattle.syn_parse.specs.declared.fault.Fault.{Fault}
use Rattle.syn_parse.specs.declared.fault.Fault.TheVariants.{Refused, Memory}
use Rattle.syn_parse.specs.TreesAhead.{Ahead, IsFilled, after_fork, ahead, all_taken, scope_of}
use Rattle.syn_parse.specs.TreesAhead.{only_trees, unread_after, whole}

-- a value and what is ahead after it, or what is missing
pub data Outcome (A : Type 0) : Type 0 where
  found : A → Ahead → Outcome A
  missing : Missing → Outcome A

-- what is taken of the trees ahead, or what is missing
abbrev pub Taking : Type 0 → Type 0
Taking A = Ahead → Outcome A

-- an outcome, and what is taken after it if something was found
abbrev pub and_then : {A B : Type 0} → Outcome A → (A → Ahead → Outcome B) → Outcome B
and_then (found v a) k = k v a
and_then (missing m) k = missing m

infixl 10 ◌>>=◌
-- one taking, and then another that may depend on its value
abbrev pub ◌>>=◌ : {A B : Type 0} → Taking A → (A → Taking B) → Taking B
m >>= k = λ a. and_then (m a) k

-- a value, and no tree
abbrev pub gives : {A : Type 0} → A → Taking A
gives v = found v

-- one taking if the test of what is ahead is true, else the other
abbrev pub where_ahead : {A : Type 0} → (Ahead → Bool) → Taking A → Taking A → Taking A
where_ahead test there other a = if test a then there a else other a

-- a text that names the end if nothing is left
abbrev pub or_end : List ℕ → Forest → List ℕ
or_end words f =
    if not (has_trees f) then codes "unexpected end of input, " ++ words else words

-- missing at the place with these trees ahead; the text names the end if none is ahead
abbrev pub missing_next : List ℕ → Forest → Missing
missing_next words f = record { position = at_trees f; words = or_end words f }

-- no value, but an error with these words at what is next
abbrev pub refuses : {A : Type 0} → List ℕ → Taking A
refuses words a = missing (missing_next words a.trees)

-- no value, but an error with these words at this span, whatever is ahead
abbrev pub refuses_at : {A : Type 0} → Span → List ℕ → Taking A
refuses_at span words a = missing (record { position = at_span span; words = words })

-- a value taken on a fork, to whose place the stream then moves
abbrev pub on_fork : {A : Type 0} → Taking A → Taking A
on_fork take a =
    and_then (take (only_trees a.trees)) (λ v fork. found v (after_fork fork a))

-- trees that are read, and what they mean
abbrev pub read_as : {T : Type 0} → (List Tree → T) → (Forest → Missing) → Ahead
    → Option (List Tree × Forest) → Outcome T
read_as means lack a None = missing (lack a.trees)
read_as means lack a (Some r) = found (means r.0) (record { trees = r.1; unread = a.unread })

-- what a read of the trees finds, or what is missing if it finds nothing
abbrev pub take_by : {T : Type 0} → (Forest → Option (List Tree × Forest)) → (List Tree → T)
    → (Forest → Missing) → Taking T
take_by read means lack a = read_as means lack a (read a.trees)

-- A group: a value is taken inside, and then the trees after it are ahead. A tree left unread
-- inside is recorded. What is missing at the end inside is missing at the closing delimiter.
abbrev pub after_inside : {T : Type 0} → Ahead → EnteredWith Forest → Outcome T
    → Outcome (DelimSpan × T)
after_inside a e (missing m) = missing (missing_inside (closing_span e.span) m)
after_inside a e (found v b) =
    found (record { join = e.span }, v)
    (record { trees = e.after; unread = unread_after a b })

-- a value taken inside the first group, if there is one
abbrev pub inside_first : {T : Type 0} → Delimiter → Taking T → Ahead → Option (EnteredWith Forest)
    → Outcome (DelimSpan × T)
inside_first d inner a None = refuses (delimiter_words d) a
inside_first d inner a (Some e) =
    after_inside a e (inner (only_trees e.content))

-- a group with this delimiter, and a value in it
unfoldable pub take_group : {T : Type 0} → Delimiter → Taking T → Taking (DelimSpan × T)
take_group d inner a = inside_first d inner a (first_group d a.trees)

-- nothing is found
abbrev pub IsMissing : {A : Type 0} → Outcome A → Type 0
IsMissing (found v a) = ⊥
IsMissing (missing m) = Unit {0}

-- an error of one message, and this holds; or an allocation failure
abbrev pub MemoryOr : Fault → Type 0 → Type 0
MemoryOr (Refused e) P = P × (length e ≡ 1)
MemoryOr (Memory e) P = Unit {0}

-- An error says that this is missing: it is one message with its words, at a span of its position,
-- among the trees of a scope that ends at that span.
abbrev pub Says : Forest → Span → Missing → Fault → Type 0
Says trees scope m (Refused e) =
    (span : Span) × IsAt trees scope m.position span × (e ≡ one_message (message_at span m.words))
Says trees scope m (Memory e) = Unit {0}

-- an error says what is missing; if a value is found, nothing is said
abbrev pub SaysFound : {A : Type 0} → Forest → Span → Outcome A → Fault → Type 0
SaysFound trees scope (found v a) f = Unit {0}
SaysFound trees scope (missing m) f = Says trees scope m f

-- an error says at a stream that this is missing, if the forest is filled
abbrev pub SaysAt : State → Missing → Fault → Type 0
SaysAt s m f = IsFilled s.place → Says (scope_trees s.place) s.scope_span m f

-- Nothing is found at a stream, and the error says what is missing; or an allocation failed. The
-- place and the words are those in a forest that is filled.
abbrev pub FailsAt : {A : Type 0} → State → Outcome A → Fault → Type 0
FailsAt s o f =
    MemoryOr f (IsMissing o)
    × (IsFilled s.place → SaysFound (scope_trees s.place) s.scope_span o f)

-- a stream stays in its scope, in which no more remains, and in a forest that is filled
abbrev pub Stays : State → State → Type 0
Stays s t =
    (IsFilled s.place → IsFilled t.place)
    × (scope_of t.place ≡ scope_of s.place)
    × (remaining t.place ≤ remaining s.place)
    × (scope_trees t.place ≡ scope_trees s.place)
    × (t.scope_span ≡ s.scope_span)

-- a call returns what is taken, seen in a form, and leaves what is ahead then
abbrev pub TakesAs : {T A : Type 0} → (T → A) → Taking A → Call T
TakesAs form take s (Ok v) t =
    (take (ahead s) ≡ found (form v) (ahead t)) × Stays s t
TakesAs form take s (Err f) t = FailsAt s (take (ahead s)) f

-- a call returns the very value that is taken
abbrev pub Takes : {T : Type 0} → Taking T → Call T
Takes = TakesAs (λ v. v)

-- less is ahead of a stream, and it is in a filled forest if the other one is
abbrev pub IsWithin : (inner outer : State) → Type 0
IsWithin inner outer =
    (weight (ahead inner).trees < weight (ahead outer).trees)
    × (IsFilled outer.place → IsFilled inner.place)

-- an error says of a group's contents what it says outside of the group
abbrev pub SaysOutside : (content : State) → Span → State → Type 0
SaysOutside content span s =
    IsFilled s.place → (m : Missing) (f : Fault)
    → Says (scope_trees content.place) content.scope_span m f
    → Says (scope_trees s.place) s.scope_span (missing_inside (closing_span span) m) f

-- A group is entered: its contents are ahead of a stream of their own, in which less remains, and
-- what is after it is ahead of this one. Or there is none.
abbrev pub EntersAhead : {T : Type 0} → (T → DelimSpan) → (T → State) → Delimiter → Call T
EntersAhead span_of content_of d s (Ok v) t =
    (first_group d (ahead s).trees ≡ Some (record {
      delimiter = d;
      span = (span_of v).join;
      content = (ahead (content_of v)).trees;
      after = (ahead t).trees;
    }))
    × ((ahead (content_of v)).unread ≡ None)
    × ((ahead t).unread ≡ (ahead s).unread)
    × (IsFilled s.place → IsFilled (content_of v).place)
    × SaysOutside (content_of v) (span_of v).join s
    × (remaining (content_of v).place < remaining s.place)
    × Stays s t
EntersAhead span_of content_of d s (Err f) t =
    MemoryOr f (first_group d (ahead s).trees ≡ None)
    × SaysAt s (missing_next (delimiter_words d) (ahead s).trees) f

-- each call of a function does as `TakesAs` says
abbrev pub TakeEach : {T A : Type 0} → (T → A) → Taking A → Call T → Type 0
TakeEach {T} form take calls =
    (s : State) (r : Result T Fault) (t : State) → calls s r t → TakesAs form take s r t

-- each call on a stream within this one does as `TakesAs` says
abbrev pub TakeWithin : {T A : Type 0} → State → (T → A) → Taking A → Call T → Type 0
TakeWithin {T} start form take calls =
    (s : State) (r : Result T Fault) (t : State) → IsWithin s start → calls s r t
    → TakesAs form take s r t

-- a call that runs a function in a group takes the group, if the function takes what is inside
abbrev pub RunsAhead : {R : Type 0} → Call R → Delimiter → Call (DelimSpan × R)
RunsAhead {R} calls d s r t =
    IsVisibleDelimiter d → (inner : Taking R) → TakeWithin s (λ v. v) inner calls
    → Takes (take_group d inner) s r t

-- all trees are taken, and this is their value
abbrev pub IsAll : {A : Type 0} → Taking A → Forest → A → Type 0
IsAll take f x = take (whole f) ≡ found x all_taken

-- an error says what is found missing, or is at the first tree that is left over, also in a group
abbrev pub SaysAll : {A : Type 0} → Forest → Span → Outcome A → Fault → Type 0
SaysAll f scope (found v a) e =
    IfSome (option_or a.unread (first_tree_span a.trees)) (λ span. RefusesAt span e)
SaysAll f scope (missing m) e = Says f scope m e

-- the value that all trees are, or an error if they are none
abbrev pub TakesAll : {T A : Type 0} → (T → A) → Taking A → Forest → Span → Result T Fault
    → Type 0
TakesAll form take f scope (Ok v) = IsAll take f (form v)
TakesAll {A} form take f scope (Err e) =
    MemoryOr e ((x : A) → IsAll take f x → ⊥)
    × (filled f ≡ true → SaysAll f scope (take (whole f)) e)

-- two results agree: values of one form, or none in both; an allocation failure agrees with each
abbrev pub Agree : {T A : Type 0} → (T → A) → Result T Fault → Result T Fault → Type 0
Agree form (Ok v) (Ok w) = form v ≡ form w
Agree form (Ok v) (Err f) = IsMemory f
Agree form (Err f) (Ok w) = IsMemory f
Agree form (Err f) (Err g) = Unit {0}

-- two errors agree: in their texts if something is missing, and in their spans if a tree is left
-- over
abbrev pub ErrorsAgree : {T A : Type 0} → Outcome A → Result T Fault → Result T Fault → Type 0
ErrorsAgree (missing m) (Err (Refused d)) (Err (Refused e)) = first_text d ≡ first_text e
ErrorsAgree (found v a) (Err (Refused d)) (Err (Refused e)) = spans_of d ≡ spans_of e
ErrorsAgree o left right = Unit {0}
