-- What a type states of its parser, by the visible trees ahead.
use Rattle.std.specs.Prelude.{◌≡◌, ◌<◌, ◌≤◌, ℕ, Bool, true, false, List, IfErr, Result}
use Rattle.std.specs.Global.{Box}
use Rattle.tok_leaves.specs.Spans.{call_site}
use Rattle.tok_leaves.specs.declared.span.Span.{Span}
use Rattle.tok_core.specs.Erase.{erase}
use Rattle.tok_core.specs.Filled.{filled}
use Rattle.tok_core.specs.Forest.{Forest}
use Rattle.tok_core.specs.Lexical.Laws.{IsAllVisible}
use Rattle.tok_core.specs.Weight.{weight}
use Rattle.syn_parse.specs.Faults.{FailsWith}
use Rattle.syn_parse.specs.Parsers.{OfText, lex_message}
use Rattle.syn_parse.specs.Reads.{Call}
use Rattle.syn_parse.specs.Takes.{Agree, ErrorsAgree, MemoryOr, Taking, TakesAll, TakesAs, found}
use Rattle.syn_parse.specs.TreesAhead.{Ahead, IsFilled, whole}
use Rattle.syn_parse.specs.declared.fault.Fault.{Fault}

-- at most this; or less, if the flag is set
abbrev pub Less : (strict : Bool) → ℕ → ℕ → Type 0
Less false n m = n ≤ m
Less true n m = n < m

-- after a value no more is ahead than before it; or less, if the flag is set
pub record Lessens (strict : Bool) {A : Type 0} (take : Taking A) : Type 0 where
  pub less : (a b : Ahead) (v : A) → take a ≡ found v b
      → Less strict (weight b.trees) (weight a.trees)

-- no more is ahead after a value than before it
abbrev pub Lightens : {A : Type 0} → Taking A → Type 0
Lightens = Lessens false

-- less is ahead after a value than before it
abbrev pub Lowers : {A : Type 0} → Taking A → Type 0
Lowers = Lessens true

-- what is known of how much is taken: nothing; that no more is ahead than before; or that less is
pub data Weighs {A : Type 0} (take : Taking A) : Type 0 where
  unweighed : Weighs take
  weighs : (strict : Bool) → Lessens strict take → Weighs take

-- no more is ahead after a value
pattern abbrev pub lighter : {A : Type 0} {take : Taking A} → Lightens take → Weighs take
lighter h = weighs false h

-- less is ahead after a value
pattern abbrev pub lower : {A : Type 0} {take : Taking A} → Lowers take → Weighs take
lower h = weighs true h

-- What a type states: nothing; or what is taken, and the form in which contracts see a value. If
-- the flag is set, it states this at places of filled forests alone.
pub data Takings (T : Type 0) : Type 1 where
  untold : Takings T
  stated : {A : Type 0} (filled_alone : Bool) (form : T → A) (take : Taking A) → Weighs take
      → Takings T

-- what is taken everywhere, in a form, and how much
pattern abbrev pub told : {T A : Type 0} → (T → A) → (take : Taking A) → Weighs take → Takings T
told form take weighing = stated false form take weighing

-- what is taken at places of filled forests alone
pattern abbrev pub told_filled : {T A : Type 0} → (T → A) → (take : Taking A) → Weighs take
    → Takings T
told_filled form take weighing = stated true form take weighing

-- something is stated
abbrev pub IsTold : {T : Type 0} → Takings T → Type 0
IsTold untold = ⊥
IsTold takes = Unit {0}

-- the very value is taken
abbrev pub taken : {T : Type 0} → Taking T → Takings T
taken take = told (λ v. v) take unweighed

-- a value is taken in a form
abbrev pub taken_as : {T A : Type 0} → (T → A) → Taking A → Takings T
taken_as form take = told form take unweighed

-- a value is taken in a form, if no invisible group is empty
abbrev pub taken_filled : {T A : Type 0} → (T → A) → Taking A → Takings T
taken_filled form take = told_filled form take unweighed

-- a claim, under this premise if the flag is set
abbrev pub Under : Bool → Type 0 → Type 0 → Type 0
Under false P Q = Q
Under true P Q = P → Q

-- a call keeps what is stated
abbrev pub Keeps : {T : Type 0} → Takings T → Call T
Keeps untold s r t = Unit {0}
Keeps (stated filled_alone form take weighing) s r t =
    Under filled_alone (IsFilled s.place) (TakesAs form take s r t)

-- a box states what its value states
abbrev pub boxed : {T : Type 0} → Takings T → Takings (Box T)
boxed untold = untold
boxed (stated filled_alone form take weighing) =
    stated filled_alone (λ b. form b.value) take weighing

-- a whole stream, whose end is at this span, keeps what is stated
abbrev pub KeepsWhole : {T : Type 0} → Takings T → Forest → Span → Result T Fault → Type 0
KeepsWhole untold f scope r = Unit {0}
KeepsWhole (stated filled_alone form take weighing) f scope r =
    Under filled_alone (filled f ≡ true) (TakesAll form take f scope r)

-- two streams that differ only in invisible groups agree
abbrev pub KeepsBoth : {T : Type 0} → Takings T → (left right : Forest) → Result T Fault
    → Result T Fault → Type 0
KeepsBoth untold left right x y = Unit {0}
KeepsBoth (stated filled_alone form take weighing) left right x y =
    erase left ≡ erase right → Under filled_alone (filled left ≡ true)
    (Under filled_alone (filled right ≡ true) (Agree form x y))

-- two errors agree, if each invisible group holds a visible tree
abbrev pub KeepsWords : {T : Type 0} → Takings T → (left right : Forest) → Result T Fault
    → Result T Fault → Type 0
KeepsWords untold left right x y = Unit {0}
KeepsWords (stated filled_alone form take weighing) left right x y =
    erase left ≡ erase right → filled left ≡ true → filled right ≡ true
    → ErrorsAgree (take (whole left)) x y

-- an error has one message; an allocation failure may take its place
abbrev pub HasOneMessage : {T : Type 0} → Takings T → Result T Fault → Type 0
HasOneMessage untold r = Unit {0}
HasOneMessage takes r = IfErr r (λ f. MemoryOr f (Unit {0}))

-- a visible forest, which keeps what is stated up to this end
abbrev pub KeepsAllVisible : {T : Type 0} → Takings T → (end : Forest → Span) → Forest
    → Result T Fault → Type 0
KeepsAllVisible takes end f r = IsAllVisible f × KeepsWhole takes f (end f) r

-- a text is parsed as source 0, up to an end at the call site, and keeps what is stated
abbrev pub KeepsText : {T : Type 0} → Takings T → List ℕ → Result T Fault → Type 0
KeepsText takes = OfText 0 (KeepsAllVisible takes (λ f. call_site)) (λ e. FailsWith (lex_message e))
