-- Terminated and separated lists take what their values and separators do.
use Rattle.std.proofs.Common.{arith}
use Rattle.std.proofs.Common.{◌≡◌, ◌∙◌, sym, ap, ℕ, Bool, not, Option, Some}
use Rattle.std.specs.Prelude.{Result}
use Rattle.tok_core.specs.Forest.{Forest}
use Rattle.tok_buffer.specs.Place.{Place, is_at_end}
use Rattle.tok_buffer.specs.Reads.{read_punctuation}
use Rattle.tok_types.specs.Looks.{PeeksFor}
use Rattle.tok_types.specs.Sees.{Sees, punctuation_first}
use Rattle.tok_types.specs.Texts.{punctuation_word}
use Rattle.tok_types.specs.declared.punctuation.Punctuation.{Punctuation}
use Rattle.syn_parse.proofs.Premises.{given, premise}
use Rattle.syn_parse.proofs.Told.{end_told}
use Rattle.syn_parse.specs.Lighter.{lightens, lowers_token}
use Rattle.syn_parse.specs.Progress.{ParsesGoOn, ParsesOn, PunctuationTypeParses}
use Rattle.syn_parse.specs.Reads.{Call}
use Rattle.syn_parse.specs.State.{State}
use Rattle.syn_parse.specs.Takes.{TakesAs, Taking}
use Rattle.syn_parse.specs.Takings as states
use Rattle.syn_parse.specs.Takings.{Lightens, Lowers, Takings, lower, stated, told, weighs}
use Rattle.syn_parse.specs.Tokens.{take_token}
use Rattle.syn_parse.specs.Tokens as token
use Rattle.syn_parse.specs.TreesAhead.{IsFilled, ahead}
use Rattle.syn_parse.specs.declared.fault.Fault.{Fault}
use Rattle.syn_punctuated.proofs.TakenRuns.{Tells, run_takes}
use Rattle.syn_punctuated.specs.TakeLists.{Separates, always, is_left, list_form, separated_list}
use Rattle.syn_punctuated.specs.TakeLists.{take_list}
use Rattle.syn_punctuated.specs.TakeLists.{terminated_list}
use Rattle.syn_punctuated.specs.Turns.{IsRun, ValueCall, separated, terminated}
use Rattle.syn_punctuated.specs.declared.punctuated.Punctuated.{Punctuated}

abbrev Filled : State → Type 0
Filled s = IsFilled s.place

left-there : (s : State) (b : Bool) → IsFilled s.place → is_at_end s.place ≡ b
    → is_left (ahead s) ≡ not b
left-there s b i h = ap not (sym (end_told s.place i) ∙ h)

tells-terminated : Tells terminated is_left is_left Filled
tells-terminated = grind (arith, left-there)

abbrev SeenBy : (Place → Bool → Type 0) → (Forest → Bool) → Place → Bool → Type 0
SeenBy peeks sees p found = peeks p found × Sees (Some sees) p found

tells-separated : (peeks : Place → Bool → Type 0) (sees : Forest → Bool)
    → Tells (separated (SeenBy peeks sees)) always (λ a. sees a.trees) (λ s. Unit {0})
tells-separated peeks sees = grind arith

module _ {T P F : Type 0} (reads : ValueCall F T) (parses : Call P) (go : ParsesOn parses) where
  module _ {S : Type 0} (shape : P → S) (sign : Taking S) (less : Lowers sign) where
    abbrev takes : Takings P
    takes = told shape sign (lower less)

    module _ {A : Type 0} (form : T → A) (value : Taking A) (light : Lightens value) where
      by-end : ((f g : F) (s t : State) (r : Result T Fault) → IsFilled s.place → reads f s r g t
          → TakesAs form value s r t)
          → (f : F) (s t : State) (r : Result (Punctuated T P) Fault) → IsFilled s.place
          → IsRun terminated reads (Separates parses takes) f s r t
          → TakesAs (list_form form shape) (take_list is_left is_left value sign) s r t
      by-end each f s t r i run =
          run_takes terminated reads (Separates parses takes) is_left is_left Filled
          tells-terminated form
          value light shape sign less each (λ x y q j k. k.1) (λ x p y k. go.lowers x p y k.0) f s t
          r i run

      by-sign : (peeks : Place → Bool → Type 0) (sees : Forest → Bool)
          → ((f g : F) (s t : State) (r : Result T Fault) → reads f s r g t
          → TakesAs form value s r t)
          → (f : F) (s t : State) (r : Result (Punctuated T P) Fault)
          → IsRun (separated (SeenBy peeks sees)) reads (Separates parses takes) f s r t
          → TakesAs (list_form form shape) (take_list always (λ a. sees a.trees) value sign) s r t
      by-sign peeks sees each f s t r run =
          run_takes (separated (SeenBy peeks sees)) reads (Separates parses takes) always
          (λ a. sees a.trees) (λ x. Unit {0}) (tells-separated peeks sees) form value light shape
          sign less
          (λ x y a b q j k. each x y a b q k) (λ x y q j k. k.1) (λ x p y k. go.lowers x p y k.0) f
          s t r tt
          run

  pub terminated_keeps : (values : Takings T) (signs : Takings P)
      → ((f g : F) (s t : State) (r : Result T Fault) → reads f s r g t → states.Keeps values s r t)
      → (f : F) (s t : State) (r : Result (Punctuated T P) Fault)
      → IsRun terminated reads (Separates parses signs) f s r t
      → states.Keeps (terminated_list values signs) s r t
  terminated_keeps (stated alone form value (weighs x h)) (told shape sign (lower k)) each f s t r
      run =
      λ i. by-end shape sign k form value (lightens x value h)
      (λ y z a b q j w. given alone _ _ (each y z a b q w) (premise alone _ j)) f s t r i run
  terminated_keeps values signs each f s t r run = tt

  pub separated_keeps : (peeks : Place → Bool → Type 0) (sees : Option (Forest → Bool))
      (values : Takings T) (signs : Takings P)
      → ((f g : F) (s t : State) (r : Result T Fault) → reads f s r g t → states.Keeps values s r t)
      → (f : F) (s t : State) (r : Result (Punctuated T P) Fault)
      → IsRun (separated (λ p found. peeks p found × Sees sees p found)) reads
      (Separates parses signs) f s r t
      → states.Keeps (separated_list sees values signs) s r t
  separated_keeps peeks (Some sees) (told form value (weighs x h)) (told shape sign (lower k)) each
      f s t r run =
      by-sign shape sign k form value (lightens x value h) peeks sees each f s t r run
  separated_keeps peeks sees values signs each f s t r run = tt

-- what punctuations state
abbrev pub signs : (k n : ℕ) → Takings (Punctuation k n)
signs k n = told (λ p. p) (take_token (token.punctuation k n)) (lower (lowers_token _))

-- values with a punctuation between them, to the end
pub punctuated_keeps : {T F : Type 0} {k n : ℕ} (values : Takings T) {reads : ValueCall F T} {f : F}
    {s t : State} {r : Result (Punctuated T (Punctuation k n)) Fault} → ParsesGoOn
    → ((f g : F) (s t : State) (r : Result T Fault) → reads f s r g t → states.Keeps values s r t)
    → IsRun terminated reads (Separates (PunctuationTypeParses k n) (signs k n)) f s r t
    → states.Keeps (terminated_list values (signs k n)) s r t
punctuated_keeps {k = k} {n = n} values {reads} {f} {s} {t} {r} go each run =
    terminated_keeps reads (PunctuationTypeParses k n) (go.punctuations k n) values (signs k n) each
    f s t r run

-- the same for `search`, which finds what is left to show
pub list_keeps : {T F : Type 0} {k n : ℕ} (values : Takings T) {reads : ValueCall F T} {f : F}
    {s t : State} {r : Result (Punctuated T (Punctuation k n)) Fault}
    → IsRun terminated reads (Separates (PunctuationTypeParses k n) (signs k n)) f s r t
    → ParsesGoOn
    → ((f g : F) (s t : State) (r : Result T Fault) → reads f s r g t → states.Keeps values s r t)
    → states.Keeps (terminated_list values (signs k n)) s r t
list_keeps values run go each = punctuated_keeps values go each run

-- the same of values with a punctuation between them, as long as it is next
pub separated_list_keeps : {T F : Type 0} {k n : ℕ} (values : Takings T) {reads : ValueCall F T}
    {f : F} {s t : State} {r : Result (Punctuated T (Punctuation k n)) Fault}
    → IsRun (separated
    (SeenBy (PeeksFor (read_punctuation (punctuation_word k n))) (punctuation_first k n))) reads
    (Separates (PunctuationTypeParses k n) (signs k n)) f s r t
    → ParsesGoOn
    → ((f g : F) (s t : State) (r : Result T Fault) → reads f s r g t → states.Keeps values s r t)
    → states.Keeps (separated_list (Some (punctuation_first k n)) values (signs k n)) s r t
separated_list_keeps {k = k} {n = n} values {reads} {f} {s} {t} {r} run go each =
    separated_keeps reads (PunctuationTypeParses k n) (go.punctuations k n)
    (PeeksFor (read_punctuation (punctuation_word k n))) (Some (punctuation_first k n)) values
    (signs k n) each f s t r run
