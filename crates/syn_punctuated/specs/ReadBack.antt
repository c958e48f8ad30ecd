-- What is read if the trees of a value are next.
use Rattle.std.specs.Prelude.{◌≡◌, ℕ, ◌<◌, true, false, List, [], ◌∷◌, length, Result, Ok, Err}
use Rattle.std.specs.List.{All}
use Rattle.tok_core.specs.Forest.{Forest, no_trees, concat}
use Rattle.tok_leaves.specs.declared.ident.Ident.{Ident}
use Rattle.tok_types.specs.Texts.{accept_as_ident, punctuation_word}
use Rattle.tok_buffer.specs.Place.{Enclosing, frame, Place, at, is_at_end}
use Rattle.syn_parse.specs.Faults.{IsMemory}
use Rattle.syn_parse.specs.Reads.{Call}
use Rattle.syn_parse.specs.State.{State, moved}
use Rattle.syn_parse.specs.declared.fault.Fault.{Fault}
use Rattle.syn_punctuated.specs.Lists.{values_of, separators_of}
use Rattle.syn_punctuated.specs.Printed.{by_turns}
use Rattle.syn_punctuated.specs.Turns.{terminated, IsPlainRun}
use Rattle.syn_punctuated.specs.declared.punctuated.Punctuated.{Punctuated}

-- a place in no invisible group: the trees passed, the last one first, and the trees ahead
abbrev pub flat : Enclosing → (number scope count : ℕ) → (passed ahead : Forest) → Place
flat o n s c p f = at n s c (frame o p f) []

module _ {T : Type 0} (parses : Call T) (printed : T → Forest) where
  -- x is read, and the stream is after its trees; or an allocation failed
  abbrev pub ReadsAs :
      T → Enclosing → (number scope count : ℕ) → (ahead : Forest) → Call T
  ReadsAs x o n s c f from (Ok v) to =
      (v ≡ x)
      × ((d : ℕ) × (q : Forest) × (c < d) × (to ≡ moved (flat o n s d q f) from))
  ReadsAs x o n s c f from (Err e) to = IsMemory e

  -- If the trees of x are next, whatever comes after them, x is read.
  pub record IsReadBack (x : T) : Type 0 where
    pub some : (o : Enclosing) (n s c : ℕ) (p f : Forest)
        → is_at_end (flat o n s c p (concat (printed x) f)) ≡ false
    pub reads : (o : Enclosing) (n s c : ℕ) (p f : Forest) (from to : State) (r : Result T Fault)
        → from.place ≡ flat o n s c p (concat (printed x) f)
        → parses from r to → ReadsAs x o n s c f from r to

-- as many values as separators, or one more
abbrev pub AreByTurns : {X Y : Type 0} → List X → List Y → Type 0
AreByTurns [] [] = Unit {0}
AreByTurns [] (y ∷ ys) = ⊥
AreByTurns (x ∷ xs) [] = xs ≡ []
AreByTurns (x ∷ xs) (y ∷ ys) = AreByTurns xs ys

module _ {T P : Type 0} (value_parses : Call T) (value_printed : T → Forest)
    (separator_parses : Call P) (separator_printed : P → Forest) where
  -- a list of these values and separators is read, and nothing is left; or an allocation failed
  abbrev pub ReadsList :
      List T → List P → Enclosing → (number scope : ℕ) → Call (Punctuated T P)
  ReadsList xs ys o n s from (Ok list) to =
      (values_of list ≡ xs) × (separators_of list ≡ ys)
      × ((d : ℕ) × (q : Forest) × (to ≡ moved (flat o n s d q no_trees) from))
  ReadsList xs ys o n s from (Err e) to = IsMemory e

  -- values and separators that are read back one by one are read back as a list
  abbrev pub ListsAreReadBack : Type 0
  ListsAreReadBack =
      (xs : List T) (ys : List P) → AreByTurns xs ys
      → All (IsReadBack value_parses value_printed) xs
      → All (IsReadBack separator_parses separator_printed) ys
      → (o : Enclosing) (n s c : ℕ) (p : Forest) (from to : State)
      (r : Result (Punctuated T P) Fault)
      → from.place ≡ flat o n s c p (by_turns value_printed separator_printed xs ys)
      → IsPlainRun terminated value_parses separator_parses from r to
      → ReadsList xs ys o n s from r to

-- an identifier that is no reserved word
abbrev pub IsAccepted : Ident → Type 0
IsAccepted i = accept_as_ident i.text ≡ true

-- a punctuation of the table, of this many characters
abbrev pub IsInTable : (k n : ℕ) → Type 0
IsInTable k n = 0 < length (punctuation_word k n)

-- the values and the separators again, or an allocation failure
abbrev pub ReadsAgain : {T P : Type 0} → Punctuated T P → Result (Punctuated T P) Fault → Type 0
ReadsAgain list (Ok new) =
    (values_of new ≡ values_of list) × (separators_of new ≡ separators_of list)
ReadsAgain list (Err e) = IsMemory e
