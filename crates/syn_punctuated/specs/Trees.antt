-- The trees that a list was read from.
use Rattle.std.specs.Prelude.{◌≡◌, ◌⊎◌, ℕ, Bool, true, List, [], ◌∷◌, ◌++◌, map, Ok}
use Rattle.tok_leaves.specs.declared.ident.Ident.{Ident}
use Rattle.tok_leaves.specs.declared.punct.Spacing.{Spacing}
use Rattle.tok_leaves.specs.declared.punct.Spacing.TheVariants.{Alone, Joint}
use Rattle.tok_leaves.specs.declared.span.Span.{Span}
use Rattle.tok_core.specs.Forest.{Tree, leaf}
use Rattle.tok_leaves.specs.Leaves.{punct, ident_of}
use Rattle.tok_buffer.specs.Ahead.{marked_ahead}
use Rattle.tok_buffer.specs.Place.{Place, is_at_end}
use Rattle.tok_types.specs.Texts.{punctuation_word}
use Rattle.tok_types.specs.declared.punctuation.Punctuation.{Punctuation}
use Rattle.syn_parse.specs.Reads.{Call}
use Rattle.syn_parse.specs.State.{State}
use Rattle.syn_punctuated.specs.Lists.{values_of, separators_of}
use Rattle.syn_punctuated.specs.Turns.{terminated, separated, IsPlainRun}
use Rattle.syn_punctuated.specs.declared.punctuated.Punctuated.{Punctuated}

-- the visible trees from a place to its scope's end
abbrev pub trees_ahead : Place → List Tree
trees_ahead p = map (λ t. t.1) (marked_ahead p)

-- these trees are passed: they are the first ahead, and the others are ahead after it
abbrev pub Passes : List Tree → (from to : State) → Type 0
Passes ts from to = trees_ahead from.place ≡ ts ++ trees_ahead to.place

-- x is one of these
abbrev pub IsOneOf : {A : Type 0} → List A → A → Type 0
IsOneOf [] x = ⊥
IsOneOf (y ∷ ys) x = (x ≡ y) ⊎ IsOneOf ys x

-- A parser that states what it reads: the trees that are passed are one of the lists of trees that
-- the value may be read from.
abbrev pub StatesTrees : {T : Type 0} → Call T → (T → List (List Tree)) → Type 0
StatesTrees {T = T} parses sources =
    (s t : State) (v : T) → parses s (Ok v) t
    → (ts : List Tree) × IsOneOf (sources v) ts × Passes ts s t

module _ {T P : Type 0} (values : T → List (List Tree)) (separators : P → List (List Tree)) where
  -- the trees are those of the values and the separators in turn, a value first
  abbrev pub AreTreesOf : List T → List P → List Tree → Type 0
  AreTreesOf [] ys ts = (ys ≡ []) × (ts ≡ [])
  AreTreesOf (x ∷ xs) [] ts = (xs ≡ []) × IsOneOf (values x) ts
  AreTreesOf (x ∷ xs) (y ∷ ys) ts =
      (us vs more : List Tree) × (ts ≡ us ++ (vs ++ more))
      × IsOneOf (values x) us × IsOneOf (separators y) vs × AreTreesOf xs ys more

  -- the trees of a list are passed
  abbrev pub PassesList : Punctuated T P → (from to : State) → Type 0
  PassesList list from to =
      (ts : List Tree) × AreTreesOf (values_of list) (separators_of list) ts × Passes ts from to

  -- A list that is returned has the values and the separators of the trees that were passed, if
  -- both parsers state what they read. A terminated list leaves nothing.
  abbrev pub ListsHaveTheirTrees :
      (value_parses : Call T) (separator_parses : Call P) (peeks : Place → Bool → Type 0) → Type 0
  ListsHaveTheirTrees value_parses separator_parses peeks =
      StatesTrees value_parses values → StatesTrees separator_parses separators
      → (s t : State) (list : Punctuated T P)
      → (IsPlainRun terminated value_parses separator_parses s (Ok list) t
      → PassesList list s t × (is_at_end t.place ≡ true))
      × (IsPlainRun (separated peeks) value_parses separator_parses s (Ok list) t
      → PassesList list s t)

-- the one list of trees that an identifier is read from
abbrev pub ident_sources : Ident → List (List Tree)
ident_sources i = (leaf (ident_of i) ∷ []) ∷ []

-- puncts of these characters, each but the last joint
abbrev pub puncts_ending : Spacing → List ℕ → List Span → List Tree
puncts_ending last (c ∷ []) (s ∷ ss) = leaf (punct c last s) ∷ []
puncts_ending last (c ∷ (d ∷ cs)) (s ∷ ss) =
    leaf (punct c Joint s) ∷ puncts_ending last (d ∷ cs) ss
puncts_ending last cs ss = []

-- a punctuation may end in a punct that is alone or joint
abbrev pub punctuation_sources : {k n : ℕ} → Punctuation k n → List (List Tree)
punctuation_sources {k = k} {n = n} p =
    puncts_ending Alone (punctuation_word k n) p.spans
    ∷ (puncts_ending Joint (punctuation_word k n) p.spans ∷ [])
