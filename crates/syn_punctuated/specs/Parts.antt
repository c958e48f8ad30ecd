-- Parts of a grammar, as relations between the trees that are ahead, what the first of them are,
-- and the trees after those.
use Rattle.std.specs.Prelude.{◌≡◌, ◌↔◌, ℕ, true, List, [], ◌∷◌, Option, None, Some}
use Rattle.tok_lexical.specs.declared.delimiter.Delimiter.{Delimiter}
use Rattle.tok_leaves.specs.Leaves.{ident, punct}
use Rattle.tok_leaves.specs.declared.ident.Ident.{Ident}
use Rattle.tok_leaves.specs.declared.punct.Spacing.{Spacing}
use Rattle.tok_leaves.specs.declared.punct.Spacing.TheVariants.{Joint}
use Rattle.tok_leaves.specs.declared.span.DelimSpan.{DelimSpan}
use Rattle.tok_leaves.specs.declared.span.Span.{Span}
use Rattle.tok_core.specs.Forest.{Forest, group, leaf, no_trees, tree}
use Rattle.tok_types.specs.Texts.{accept_as_ident}
use Rattle.tok_types.specs.declared.keyword.Keyword.{Keyword}
use Rattle.tok_types.specs.declared.punctuation.Punctuation.{Punctuation}
use Rattle.syn_parse.specs.Takes.{Taking, found}
use Rattle.syn_parse.specs.TreesAhead.{only_trees}

-- `Is f v g`: the forest f is a part with the form v, and then the trees of g
abbrev pub Part : Type 0 → Type 1
Part A = Forest → A → Forest → Type 0

-- a parser finds a part of this form, leaves the trees after it, and leaves nothing unread in a
-- group, exactly if the grammar has the part there
abbrev pub HasGrammar : {A : Type 0} → Taking A → Part A → Type 0
HasGrammar {A} take Is =
    (f g : Forest) (v : A) → (take (only_trees f) ≡ found v (only_trees g)) ↔ Is f v g

-- no such part is next
abbrev pub No : {A : Type 0} → Part A → Forest → Type 0
No {A} Is f = (v : A) (g : Forest) → Is f v g → ⊥

-- an identifier that is no reserved word
pub data IsIdentifier : Forest → Ident → Forest → Type 0 where
  identifier : {text : List ℕ} {span : Span} {f : Forest} → accept_as_ident text ≡ true
      → IsIdentifier (tree (leaf (ident text span)) f) (record { text = text; span = span }) f

-- an identifier or a reserved word
pub data IsAnyIdent : Forest → Ident → Forest → Type 0 where
  any_ident : {text : List ℕ} {span : Span} {f : Forest}
      → IsAnyIdent (tree (leaf (ident text span)) f) (record { text = text; span = span }) f

-- the keyword of this text
pub data IsWord {k : ℕ} (text : List ℕ) : Forest → Keyword k → Forest → Type 0 where
  word : {span : Span} {f : Forest}
      → IsWord text (tree (leaf (ident text span)) f) (record { span = span }) f

-- puncts of these characters, and their spans; each but the last is joint
pub data ArePuncts : List ℕ → Forest → List Span → Forest → Type 0 where
  last : {c : ℕ} {spacing : Spacing} {span : Span} {f : Forest}
      → ArePuncts (c ∷ []) (tree (leaf (punct c spacing span)) f) (span ∷ []) f
  joint : {c d : ℕ} {cs : List ℕ} {span : Span} {spans : List Span} {f g : Forest}
      → ArePuncts (d ∷ cs) f spans g
      → ArePuncts (c ∷ (d ∷ cs)) (tree (leaf (punct c Joint span)) f) (span ∷ spans) g

-- the punctuation of this text
pub data IsSign {k n : ℕ} (text : List ℕ) : Forest → Punctuation k n → Forest → Type 0 where
  sign : {spans : List Span} {f g : Forest} → ArePuncts text f spans g
      → IsSign text f (record { spans = spans }) g

-- all trees that are left
pub data IsRest : Forest → Forest → Forest → Type 0 where
  rest : {f : Forest} → IsRest f f no_trees

-- a group whose contents are such a part, to the end
pub data InGroup {A : Type 0} (d : Delimiter) (Is : Part A)
    : Forest → DelimSpan × A → Forest → Type 0 where
  in_group : {inside f : Forest} {span : Span} {v : A} → Is inside v no_trees
      → InGroup d Is (tree (group d inside span) f) (record { join = span }, v) f

-- a group with this delimiter
abbrev pub IsGroup : Delimiter → Part (DelimSpan × Forest)
IsGroup d = InGroup d IsRest

-- such a part; or nothing, if its first part is not next
pub data Optional {A B : Type 0} (First : Part B) (Is : Part A)
    : Forest → Option A → Forest → Type 0 where
  absent : {f : Forest} → No First f → Optional First Is f None f
  present : {f g : Forest} {v : A} → Is f v g → Optional First Is f (Some v) g

-- such parts, until their first part is not next
pub data Many {A B : Type 0} (First : Part B) (Is : Part A)
    : Forest → List A → Forest → Type 0 where
  no_more : {f : Forest} → No First f → Many First Is f [] f
  and_more : {f g h : Forest} {v : A} {vs : List A} → Is f v g → Many First Is g vs h
      → Many First Is f (v ∷ vs) h

-- such parts, one or more, with a separator between them, until no separator is next
pub data Separated {A P : Type 0} (Is : Part A) (Separates : Part P)
    : Forest → List A × List P → Forest → Type 0 where
  one : {f g : Forest} {v : A} → Is f v g → No Separates g
      → Separated Is Separates f (v ∷ [], []) g
  and_others : {f g h i : Forest} {v : A} {p : P} {vs : List A} {ps : List P} → Is f v g
      → Separates g p h → Separated Is Separates h (vs, ps) i
      → Separated Is Separates f (v ∷ vs, p ∷ ps) i

-- such parts, to the end, with a separator between them; there may be one after the last
pub data Terminated {A P : Type 0} (Is : Part A) (Separates : Part P)
    : Forest → List A × List P → Forest → Type 0 where
  nothing : Terminated Is Separates no_trees ([], []) no_trees
  last_one : {f : Forest} {v : A} → Is f v no_trees
      → Terminated Is Separates f (v ∷ [], []) no_trees
  and_rest : {f g h i : Forest} {v : A} {p : P} {vs : List A} {ps : List P} → Is f v g
      → Separates g p h → Terminated Is Separates h (vs, ps) i
      → Terminated Is Separates f (v ∷ vs, p ∷ ps) i
