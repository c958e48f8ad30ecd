-- By what values of a type are compared, ordered and hashed.
use Rattle.std.specs.Prelude.{ℕ, Bool, List, Option}
use Rattle.std.specs.Cmp.Lexicographic.{slice_cmp}
use Rattle.std.specs.Ordering.{nat_cmp}
use Rattle.std.specs.Hash as fed
use Rattle.std.specs.declared.cmp.Ordering.{Ordering}
use Rattle.tok_lexical.specs.Laws.{EqualBy, HashedBy, OrderAgrees, OrderedBy}
use Rattle.tok_leaves.specs.declared.ident.Ident.{Ident}
use Rattle.tok_leaves.specs.Leaves.{ident_of, leaf_text}

-- the order of texts: that of the first bytes that differ, and a front of a text before the text
abbrev pub text_order : List ℕ → List ℕ → Ordering
text_order = slice_cmp nat_cmp

-- values are compared, ordered and hashed by the text that they show, and their order agrees with
-- equality
pub record IsByText {A : Type 0} (shown : A → List ℕ) (eq : A → A → Bool)
    (cmp : A → A → Ordering) (partial_cmp : A → A → Option Ordering)
    (hash_input : A → List (List ℕ)) : Type 0 where
  pub equal : EqualBy shown eq
  pub order : OrderedBy shown text_order cmp
  pub agree : OrderAgrees eq cmp partial_cmp
  pub hash : HashedBy shown fed.str hash_input

-- an identifier's text
abbrev pub text_of : Ident → List ℕ
text_of i = leaf_text (ident_of i)
