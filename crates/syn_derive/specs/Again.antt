-- What is parsed of the trees that values are written as.
use Rattle.std.specs.Prelude.{ℕ, [], ◌∷◌, Option, None, Some, if◌then◌else◌}
use Rattle.tok_leaves.specs.Spans.{call_site}
use Rattle.tok_core.specs.Erase.{erase}
use Rattle.tok_core.specs.Filled.{has_trees}
use Rattle.tok_core.specs.Forest.{Forest, concat, no_trees}
use Rattle.tok_types.specs.declared.punctuation.Punctuation.{Punctuation}
use Rattle.syn_punctuated.specs.Parts.{Part}
use Rattle.syn_derive.specs.Attributes.{attributes_form}
use Rattle.syn_derive.specs.Generics.{ParamsForm, WhereForm, where_form}
use Rattle.syn_derive.specs.Inputs.{InputForm, data_form}
use Rattle.syn_derive.specs.Visibilities.{visibility_form}
use Rattle.syn_derive.specs.declared.derive.DeriveInput.{DeriveInput}
use Rattle.syn_derive.specs.declared.generics.Generics.{Generics}
use Rattle.syn_derive.specs.declared.generics.WhereClause.{WhereClause}

-- If the grammar has a value at the start of some trees, it has this value in what is written of
-- it, before the trees that came after it.
abbrev pub ParsedAgain : {V A : Type 0} → Part A → (form : V → A) → (trees : V → Forest) → Type 0
ParsedAgain {V} Is form trees =
    (f g : Forest) (v : V) → Is f (form v) g → Is (concat (erase (trees v)) g) (form v) g

-- The grammar has a value of this form in what is written, before any trees.
abbrev pub ParsedAnywhere : {V A : Type 0} → Part A → (form again : V → A) → (trees : V → Forest)
    → Type 0
ParsedAnywhere {V} Is form again trees =
    (f g h : Forest) (v : V) → Is f (form v) g → Is (concat (erase (trees v)) h) (again v) h

-- the trees of a punctuation of one character, or of the one at the call site
abbrev pub given : {k : ℕ} → Option (Punctuation k 1) → Punctuation k 1
given (Some sign) = sign
given None = record { spans = call_site ∷ [] }

-- parameters and their brackets, which are not written if there are no parameters
abbrev pub again_params : Generics → ParamsForm
again_params g =
    if has_trees g.params
    then (Some (given g.lt_token), erase g.params, Some (given g.gt_token))
    else (None, no_trees, None)

-- a `where` clause, which is not written if it has no predicates
abbrev pub again_clause : Option WhereClause → Option WhereForm
again_clause None = None
again_clause (Some w) = if has_trees w.predicates then Some (where_form w) else None

-- a derive input, in which all else is the same
abbrev pub again_form : DeriveInput → InputForm
again_form i = (
  attributes_form i.attrs,
  visibility_form i.vis,
  (
    i.ident,
    again_params i.generics,
    again_clause i.generics.where_clause,
    data_form i.data,
  ),
)
