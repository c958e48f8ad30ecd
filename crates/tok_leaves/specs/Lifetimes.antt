-- Lifetimes, and which texts make one.
use Rattle.std.specs.Prelude.{ℕ, ◌==◌, ◌&&◌, Bool, false, if◌then◌else◌, List, [], ◌∷◌, codes}
use Rattle.std.specs.Prelude.{Option, Some, None}
use Rattle.std.specs.List.{list_all}
use Rattle.unicode_ident.specs.Ident.{is_xid_continue}
use Rattle.tok_lexical.specs.Ascii.{apostrophe, lower_r, number_sign}
use Rattle.tok_lexical.specs.Words.{is_identifier_start, has_no_raw}
use Rattle.tok_leaves.specs.Leaves.{ident_of, leaf_text}
use Rattle.tok_leaves.specs.declared.ident.MakeFault.{MakeFault}
use Rattle.tok_leaves.specs.declared.ident.MakeFault.TheVariants as made
use Rattle.tok_leaves.specs.declared.ident.MakeFault.TheVariants.{Refused}
use Rattle.tok_leaves.specs.declared.lifetime.Lifetime.{Lifetime}
use Rattle.tok_leaves.specs.declared.lifetime.LifetimeFault.{LifetimeFault}
use Rattle.tok_leaves.specs.declared.lifetime.LifetimeFault.TheVariants.{NoApostrophe, Empty}
use Rattle.tok_leaves.specs.declared.lifetime.LifetimeFault.TheVariants.{NotIdentifier, NoRaw}
use Rattle.tok_leaves.specs.declared.lifetime.LifetimeFault.TheVariants.{Memory}

-- the identifier's text
abbrev pub name_of : Lifetime → List ℕ
name_of l = leaf_text (ident_of l.ident)

-- an apostrophe and the name
abbrev pub lifetime_text : Lifetime → List ℕ
lifetime_text l = apostrophe ∷ name_of l

-- a plain identifier
abbrev pub is_identifier : List ℕ → Bool
is_identifier [] = false
is_identifier (c ∷ cs) = is_identifier_start c && list_all is_xid_continue cs

-- what follows `r#`
abbrev pub raw_word : List ℕ → Option (List ℕ)
raw_word (c ∷ (d ∷ word)) = if c == lower_r && d == number_sign then Some word else None
raw_word cs = None

-- why these characters are no plain identifier; `None` if they are one
abbrev pub plain_error : List ℕ → Option LifetimeFault
plain_error [] = Some Empty
plain_error (c ∷ cs) = if is_identifier (c ∷ cs) then None else Some NotIdentifier

-- why the characters after `r#` are no name; `None` if they are one
abbrev pub raw_error : List ℕ → Option LifetimeFault
raw_error word = if has_no_raw word then Some NoRaw else plain_error word

-- why the characters after an apostrophe are no name, plain or raw; `None` if they are one
abbrev pub name_error : List ℕ → Option LifetimeFault
name_error cs = elim (raw_word cs) [ Some word ↦ raw_error word | None ↦ plain_error cs ]

-- why these characters make no lifetime; `None` if they do
abbrev pub lifetime_fault : List ℕ → Option LifetimeFault
lifetime_fault [] = Some NoApostrophe
lifetime_fault (c ∷ cs) = if c == apostrophe then name_error cs else Some NoApostrophe

-- an allocation failure says nothing of the text
abbrev pub error_in : LifetimeFault → Option LifetimeFault
error_in Memory = None
error_in fault = Some fault

-- a maker's fault, at a name that isn't empty and may be raw
abbrev pub name_fault : MakeFault → LifetimeFault
name_fault Refused = NotIdentifier
name_fault made.Memory = Memory

-- the message of each fault
abbrev pub lifetime_fault_words : LifetimeFault → List ℕ
lifetime_fault_words NoApostrophe = codes "lifetime without an apostrophe"
lifetime_fault_words Empty = codes "lifetime without a name"
lifetime_fault_words NotIdentifier = codes "lifetime whose name is no identifier"
lifetime_fault_words NoRaw = codes "lifetime whose raw name does not exist"
lifetime_fault_words Memory = codes "out of memory"
