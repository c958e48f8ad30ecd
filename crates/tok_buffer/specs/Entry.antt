-- Entering a group: the place of its content, and the place after it.
use Rattle.std.specs.Prelude.{◌+◌, if◌then◌else◌, [], Option, Some, None}
use Rattle.tok_lexical.specs.declared.delimiter.Delimiter.{Delimiter}
use Rattle.tok_lexical.specs.declared.delimiter.Delimiter.TheVariants as delimiter
use Rattle.tok_leaves.specs.declared.span.Span.{Span}
use Rattle.tok_core.specs.Forest.{group, no_trees, tree}
use Rattle.tok_core.specs.Weight.{weight}
use Rattle.tok_buffer.specs.Descent.{descend}
use Rattle.tok_buffer.specs.Place.{in_group, frame, Place, at, pass}
pub use Rattle.tok_core.specs.Spanless.{same_delimiter}

-- a group that is entered, with what is known of its content and of what is after it
pub record EnteredWith (A : Type 0) : Type 0 where
  pub delimiter : Delimiter
  pub span : Span
  pub content : A
  pub after : A

-- a group that is entered, with the place of its content and the place after it
abbrev pub Entered : Type 0
Entered = EnteredWith Place

-- a group that is entered, with what is known of these two places
abbrev pub entered_with : {A : Type 0} → (Place → A) → Entered → EnteredWith A
entered_with known e =
    record {
      delimiter = e.delimiter;
      span = e.span;
      content = known e.content;
      after = known e.after;
    }

-- the next tree if it is a group, whatever its delimiter
abbrev pub enter_any : Place → Option Entered
enter_any (at n s c (frame o p (tree (group d inside span) f)) ls) =
    Some (record {
      delimiter = d;
      span = span;
      content = at n (c + 1 + weight inside) (c + 1)
          (frame (in_group d span) no_trees inside) [];
      after =
          pass (at n s c (frame o p (tree (group d inside span) f)) ls);
    })
enter_any p = None

-- the group that is entered, if it has this delimiter
abbrev pub entered_of : Delimiter → Option Entered → Option Entered
entered_of d None = None
entered_of d (Some e) = if same_delimiter d e.delimiter then Some e else None

-- a visible group is found through invisible groups, an invisible one is not
abbrev pub enter : Delimiter → Place → Option Entered
enter delimiter.None p = entered_of delimiter.None (enter_any p)
enter d p = entered_of d (enter_any (descend p))
