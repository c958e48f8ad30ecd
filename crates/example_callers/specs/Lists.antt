-- Items between commas, within one another.
use Rattle.std.specs.Prelude.{◌≡◌, true, Some, None, Ok}
use Rattle.tok_lexical.specs.declared.delimiter.Delimiter.TheVariants.{Parenthesis}
use Rattle.tok_leaves.specs.declared.ident.Ident.{Ident}
use Rattle.tok_leaves.specs.Spans.{whole_span}
use Rattle.tok_buffer.specs.Entry.{Entered, enter}
use Rattle.tok_buffer.specs.Place.{is_at_end}
use Rattle.tok_types.specs.declared.delimiter.Visible.{Visible}
use Rattle.syn_parse.specs.Parses.{IdentParses}
use Rattle.syn_parse.specs.State.{State, after_group, closed}
use Rattle.example_callers.specs.declared.lists.Item.{Item}
use Rattle.example_callers.specs.declared.lists.Item.TheVariants as item
use Rattle.example_callers.specs.declared.lists.Items.{Items}

-- An item, and the stream after it: a name if no parentheses are next; else a list with their
-- span, whose stream is closed after all that is inside.
pub data IsItem : State → Item → State → Type 0 where
  name :
      (s t : State) (name : Ident) → enter Parenthesis s.place ≡ None →
      IdentParses s (Ok name) t → IsItem s (item.Name name) t
  list :
      (s end : State) (e : Entered) (paren : Visible 0) (items : Items) →
      enter Parenthesis s.place ≡ Some e → whole_span paren.span ≡ e.span →
      is_at_end end.place ≡ true → IsItem s (item.List paren items) (closed end (after_group e s))
