-- Arguments as C sees them: an array, in which each argument is before those inside it.
use Rattle.std.specs.Prelude.{ℕ, List, [], ◌∷◌, ◌++◌, length}
use Rattle.tok_leaves.specs.declared.span.Span.{Span}
use Rattle.tok_leaves.specs.Spans.{call_site}
use Rattle.tok_entries.specs.Entries.{end_byte, first_byte}
use Rattle.arguments.specs.Forms.{Form, Forms, flag, assigned, with_list, none, one_more}
use Rattle.arguments.specs.Forms.{forms, list_form}
use Rattle.arguments.specs.Values.{Arguments}
use Rattle.entry_outcomes.specs.Answers.{Given}
use Rattle.syn_tokens_c.specs.declared.flat.FlatArgument.{FlatArgument}

-- an argument of this kind with these spans, which so many others are inside of
abbrev pub flat_as : ℕ → (name value : Span) → ℕ → FlatArgument
flat_as kind name value inside =
    record {
      kind = kind;
      name_start = first_byte name;
      name_end = end_byte name;
      value_start = first_byte value;
      value_end = end_byte value;
      inside = inside;
    }

-- a name alone is of kind 0, one with a literal of kind 1, and one with a list of kind 2
abbrev mutual
  -- an argument, and after it those inside its list
  pub flat : Form → List FlatArgument
  flat (flag name) = flat_as 0 name.span call_site 0 ∷ []
  flat (assigned name equals text) = flat_as 1 name.span text.span 0 ∷ []
  flat (with_list name span inner commas) =
      flat_as 2 name.span span (length (flats inner)) ∷ flats inner

  -- the arguments of a list in order, each before those inside it
  pub flats : Forms → List FlatArgument
  flats none = []
  flats (one_more f fs) = flat f ++ flats fs

-- all arguments of a list, in order
abbrev pub given_list : Arguments → Given FlatArgument
given_list list =
    record {
      status = 0;
      refusal = 0;
      entry = 0;
      values = flats (forms (list_form list).0);
      messages = [];
      bytes = [];
    }
