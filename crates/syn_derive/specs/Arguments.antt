-- The arguments of attributes: what is taken of them, and the errors if there are none.
use Rattle.std.specs.Prelude.{ℕ, Bool, true, if◌then◌else◌, List, [], ◌∷◌, ◌++◌}
use Rattle.std.specs.Prelude.{Option, None, Some, is_some, Result, codes}
use Rattle.tok_leaves.specs.Spans.{call_site, closing_span, opening_span, whole_span}
use Rattle.tok_leaves.specs.declared.span.DelimSpan.{DelimSpan}
use Rattle.tok_leaves.specs.declared.span.Span.{Span}
use Rattle.tok_buffer.specs.Messages.{message, message_at}
use Rattle.tok_buffer.specs.Spans.{spanned}
use Rattle.tok_buffer.specs.declared.error.Message.{Message}
use Rattle.syn_parse.specs.Faults.{FailsWith, Refuses}
use Rattle.syn_parse.specs.declared.fault.Fault.{Fault}
use Rattle.syn_parse.specs.Takings.{Takings, taken_filled}
use Rattle.syn_parse.specs.TokenNames.{Comma, Token, take}
use Rattle.syn_parse.specs.Takes.{Taking}
use Rattle.syn_punctuated.specs.Lists.{values_of}
use Rattle.syn_punctuated.specs.TakeLists.{list_form, take_terminated}
use Rattle.syn_punctuated.specs.declared.punctuated.Punctuated.{Punctuated}
use Rattle.syn_derive.specs.Metas.{MetaForm, meta_form, take_nested_meta}
use Rattle.syn_derive.specs.Paths.{segments_trees}
use Rattle.syn_derive.specs.declared.meta.MacroDelimiter.{MacroDelimiter}
use Rattle.syn_derive.specs.declared.meta.MacroDelimiter.TheVariants as by
use Rattle.syn_derive.specs.declared.meta.Meta.{Meta}
use Rattle.syn_derive.specs.declared.meta.Meta.TheVariants as meta
use Rattle.syn_derive.specs.declared.meta.MetaList.{MetaList}
use Rattle.syn_derive.specs.declared.meta.MetaNameValue.{MetaNameValue}
use Rattle.syn_derive.specs.declared.path.Path.{Path}
use Rattle.syn_derive.specs.declared.path.PathSegment.{PathSegment}

-- the span of a list's delimiters, of any kind
abbrev pub delimiter_span : MacroDelimiter → DelimSpan
delimiter_span (by.Paren t) = t.span
delimiter_span (by.Brace t) = t.span
delimiter_span (by.Bracket t) = t.span

-- the closing delimiter of a list, at which its tokens end
abbrev pub end_of : MetaList → Span
end_of l = closing_span (whole_span (delimiter_span l.delimiter))

-- the opening delimiter of a list
abbrev pub opening_of : MetaList → Span
opening_of l = opening_span (whole_span (delimiter_span l.delimiter))

-- metas of any path and the commas between them
unfoldable pub take_nested_list : Taking (List MetaForm × List (Token Comma))
take_nested_list = take_terminated take_nested_meta (take Comma)

-- the parse of metas and their commas, if no invisible group is empty
abbrev pub nested_list : Takings (Punctuated Meta (Token Comma))
nested_list = taken_filled (list_form meta_form (λ p. p)) take_nested_list

-- a segment, and `::` before it if it comes after one
abbrev pub segment_text : Bool → PathSegment → List ℕ
segment_text after s = (if after then codes "::" else []) ++ s.ident.text

-- the text of segments in turn; `::` is before the first if it comes after one
abbrev pub segments_text : Bool → List PathSegment → List ℕ
segments_text after [] = []
segments_text after (s ∷ ss) = segment_text after s ++ segments_text true ss

-- the text of a path, without blanks
abbrev pub path_text : Path → List ℕ
path_text p = segments_text (is_some p.leading_colon) (values_of p.segments)

-- a message from the first segment of a path to its last
abbrev pub over_path : Path → List ℕ → Message
over_path p words =
    message (spanned (segments_trees p)).0 (spanned (segments_trees p)).1 words

-- a message over a path, which names it between these words
abbrev pub names_path : Path → (before after : List ℕ) → Message
names_path p before after = over_path p (before ++ (path_text p ++ after))

-- the span of a punctuation of one character
abbrev pub first_span : List Span → Span
first_span [] = call_site
first_span (s ∷ ss) = s

-- the error if a meta isn't a path alone
abbrev pub lacks_path : Meta → Option Message
lacks_path (meta.Path p) = None
lacks_path (meta.List l) = Some (message_at (opening_of l) (codes "unexpected token in attribute"))
lacks_path (meta.NameValue v) =
    Some (message_at (first_span v.eq_token.spans) (codes "unexpected token in attribute"))

-- the error if a meta isn't a list
abbrev pub lacks_list : Meta → Option Message
lacks_list (meta.Path p) =
    Some (names_path p (codes "expected attribute arguments in parentheses: `") (codes "(...)`"))
lacks_list (meta.List l) = None
lacks_list (meta.NameValue v) =
    Some (message_at (first_span v.eq_token.spans) (codes "expected `(`"))

-- the error if a meta has no value after `=`
abbrev pub lacks_value : Meta → Option Message
lacks_value (meta.Path p) =
    Some (names_path p (codes "expected a value for this attribute: `") (codes " = ...`"))
lacks_value (meta.List l) = Some (message_at (opening_of l) (codes "expected `=`"))
lacks_value (meta.NameValue v) = None

-- the error of an attribute that needs arguments and is a path alone
abbrev pub only_path : Path → Message
only_path p =
    names_path p (codes "expected attribute arguments in parentheses: #[") (codes "(...)]")

-- the error of an attribute that needs arguments and has a value
abbrev pub only_value : MetaNameValue → Message
only_value v =
    message_at (first_span v.eq_token.spans)
    (codes "expected parentheses: #[" ++ (path_text v.path ++ codes "(...)]"))

-- the error if an attribute has no arguments
abbrev pub lacks_arguments : Meta → Option Message
lacks_arguments (meta.Path p) = Some (only_path p)
lacks_arguments (meta.List l) = None
lacks_arguments (meta.NameValue v) = Some (only_value v)

-- a fault with this message, or an allocation failure; there is none without a message
abbrev pub Lacks : Option Message → Fault → Type 0
Lacks None f = ⊥
Lacks (Some m) f = Refuses m f

-- this holds of the arguments, if there are any
abbrev pub HasArguments : (MetaList → Type 0) → Meta → Type 0
HasArguments holds (meta.List l) = holds l
HasArguments holds m = Unit {0}

-- this holds of the arguments and a result, which is an error if there are none
abbrev pub IsOf : {T : Type 0} → (MetaList → Result T Fault → Type 0) → Meta → Result T Fault
    → Type 0
IsOf holds (meta.List l) result = holds l result
IsOf holds (meta.Path p) result = FailsWith (only_path p) result
IsOf holds (meta.NameValue v) result = FailsWith (only_value v) result
