-- The cut of a front of the text, one piece further.
use Rattle.std.proofs.Common.{◌≡◌, ◌∙◌, ℕ, ◌+◌, ◌≤◌, List, [], ◌∷◌, ◌++◌, length, refl, sym, ap}
use Rattle.std.proofs.Common.{arith}
use Rattle.std.specs.Prelude.{encode_utf8_all, ◌-◌, ◌||◌, true, None}
use Rattle.std.specs.Str.{chars, IsUtf8}
use Rattle.std.proofs.lemmas.List.{append-nil, nil_from_length}
use Rattle.std.proofs.lemmas.List.Folds.{list_any-append}
use Rattle.std.proofs.Math.Bool.{or-true}
use Rattle.tok_lexical.specs.Contents.{has_return}
use Rattle.tok_core.specs.Forest.{Forest, no_trees}
use Rattle.tok_lexical.specs.Fits.{NoneBefore, IsFirstFit}
use Rattle.tok_core.specs.Building.{nothing}
use Rattle.tok_core.specs.Private.Built.{EndsInOther, IsBlank, State, IsPaired, Holds, HoldsAll}
use Rattle.tok_core.specs.Private.Built.{last, outer, Reached, Grows, Halts}
use Rattle.tok_core.specs.Lexical.Errors.{OnRefused}
use Rattle.tok_core.specs.Private.Halted.{OnHalted, fault_of}
use Rattle.tok_core.specs.Private.Taken.{HaltsAt, Taken}
use Rattle.tok_core.specs.Lexical.Items.{Item, most_levels, no_items}
use Rattle.tok_lexical.specs.Errors.{error_kind}
use Rattle.tok_core.specs.Lexical.Meaning.{items}
use Rattle.tok_lexical.specs.Widths.{width}
use Rattle.tok_core.specs.Lexical.Reading.{Cut, stop, piece, ReadsFrom, RejectsAt, unclosed}
use Rattle.tok_core.specs.Lexical.Reading.{IsRefusedFrom}
use Rattle.tok_lexical.specs.Rules.{all_rules, rules_of}
use Rattle.tok_core.specs.declared.lexer.error.LexError.{LexError}
use Rattle.tok_core.specs.declared.lexer.error.LexFault.{LexFault}
use Rattle.tok_core.specs.declared.lexer.error.Halt.{Halt}
use Rattle.tok_core.specs.declared.lexer.error.Halt.TheVariants.{Refused, Memory}
use Rattle.tok_lexical.specs.declared.lex_error_kind.LexErrorKind.TheVariants.{UnclosedGroup}
use Rattle.tok_lexical.specs.declared.delimiter.Delimiter.{Delimiter}
use Rattle.tok_lexical.specs.declared.rule.Mode.{Mode}
use Rattle.tok_lexical.specs.declared.rule.Mode.TheVariants.{Plain, Marked, Source}
use Rattle.tok_lexical.specs.declared.edition.Edition.TheVariants.{Edition2015, Edition2018}
use Rattle.tok_lexical.specs.declared.edition.Edition.TheVariants.{Edition2021, Edition2024}
use Rattle.tok_lexical.specs.declared.rule.Rule.{Rule}
use Rattle.tok_lexical.specs.declared.rule.Rule.TheVariants.{Whitespace}
use Rattle.tok_core.proofs.Lexical.Blanks.{cut_then, recut}
use Rattle.tok_core.proofs.Lexical.Nests.{opens_of, paired_of, reached_later}
use Rattle.tok_lexical.proofs.Fits.{fits_longest}
use Rattle.tok_core.proofs.Lexical.Steps.{refuses}
use Rattle.tok_lexical.proofs.Texts.{cut_length}

cut_more : {mode : Mode} {number at end : ℕ} {text rest taken after : List ℕ} {rule : Rule}
    {some : List Item} → Cut mode number at text some end rest →
    IsFirstFit rest (rules_of mode) rule taken after → error_kind rule mode end taken after ≡ None →
    Cut mode number at text (some ++ items number rule mode end taken after)
    (end + width rule taken)
    after
cut_more c d m = rw append-nil at (cut_then c (piece d m stop))

-- a U+000D of the piece, or of what follows, is one of the text
has_piece_return : (text taken after : List ℕ) → text ≡ taken ++ after →
    (has_return taken || has_return after) ≡ true → has_return text ≡ true
has_piece_return text taken after e h = rw (e, list_any-append) h

cut_return : {mode : Mode} {number at end : ℕ} {text rest : List ℕ} {some : List Item} →
    Cut mode number at text some end rest → has_return rest ≡ true → has_return text ≡ true
cut_return stop h = h
cut_return {text = text} (piece {taken = taken} {after = after} e n c) h =
    has_piece_return text taken after (fits_longest e).cut
    (rw (cut_return c h) (or-true (has_return taken)))

-- where the loop stands
pub record SoFar (begin : ℕ) (mode : Mode) (number : ℕ) (text rest : List ℕ) (at : ℕ)
    (nest : State) : Type 0 where
  pub short : at + length rest ≤ begin + length text
  pub same_source : nest.source ≡ number
  pub reached : Reached nest.groups at
  pub all : List Item
  pub cut : Cut mode number begin (chars text) all at (chars rest)
  pub holds : HoldsAll number nest all

width_le : (rule : Rule) (taken : List ℕ) → width rule taken ≤ length (encode_utf8_all taken)
width_le rule taken = grind arith

-- the same piece, by another name
pub decided_piece : (mode : Mode) (rule : Rule) (text rest taken other : List ℕ) →
    other ≡ taken → IsFirstFit text (rules_of mode) rule taken rest →
    IsFirstFit text (rules_of mode) rule other rest
decided_piece mode rule text rest taken other e d =
    rw e d

module _ {begin : ℕ} {mode : Mode} {number : ℕ} {text rest : List ℕ} {at : ℕ} {nest : State}
    (s : SoFar begin mode number text rest at nest) where
  -- the piece ends within the text
  place_fits : (rule : Rule) (after taken : List ℕ) → IsUtf8 rest → IsUtf8 after →
      IsFirstFit (chars rest) (rules_of mode) rule taken (chars after) →
      (at + width rule taken) + length
      after ≤ begin + length text
  place_fits rule after taken u v d =
      let l = cut_length rest after taken u v (fits_longest d).cut in
      let short = s.short in
      let w = width_le rule taken in
      omega arith

  pub so_far_more : (after taken : List ℕ) (end : ℕ) (new : State) (rule : Rule) → IsUtf8 rest →
      IsUtf8 after → IsFirstFit (chars rest) (rules_of mode) rule taken (chars after) →
      end ≡ at + width rule taken → error_kind rule mode at taken (chars after) ≡ None →
      Grows at nest new (items nest.source rule mode at taken (chars after)) →
      SoFar begin mode number text after end new
  so_far_more after taken end new rule u v d e m g =
      let p = place_fits rule after taken u v d in
      record {
        short = omega arith;
        same_source = g.same_source ∙ s.same_source;
        reached = reached_later new.groups at end (omega arith) (g.reached s.reached);
        all = s.all ++ items number rule mode at taken (chars after);
        cut = recut refl (sym e) refl (cut_more s.cut d m);
        holds = rw (← s.same_source) (g.holds s.all (rw s.same_source s.holds));
      }

  -- white space and comments add no trees
  pub so_far_blank : (after : List ℕ) (end : ℕ) →
      end ≡ at + (length rest - length after) → length after ≤ length rest →
      IsBlank (chars rest) (chars after) (length rest - length after) →
      SoFar begin mode number text after end nest
  so_far_blank after end e l blank =
      let short = s.short in
      record {
        short = omega arith;
        same_source = s.same_source;
        reached = reached_later nest.groups at end (omega arith) s.reached;
        all = s.all;
        cut = recut (append-nil s.all) (sym e) refl
            (cut_then s.cut (blank mode number at));
        holds = s.holds;
      }

  -- a U+000D of what is left is one of the whole text
  pub returns_left : has_return (chars rest) ≡ true → has_return (chars text) ≡ true
  returns_left h = cut_return s.cut h

  pub nest_is_paired : IsPaired nest
  nest_is_paired = paired_of s.holds

  reads_held : (all : List Item) → Cut mode number begin (chars text) all at [] →
      (groups : List (Delimiter × ℕ)) (levels : List Forest) (f : Forest) → groups ≡ [] →
      Holds number most_levels groups levels f all → (levels ≡ [])
      × ReadsFrom begin mode number (chars text) f
  reads_held all c groups levels f o (last d k) = (refl, (d, (all, k, (at, c))))
  reads_held all c groups levels f o (outer d k h) = absurd (cc)

  pub reads_all : chars rest ≡ [] → nest.groups ≡ [] → (nest.levels.outer ≡ [])
      × ReadsFrom begin mode number (chars text) nest.levels.inner
  reads_all e o = reads_held s.all (recut refl refl e s.cut) nest.groups nest.levels.outer
      nest.levels.inner o s.holds

  refuses_here : (error : LexError) → error.source ≡ nest.source →
      RejectsAt mode nest.groups at (chars rest) error.kind error.at →
      IsRefusedFrom begin mode number (chars text) error
  refuses_here error e r =
      (e ∙ s.same_source, (s.all, at, chars rest, nest.groups, s.cut, opens_of s.holds, r))

  pub refused_unclosed : (fewer : List (Delimiter × ℕ)) (group : Delimiter × ℕ)
      (error : LexError) → chars rest ≡ [] → nest.groups ≡ fewer ++ group ∷ [] →
      error ≡ record { kind = UnclosedGroup; source = number; at = group.1 } →
      IsRefusedFrom begin mode number (chars text) error
  refused_unclosed fewer group error e o is =
      refuses_here error (ap (λ w. w.source) is ∙ sym s.same_source)
      (rw is (unclosed group.0 fewer e o))

  -- a fault at the next piece
  pub fault_at : (halt : Halt) (fault : LexFault) →
      OnHalted halt (HaltsAt nest.groups mode at (chars rest)) → fault ≡ fault_of number at halt →
      OnRefused fault (IsRefusedFrom begin mode number (chars text))
  fault_at Memory fault h is = rw is tt
  fault_at (Refused why) fault h is =
      rw is (refuses_here (record { kind = why; source = number; at = at }) (sym s.same_source)
      (refuses mode nest.groups h.rule at why (chars rest) h.piece h.after h.fits h.halts))

  -- a piece that was taken
  pub so_far_taken : (after : List ℕ) (end : ℕ) (new : State) → IsUtf8 rest → IsUtf8 after →
      Taken mode at nest new (chars rest) end (chars after) →
      SoFar begin mode number text after end new
  so_far_taken after end new u v t =
      so_far_more after t.piece end new t.rule u v t.fits t.ends t.meant t.grown

-- a halt at the piece that this rule found
pub halted_at : (levels : List (Delimiter × ℕ)) (mode : Mode) (at : ℕ) (text : List ℕ)
    (rule : Rule) (taken after : List ℕ) (halt : Halt) →
    IsFirstFit text (rules_of mode) rule taken after →
    OnHalted halt (Halts levels rule mode at taken after) →
    OnHalted halt (HaltsAt levels mode at text)
halted_at levels mode at text rule taken after Memory d h = tt
halted_at levels mode at text rule taken after (Refused why) d h =
    record { rule = rule; piece = taken; after = after; fits = d; halts = h }

-- a U+000D of a piece is one of the text that it begins
pub returns_in : (rules : List Rule) (rule : Rule) (text taken after : List ℕ) →
    IsFirstFit text rules rule taken after → has_return taken ≡ true → has_return text ≡ true
returns_in rules rule text taken after d h =
    has_piece_return text taken after (fits_longest d).cut (rw h refl)

pub ends_in_other : (mode : Mode) → EndsInOther (rules_of mode)
unfolding all_rules
ends_in_other Plain = refl
ends_in_other Marked = refl
ends_in_other (Source Edition2015) = refl
ends_in_other (Source Edition2018) = refl
ends_in_other (Source Edition2021) = refl
ends_in_other (Source Edition2024) = refl

-- the last rule takes any character
pub all_tried : (rules : List Rule) (text : List ℕ) → EndsInOther rules →
    NoneBefore rules text (length rules) → text ≡ []
all_tried rules [] ends before = refl
all_tried [] (c ∷ text) ends before = cc
all_tried (r ∷ rules) (c ∷ text) ends before =
    absurd (before.none (length (r ∷ rules) - 1) Whitespace (omega arith) (omega arith)
    (rw ends (c ∷ [], text, refl, (c, refl, refl))))

pub so_far_start : (begin : ℕ) (mode : Mode) (number : ℕ) (text : List ℕ) (nest : State) →
    nest.source ≡ number → nest.groups ≡ [] → nest.levels ≡ nothing →
    SoFar begin mode number text text begin nest
so_far_start begin mode number text nest n o t = record {
  short = omega arith;
  same_source = n;
  reached = rw o tt;
  all = [];
  cut = stop;
  holds = rw (o, t) (last {n = most_levels} {f = no_trees} (omega arith) no_items);
}

pub none_left : (groups : List (Delimiter × ℕ)) (n : ℕ) → n ≡ 0 → n ≡ length groups → groups ≡ []
none_left groups n z l = nil_from_length groups (sym l ∙ z)
