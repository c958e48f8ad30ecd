-- Tokens, groups and lists are parsed again as they are written, before any trees or before those
-- that look alike.
use Rattle.std.proofs.Common.{arith, ◌≡◌, ◌∙◌, sym, ap, refl, ℕ, Bool, true, eq-eqb, suc}
use Rattle.std.proofs.Common.{List, [], ◌∷◌, length}
use Rattle.std.specs.List.{list_all}
use Rattle.tok_lexical.specs.Characters.{is_punct_or_apostrophe}
use Rattle.tok_lexical.specs.declared.delimiter.Delimiter.{Delimiter}
use Rattle.tok_leaves.specs.Leaves.{ident_of}
use Rattle.tok_leaves.specs.Spans.{whole_span}
use Rattle.tok_leaves.specs.declared.ident.Ident.{Ident}
use Rattle.tok_leaves.specs.declared.span.DelimSpan.{DelimSpan}
use Rattle.tok_leaves.specs.declared.span.Span.{Span}
use Rattle.tok_core.specs.Forest.{Forest, concat, forest, group, leaf, no_trees, tree}
use Rattle.tok_types.specs.Printed.{joint_puncts}
use Rattle.tok_types.specs.Texts.{keyword_text, punctuation_word}
use Rattle.tok_types.specs.declared.keyword.Keyword.{Keyword}
use Rattle.tok_types.specs.declared.punctuation.Punctuation.{Punctuation}
use Rattle.syn_parse.specs.TokenNames.{Name}
use Rattle.syn_parse.specs.Tokens.{punctuation}
use Rattle.syn_parse.specs.TreesAhead.{Ahead, only_trees}
use Rattle.syn_punctuated.proofs.Exactly.{Tells, not_next, unseen}
use Rattle.syn_punctuated.proofs.ExactTokens.{are_own, group_tells, sign_tells}
use Rattle.syn_punctuated.specs.Parts.{ArePuncts, InGroup, IsGroup, IsIdentifier, IsRest, IsSign}
use Rattle.syn_punctuated.specs.Parts.{IsWord, Many, No, Part, Separated, Terminated, and_more}
use Rattle.syn_punctuated.specs.Parts.{and_others, and_rest, identifier, in_group, joint, last}
use Rattle.syn_punctuated.specs.Parts.{last_one, no_more, nothing, one, rest, sign, word}
use Rattle.syn_derive.specs.Grammar.{IsRun, run}
use Rattle.syn_derive.specs.Printing.{keyword_trees, sign_trees}
use Rattle.syn_derive.proofs.Again.Alike.{Alike, alike_same, sign_alike}

-- what a form is written as, before these trees
abbrev pub Onto : Type 0 → Type 0
Onto A = A → Forest → Forest

-- such a part is parsed again before trees that look like those after it
pub record Again {A : Type 0} (Is : Part A) (onto : Onto A) : Type 0 where
  pub again : {f g h : Forest} {v : A} → Is f v g → Alike g h → Is (onto v h) v h

-- and before any trees
pub record Always {A : Type 0} (Is : Part A) (onto : Onto A) : Type 0 where
  pub always : {f g : Forest} {v : A} → Is f v g → (h : Forest) → Is (onto v h) v h

-- and to the end
pub record AtEnd {A : Type 0} (Is : Part A) (onto : Onto A) : Type 0 where
  pub at_end : {f : Forest} {v : A} → Is f v no_trees → Is (onto v no_trees) v no_trees

pub to_end : {A : Type 0} {Is : Part A} {onto : Onto A} → Again Is onto → AtEnd Is onto
to_end h = record { at_end = λ i. h.again i alike_same }

-- such a part is not next before trees either that look like these
pub record Decided {A : Type 0} (First : Part A) : Type 0 where
  pub none : {f g : Forest} → Alike f g → No First f → No First g

pub decided : {A : Type 0} {First : Part A} {test : Ahead → Bool} → Tells First test
    → ((f g : Forest) → Alike f g → test (only_trees f) ≡ test (only_trees g)) → Decided First
decided t same = record { none = λ {f} {g} a n. not_next t (sym (same f g a) ∙ unseen t n) }

pub decided_sign : {k : ℕ} → Name (Punctuation k 1) (punctuation k 1) → (c : ℕ)
    → are_own (punctuation_word k 1) ≡ true → punctuation_word k 1 ≡ c ∷ []
    → Decided (IsSign {k = k} {n = 1} (punctuation_word k 1))
decided_sign {k} name c own e = decided (sign_tells name own) (λ f g a. sign_alike k c e a)

pub decided_group : (d : Delimiter) → Decided (IsGroup d)
decided_group d = decided (group_tells d) (λ f g a. a.groups d)

-- tokens
abbrev pub ident_onto : Onto Ident
ident_onto i h = tree (leaf (ident_of i)) h

abbrev pub word_onto : {k : ℕ} → Onto (Keyword k)
word_onto w h = concat (keyword_trees w) h

abbrev pub sign_onto : {k n : ℕ} → Onto (Punctuation k n)
sign_onto s h = concat (sign_trees s) h

pub ident_again : Always IsIdentifier ident_onto
ident_again = record { always = λ i h. go i h } where
  go : {f g : Forest} {v : Ident} → IsIdentifier f v g → (h : Forest)
      → IsIdentifier (ident_onto v h) v h
  go (identifier a) h = identifier a

pub word_again : (k c : ℕ) (cs : List ℕ) → keyword_text k ≡ c ∷ cs
    → Always (IsWord {k = k} (keyword_text k)) word_onto
word_again k c cs e = grind (arith, word)

puncts_again : {cs : List ℕ} {f g : Forest} {spans : List Span} → ArePuncts cs f spans g
    → (h : Forest) → (length cs ≡ length spans)
    × ArePuncts cs (concat (forest (joint_puncts cs spans)) h) spans h
puncts_again last h = (refl, last)
puncts_again (joint r) h = let m = puncts_again r h in (ap suc m.0, joint m.1)

pub sign_again : (k n : ℕ) → list_all is_punct_or_apostrophe (punctuation_word k n) ≡ true
    → Always (IsSign {k = k} {n = n} (punctuation_word k n)) sign_onto
sign_again k n own = record { always = λ i h. go i h } where
  go : {f g : Forest} {v : Punctuation k n} → IsSign (punctuation_word k n) f v g → (h : Forest)
      → IsSign (punctuation_word k n) (sign_onto v h) v h
  go (sign p) h =
      let m = puncts_again p h in simp (eq-eqb _ _ m.0, own) (sign m.1)

-- a group, parts in turn, and parts with separators between them
abbrev pub group_onto : {A : Type 0} → Delimiter → Onto A → Onto (DelimSpan × A)
group_onto d onto x h = tree (group d (onto x.1 no_trees) (whole_span x.0)) h

abbrev pub all_onto : {A : Type 0} → Onto A → Onto (List A)
all_onto onto [] h = h
all_onto onto (v ∷ vs) h = onto v (all_onto onto vs h)

abbrev pub in_turn : {A P : Type 0} → Onto A → Onto P → List A → List P → Forest → Forest
in_turn onto between [] ps h = h
in_turn onto between (v ∷ vs) [] h = onto v (in_turn onto between vs [] h)
in_turn onto between (v ∷ vs) (p ∷ ps) h = onto v (between p (in_turn onto between vs ps h))

abbrev pub turns_onto : {A P : Type 0} → Onto A → Onto P → Onto (List A × List P)
turns_onto onto between x h = in_turn onto between x.0 x.1 h

module _ {A : Type 0} {Is : Part A} {onto : Onto A} where
  pub group_again : (d : Delimiter) → AtEnd Is onto → Always (InGroup d Is) (group_onto d onto)
  group_again d e = grind (arith, in_group)

  pub many_again : {B : Type 0} {First : Part B} → Decided First → Always Is onto
      → Again (Many First Is) (all_onto onto)
  many_again {First} d e = record { again = λ m a. go m a } where
    go : {f g h : Forest} {vs : List A} → Many First Is f vs g → Alike g h
        → Many First Is (all_onto onto vs h) vs h
    go (no_more n) a = no_more (d.none a n)
    go (and_more i m) a = and_more (e.always i _) (go m a)

  module _ {P : Type 0} {Separates : Part P} {between : Onto P} (s : Always Separates between) where
    pub separated_again : Decided Separates → Always Is onto
        → Again (Separated Is Separates) (turns_onto onto between)
    separated_again d e = record { again = λ r a. go r a } where
      go : {f g h : Forest} {x : List A × List P} → Separated Is Separates f x g → Alike g h
          → Separated Is Separates (turns_onto onto between x h) x h
      go (one i n) a = one (e.always i _) (d.none a n)
      go (and_others i p r) a = and_others (e.always i _) (s.always p _) (go r a)

    pub terminated_again : ((f g h : Forest) (p : P) → Separates f p g → Alike f (between p h))
        → Again Is onto → AtEnd (Terminated Is Separates) (turns_onto onto between)
    terminated_again same e = record { at_end = λ r. go r } where
      go : {f g : Forest} {x : List A × List P} → Terminated Is Separates f x g
          → Terminated Is Separates (turns_onto onto between x no_trees) x no_trees
      go nothing = nothing
      go (last_one i) = last_one (e.again i alike_same)
      go (and_rest i p r) = and_rest (e.again i (same _ _ _ _ p)) (s.always p _) (go r)

-- all that is left, and tokens of a run
pub rest_again : AtEnd IsRest (λ f h. f)
rest_again = grind (arith, rest)

pub run_again : {Are : Forest → Forest → Type 0}
    → ((more f g : Forest) → Are more f → Alike f g → Are more g)
    → Again (IsRun Are) (λ f h. concat f h)
run_again {Are} on = grind (arith, run)
