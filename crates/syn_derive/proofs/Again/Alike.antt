-- Trees that look alike to all that decides where a part of the grammar ends, whatever their spans
-- and spacing; so the tokens before them are the same run.
use Rattle.std.proofs.Common.{arith, ◌≡◌, ◌∙◌, sym, ap, subst, refl, ℕ, ◌+◌, ◌==◌, ◌&&◌, Bool, false}
use Rattle.std.proofs.Common.{cond, List, [], ◌∷◌, Some, None}
use Rattle.std.proofs.lemmas.Bool.{false≢true}
use Rattle.std.specs.Prelude.{is_some}
use Rattle.tok_lexical.specs.declared.delimiter.Delimiter.{Delimiter}
use Rattle.tok_lexical.specs.declared.delimiter.Delimiter.TheVariants.{Brace}
use Rattle.tok_leaves.specs.Leaves.{ident, punct}
use Rattle.tok_leaves.specs.declared.punct.Spacing.{Spacing}
use Rattle.tok_leaves.specs.declared.span.Span.{Span}
use Rattle.tok_core.specs.Filled.{has_trees}
use Rattle.tok_core.specs.Forest.{Forest, Tree, concat, group, leaf, no_trees, tree}
use Rattle.tok_buffer.specs.EachRead.{first_if, first_puncts}
use Rattle.tok_buffer.specs.Reads.{is_joint_of, is_punct_of}
use Rattle.tok_types.specs.Sees.{any_ident_first, group_first, ident_first, keyword_first}
use Rattle.tok_types.specs.Sees.{punct_first, punctuation_first}
use Rattle.tok_types.specs.Texts.{punctuation_word}
use Rattle.syn_derive.specs.First.{gt_first}
use Rattle.syn_derive.specs.RunGrammar.{AreTokens, IsEnd, angles, nothing, of_all, of_run, one, two}
use Rattle.syn_derive.specs.Runs.{ends, last_after, next_of, starts_pair}
use Rattle.syn_derive.specs.declared.run.Last.{Last}
use Rattle.syn_derive.specs.declared.run.Last.TheVariants.{Operand, Operator}
use Rattle.syn_derive.specs.declared.run.Until.{Until}
use Rattle.syn_derive.specs.declared.run.Until.TheVariants.{Expr, Params, Predicates, Ty}

-- puncts of these characters are first
abbrev seen : List ℕ → Forest → Bool
seen cs f = is_some (first_puncts cs f)

-- whether there are trees; a sign of one character, `->`, `::` and `<<`; and a group
pub record Alike (f g : Forest) : Type 0 where
  pub some : has_trees f ≡ has_trees g
  pub signs : (c : ℕ) → seen (c ∷ []) f ≡ seen (c ∷ []) g
  pub arrows : seen (45 ∷ (62 ∷ [])) f ≡ seen (45 ∷ (62 ∷ [])) g
  pub colons : seen (58 ∷ (58 ∷ [])) f ≡ seen (58 ∷ (58 ∷ [])) g
  pub shifts : seen (60 ∷ (60 ∷ [])) f ≡ seen (60 ∷ (60 ∷ [])) g
  pub groups : (d : Delimiter) → group_first d f ≡ group_first d g

pub alike_same : {f : Forest} → Alike f f
alike_same = grind arith

-- words
pub alike_words : {s t : List ℕ} {x y : Span} {f g : Forest}
    → Alike (tree (leaf (ident s x)) f) (tree (leaf (ident t y)) g)
unfolding group_first
alike_words = grind arith

-- what is taken if it is wanted
wanted : {A : Type 0} (b : Bool) (x : A) → is_some (cond b (Some x) None) ≡ b
wanted b x = grind arith

one_tree : (w : Tree → Bool) (t : Tree) (f : Forest) → is_some (first_if w (tree t f)) ≡ w t
one_tree w t f = wanted (w t) (t ∷ [], f)

-- groups with one delimiter
pub alike_groups : {d : Delimiter} {a b f g : Forest} {x y : Span}
    → Alike (tree (group d a x) f) (tree (group d b y) g)
unfolding group_first
alike_groups = grind (arith, wanted)

-- of two characters
second : (b c : ℕ) (t : Tree) (f : Forest)
    → seen (b ∷ (c ∷ [])) (tree t f) ≡ (is_joint_of b t && seen (c ∷ []) f)
second b c t f = grind arith

-- signs of one character, with which no token of two begins
not_joint : (c d : ℕ) (s : Spacing) (x : Span) → (c == d) ≡ false
    → is_joint_of d (leaf (punct c s x)) ≡ false
not_joint c d s x e = grind arith

pub alike_signs : {c : ℕ} {s t : Spacing} {x y : Span} {f g : Forest} → (c == 45) ≡ false
    → (c == 58) ≡ false → (c == 60) ≡ false
    → Alike (tree (leaf (punct c s x)) f) (tree (leaf (punct c t y)) g)
unfolding group_first
alike_signs {c} {s} {t} {x} {y} {f} {g} h k l = grind (arith, one_tree, second, not_joint)

-- after the same tree
pub alike_next : (t : Tree) {f g : Forest} → Alike f g → Alike (tree t f) (tree t g)
unfolding group_first
alike_next t {f} {g} a = record {
  some = refl;
  signs = λ c. one_tree (is_punct_of c) t f ∙ sym (one_tree (is_punct_of c) t g);
  arrows = pairs 45 62;
  colons = pairs 58 58;
  shifts = pairs 60 60;
  groups = λ d. of t d;
} where
  pairs : (b c : ℕ) → seen (b ∷ (c ∷ [])) (tree t f) ≡ seen (b ∷ (c ∷ [])) (tree t g)
  pairs b c =
      second b c t f ∙ ap (λ s. is_joint_of b t && s) (a.signs c) ∙ sym (second b c t g)

  of : (t : Tree) (d : Delimiter) → group_first d (tree t f) ≡ group_first d (tree t g)
  of (leaf l) d = refl
  of (group e inside span) d = wanted _ _ ∙ sym (wanted _ _)

pub alike_after : (m : Forest) {f g : Forest} → Alike f g → Alike (concat m f) (concat m g)
alike_after no_trees a = a
alike_after (tree t m) a = alike_next t (alike_after m a)

-- a sign and a group are seen in both, or in neither
pub sign_alike : {f g : Forest} (k c : ℕ) → punctuation_word k 1 ≡ c ∷ [] → Alike f g
    → punctuation_first k 1 f ≡ punctuation_first k 1 g
unfolding punctuation_first
sign_alike k c e a = rw (e) (a.signs c)

pub path_sep_alike : {f g : Forest} → Alike f g
    → punctuation_first 28 2 f ≡ punctuation_first 28 2 g
unfolding punctuation_first
path_sep_alike a = a.colons

ends_alike : {f g : Forest} (u : Until) (last : Last) → Alike f g → ends u last f ≡ ends u last g
ends_alike Ty last a =
    simp (
      sign_alike 7 44 refl a,
      sign_alike 36 59 refl a,
      sign_alike 13 61 refl a,
      sign_alike 17 62 refl a,
      sign_alike 6 58 refl a,
      a.groups Brace,
    ) refl
ends_alike Expr last a = simp (sign_alike 7 44 refl a, sign_alike 36 59 refl a) refl
ends_alike Params last a =
    simp (sign_alike 17 62 refl a, sign_alike 36 59 refl a, a.groups Brace) refl
ends_alike Predicates last a = simp (sign_alike 36 59 refl a, a.groups Brace) refl

pairs_alike : {f g : Forest} (u : Until) (last : Last) → Alike f g
    → starts_pair u last f ≡ starts_pair u last g
unfolding punctuation_first
pairs_alike u last a = simp (a.arrows, a.colons, a.shifts) refl

next_alike : {f g : Forest} (u : Until) (last : Last) → Alike f g
    → next_of u last f ≡ next_of u last g
next_alike u last a = simp (pairs_alike u last a, sign_alike 20 60 refl a, ends_alike u last a) refl

-- of the last token one tree is looked at
last_alike : (t : Tree) (f g : Forest) → last_after (tree t f) ≡ last_after (tree t g)
unfolding punct_first punctuation_first ident_first any_ident_first keyword_first
last_alike t f g = simp one_tree refl

gt_alike : (t : Tree) (f g : Forest) → gt_first (tree t f) ≡ gt_first (tree t g)
unfolding punctuation_first
gt_alike t f g = grind (arith, one_tree)

no_more : {f g : Forest} → f ≡ no_trees → Alike f g → g ≡ no_trees
no_more e a = grind (arith, false≢true)

end_alike : {f g : Forest} (u : Until) (last : Last) → Alike f g → IsEnd u last f → IsEnd u last g
end_alike u last a of_all = subst (IsEnd u last) (sym (no_more refl a)) of_all
end_alike u last a (of_run f e) = of_run _ (sym (next_alike u last a) ∙ e)

-- the tokens of a run are those of one before trees that look alike
pub tokens_alike : (n : ℕ) (u : Until) (last : Last) (more f g : Forest)
    → AreTokens n u last more f → Alike f g → AreTokens n u last more g
tokens_alike n u last _ _ g (nothing _ _ _ f e) a = nothing n u last g (end_alike u last a e)
tokens_alike n u last _ _ g (two _ _ _ s t more f e are) a =
    two n u last s t more g
    (sym (next_alike u last (alike_next s (alike_next t (alike_after more a)))) ∙ e)
    (tokens_alike n u Operator more f g are a)
tokens_alike n u last _ _ g (angles _ _ _ s t inside more f e room within gt are) a =
    let after = alike_next t (alike_after more a) in
    angles n u last s t inside more g
    (sym (next_alike u last (alike_next s (alike_after inside after))) ∙ e) room
    (tokens_alike (n + 1) Params Operator inside _ _ within after)
    (sym (gt_alike t _ _) ∙ gt) (tokens_alike n u Operand more f g are a)
tokens_alike n u last _ _ g (one _ _ _ t more f e are) a =
    one n u last t more g (sym (next_alike u last (alike_next t (alike_after more a))) ∙ e)
    (subst (λ (l : Last). AreTokens n u l more g) (last_alike t (concat more f) (concat more g))
    (tokens_alike n u (last_after (tree t (concat more f))) more f g are a))
