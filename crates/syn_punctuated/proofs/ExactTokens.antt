-- Tokens and all that is left are taken exactly, and a peek tells whether a token is next.
use Rattle.std.proofs.Common.{arith}
use Rattle.std.proofs.Common.{◌≡◌, ◌∙◌, sym, ap, subst, refl, ℕ, ◌==◌, ◌&&◌, not, Bool, true, List}
use Rattle.std.proofs.Common.{[], ◌∷◌, map, Option, Some, None, eq-eqb, eqb-true}
use Rattle.std.proofs.lemmas.Bool.{and_from, and_parts, false≢true}
use Rattle.std.specs.Prelude.{is_some}
use Rattle.tok_lexical.specs.Ascii.{apostrophe}
use Rattle.tok_lexical.specs.declared.delimiter.Delimiter.{Delimiter}
use Rattle.tok_leaves.specs.declared.ident.Ident.{Ident}
use Rattle.tok_leaves.specs.declared.punct.Spacing.TheVariants.{Alone, Joint}
use Rattle.tok_leaves.specs.declared.span.DelimSpan.{DelimSpan}
use Rattle.tok_leaves.specs.declared.span.Span.{Span}
use Rattle.tok_leaves.specs.Leaves.{ident, literal, punct}
use Rattle.tok_core.specs.Forest.{Forest, Tree, concat, forest, group, leaf, tree, tree_span}
use Rattle.tok_buffer.specs.Entry.{EnteredWith}
use Rattle.tok_buffer.specs.InFront.{first_group}
use Rattle.tok_buffer.specs.Reads.{is_joint_of, is_punct_of}
use Rattle.tok_types.specs.Sees.{group_first, keyword_first, punctuation_first}
use Rattle.tok_types.specs.Texts.{accept_as_ident, keyword_text, punctuation_word}
use Rattle.tok_types.specs.declared.keyword.Keyword.{Keyword}
use Rattle.tok_types.specs.declared.punctuation.Punctuation.{Punctuation}
use Rattle.syn_parse.proofs.Shapes.{IsAccepted, IsPunctuation, Shape, Spells, token_shape}
use Rattle.syn_parse.proofs.Shapes.{found_first, found_second}
use Rattle.syn_parse.specs.Parses.{IsIdent, IsSpanOf}
use Rattle.syn_parse.specs.Positions.{Missing}
use Rattle.syn_parse.specs.Takes.{Taking, found, inside_first, read_as, take_by, take_group}
use Rattle.syn_parse.specs.Tokens.{sees_group, take_any_ident}
use Rattle.syn_parse.specs.Tokens.{take_ident, take_token}
use Rattle.syn_parse.specs.TokenNames.{Name, sees, take}
use Rattle.syn_parse.specs.Tokens as token
use Rattle.syn_parse.specs.TreesAhead.{Ahead, only_trees}
use Rattle.syn_parse.specs.TreeTakes.{take_rest}
use Rattle.syn_punctuated.specs.Parts.{ArePuncts, IsAnyIdent, IsGroup, IsIdentifier, IsRest, IsSign}
use Rattle.syn_punctuated.specs.Parts.{IsWord, Part, any_ident, identifier, joint, last, rest, sign}
use Rattle.syn_punctuated.specs.Parts.{word}
use Rattle.syn_punctuated.proofs.Exactly.{Exactly, Tells, Written, exactly, group_exactly}
use Rattle.syn_punctuated.proofs.Exactly.{leaves_unread, takes, trees_of, unread_of}

-- a part of a grammar that says the same as the shape of a token
module _ {A : Type 0} {Is : A → List Tree → Type 0} {take : Taking A} {P : Part A}
    (s : Shape Is take)
    (to : (v : A) (ts : List Tree) (g : Forest) → Is v ts → P (concat (forest ts) g) v g)
    (from : (f g : Forest) (v : A) → P f v g
    → (ts : List Tree) × Is v ts × (f ≡ concat (forest ts) g)) where
  pub by_shape : Exactly P take
  by_shape = exactly (leaves_unread all) go where
    all : (a b : Ahead) (v : A) → take a ≡ found v b → (a.unread ≡ b.unread) × P a.trees v b.trees
    all a b v e =
        let t = s.taken a b v e in (
          ap unread_of t.2,
          subst (λ f. P f v b.trees) (sym (ap trees_of t.2)) (to v t.0 b.trees t.1),
        )

    go : Written P take
    go f g v p =
        let t = from f g v p in
        ap (λ x. take (only_trees x)) t.2 ∙ s.takes (only_trees g) v t.0 t.1

pub identifier_exactly : Exactly IsIdentifier take_ident
identifier_exactly = by_shape (token_shape token.ident tt) to from where
  to : (v : Ident) (ts : List Tree) (g : Forest) → IsAccepted accept_as_ident v ts
      → IsIdentifier (concat (forest ts) g) v g
  to v ts g i =
      subst (λ us. IsIdentifier (concat (forest us) g) v g) (sym i.0) (identifier i.1)

  from : (f g : Forest) (v : Ident) → IsIdentifier f v g
      → (ts : List Tree) × IsAccepted accept_as_ident v ts × (f ≡ concat (forest ts) g)
  from f g v (identifier {text} {span} a) = (leaf (ident text span) ∷ [], (refl, a), refl)

pub any_ident_exactly : Exactly IsAnyIdent take_any_ident
any_ident_exactly = by_shape (token_shape token.any_ident tt) to from where
  to : (v : Ident) (ts : List Tree) (g : Forest) → IsIdent v ts
      → IsAnyIdent (concat (forest ts) g) v g
  to v ts g i = subst (λ us. IsAnyIdent (concat (forest us) g) v g) (sym i) any_ident

  from : (f g : Forest) (v : Ident) → IsAnyIdent f v g
      → (ts : List Tree) × IsIdent v ts × (f ≡ concat (forest ts) g)
  from f g v (any_ident {text} {span}) = (leaf (ident text span) ∷ [], refl, refl)

pub word_exactly : {k : ℕ} (name : Name (Keyword k) (token.keyword k)) (c : ℕ) (cs : List ℕ)
    → keyword_text k ≡ c ∷ cs → Exactly (IsWord (keyword_text k)) (take name)
word_exactly {k} name c cs e = by_shape (token_shape (token.keyword k) (c, cs, e)) to from where
  to : (v : Keyword k) (ts : List Tree) (g : Forest) → IsSpanOf (keyword_text k) v.span ts
      → IsWord (keyword_text k) (concat (forest ts) g) v g
  to v ts g i = subst (λ us. IsWord (keyword_text k) (concat (forest us) g) v g) (sym i) word

  from : (f g : Forest) (v : Keyword k) → IsWord (keyword_text k) f v g
      → (ts : List Tree) × IsSpanOf (keyword_text k) v.span ts × (f ≡ concat (forest ts) g)
  from f g v (word {span}) = (leaf (ident (keyword_text k) span) ∷ [], refl, refl)

-- puncts of these characters, none of which is an apostrophe
abbrev pub are_own : List ℕ → Bool
are_own [] = true
are_own (c ∷ cs) = not (c == apostrophe) && are_own cs

one_punct : (c : ℕ) (t : Tree) (g : Forest) → is_punct_of c t ≡ true
    → ArePuncts (c ∷ []) (tree t g) (tree_span t ∷ []) g
one_punct c (leaf (punct d spacing span)) g h =
    subst (λ x. ArePuncts (c ∷ []) (tree (leaf (punct x spacing span)) g) (span ∷ []) g)
    (sym (eqb-true d c (and_parts _ _ h).0)) last
one_punct c (leaf (ident x y)) g h = absurd (false≢true h)
one_punct c (leaf (literal x y)) g h = absurd (false≢true h)
one_punct c (group d x y) g h = absurd (false≢true h)

joint_punct : (c d : ℕ) (cs : List ℕ) (spans : List Span) (t : Tree) (f g : Forest)
    → is_joint_of c t ≡ true → ArePuncts (d ∷ cs) f spans g
    → ArePuncts (c ∷ (d ∷ cs)) (tree t f) (tree_span t ∷ spans) g
joint_punct c d cs spans (leaf (punct e Joint span)) f g h r =
    subst (λ x. ArePuncts (c ∷ (d ∷ cs)) (tree (leaf (punct x Joint span)) f) (span ∷ spans) g)
    (sym (eqb-true e c (and_parts _ _ h).0)) (joint r)
joint_punct c d cs spans (leaf (punct e Alone span)) f g h r = absurd (false≢true h)
joint_punct c d cs spans (leaf (ident x y)) f g h r = absurd (false≢true h)
joint_punct c d cs spans (leaf (literal x y)) f g h r = absurd (false≢true h)
joint_punct c d cs spans (group x y z) f g h r = absurd (false≢true h)

spelled : (cs : List ℕ) (ts : List Tree) (g : Forest) → Spells cs ts
    → ArePuncts cs (concat (forest ts) g) (map tree_span ts) g
spelled [] ts g i = absurd i
spelled (c ∷ []) ts g i = grind (arith, one_punct)
spelled (c ∷ (d ∷ cs)) ts g i = grind (arith, joint_punct, spelled (d ∷ cs) i.1 g i.4)

spells : {cs : List ℕ} {f g : Forest} {spans : List Span} → ArePuncts cs f spans g
    → are_own cs ≡ true
    → (ts : List Tree) × Spells cs ts × (spans ≡ map tree_span ts) × (f ≡ concat (forest ts) g)
spells (last {c} {spacing} {span}) own =
    let t = leaf (punct c spacing span) in
    (t ∷ [], (t, refl, and_from _ _ (eq-eqb c c refl) (and_parts _ _ own).0), refl, refl)
spells (joint {c} {d} {cs} {span} {spans} {f} {g} r) own =
    let t = leaf (punct c Joint span) in
    let more = spells r (and_parts _ _ own).1 in (
      t ∷ more.0,
      (
        t ∷ [],
        more.0,
        refl,
        (t, refl, and_from _ _ (eq-eqb c c refl) (and_parts _ _ own).0),
        more.1,
      ),
      ap (λ xs. span ∷ xs) more.2,
      ap (tree t) more.3,
    )

pub sign_exactly : {k n : ℕ} (name : Name (Punctuation k n) (token.punctuation k n))
    → are_own (punctuation_word k n) ≡ true → Exactly (IsSign (punctuation_word k n)) (take name)
sign_exactly {k} {n} name own = by_shape (token_shape (token.punctuation k n) tt) to from where
  to : (v : Punctuation k n) (ts : List Tree) (g : Forest) → IsPunctuation k n v ts
      → IsSign (punctuation_word k n) (concat (forest ts) g) v g
  to v ts g i =
      subst
      (λ xs. IsSign {k = k} {n = n} (punctuation_word k n) (concat (forest ts) g)
      (record { spans = xs }) g)
      (sym i.1) (sign (spelled (punctuation_word k n) ts g i.0))

  from : (f g : Forest) (v : Punctuation k n) → IsSign (punctuation_word k n) f v g
      → (ts : List Tree) × IsPunctuation k n v ts × (f ≡ concat (forest ts) g)
  from f g v (sign p) = let t = spells p own in (t.0, (t.1, t.2), t.3)

pub rest_exactly : Exactly IsRest take_rest
rest_exactly = exactly (leaves_unread all) go where
  all : (a b : Ahead) (v : Forest) → take_rest a ≡ found v b
      → (a.unread ≡ b.unread) × IsRest a.trees v b.trees
  all a b v e = (
    ap unread_of (found_second e),
    subst (λ f. IsRest a.trees f b.trees) (found_first e)
        (subst (λ f. IsRest a.trees a.trees f) (ap trees_of (found_second e)) rest),
  )

  go : Written IsRest take_rest
  go _ _ _ rest = refl

-- a peek at a token tells whether it is next
module _ {A : Type 0} {P : Part A} (read : Forest → Option (List Tree × Forest))
    (means : List Tree → A) (lack : Forest → Missing)
    (h : Exactly P (take_by read means lack)) where
  read_next : (f : Forest) (o : Option (List Tree × Forest)) → read f ≡ o → is_some o ≡ true
      → (v : A) × (g : Forest) × P f v g
  read_next f None i e = absurd (false≢true e)
  read_next f (Some r) i e = (
    means r.0,
    r.1,
    (h.sound.taken (only_trees f) (only_trees r.1) (means r.0)
        (ap (read_as means lack (only_trees f)) i) refl).1,
  )

  read_seen : (f : Forest) (g : Forest) (v : A) (o : Option (List Tree × Forest))
      → read_as means lack (only_trees f) o ≡ found v (only_trees g) → is_some o ≡ true
  read_seen f g v o e = grind arith

  tells_read : Tells P (λ a. is_some (read a.trees))
  tells_read = record { next = λ f e. read_next f (read f) refl e; seen = go } where
    go : {f g : Forest} {v : A} → P f v g → is_some (read f) ≡ true
    go {f} {g} {v} p = read_seen f g v (read f) (takes h p)

pub word_tells : {k : ℕ} (name : Name (Keyword k) (token.keyword k)) (c : ℕ) (cs : List ℕ)
    → keyword_text k ≡ c ∷ cs → Tells (IsWord {k = k} (keyword_text k)) (sees name)
unfolding take_token keyword_first
word_tells name c cs e = tells_read _ _ _ (word_exactly name c cs e)

pub sign_tells : {k n : ℕ} (name : Name (Punctuation k n) (token.punctuation k n))
    → are_own (punctuation_word k n) ≡ true
    → Tells (IsSign {k = k} {n = n} (punctuation_word k n)) (sees name)
unfolding take_token punctuation_first
sign_tells name own = tells_read _ _ _ (sign_exactly name own)

-- a peek at a group tells whether there is one
pub group_tells : (d : Delimiter) → Tells (IsGroup d) (sees_group d)
unfolding take_group group_first
group_tells d = record { next = λ f e. to f (first_group d f) refl e; seen = go } where
  to : (f : Forest) (o : Option (EnteredWith Forest)) → first_group d f ≡ o → is_some o ≡ true
      → (v : DelimSpan × Forest) × (g : Forest) × IsGroup d f v g
  to f None i e = absurd (false≢true e)
  to f (Some x) i e = (
    (record { join = x.span }, x.content),
    x.after,
    ((group_exactly d rest_exactly).sound.taken (only_trees f) (only_trees x.after)
        (record { join = x.span }, x.content) (ap (inside_first d take_rest (only_trees f)) i)
        refl).1,
  )

  from : (f g : Forest) (v : DelimSpan × Forest) (o : Option (EnteredWith Forest))
      → inside_first d take_rest (only_trees f) o ≡ found v (only_trees g) → is_some o ≡ true
  from f g v None e = absurd (cc)
  from f g v (Some x) e = refl

  go : {f g : Forest} {v : DelimSpan × Forest} → IsGroup d f v g → group_first d f ≡ true
  go {f} {g} {v} p = from f g v (first_group d f) (takes (group_exactly d rest_exactly) p)
