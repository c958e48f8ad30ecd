-- Which trees are taken, in both directions: what is found is these trees, and these trees are
-- found.
use Rattle.std.proofs.Common.{arith, ◌≡◌, ◌∙◌, sym, ap, refl, ℕ, ◌==◌, ◌&&◌, not, Bool, true}
use Rattle.std.proofs.Common.{false, cond, List, [], ◌∷◌, ◌++◌, map, Option, Some, None, eq-eqb}
use Rattle.std.proofs.Common.{bytes_eq}
use Rattle.std.proofs.lemmas.Bool.{and_parts, false≢true}
use Rattle.std.proofs.lemmas.Option.{some_pair_parts}
use Rattle.std.proofs.lemmas.Slice.Eq.{bytes_eq-Decides}
use Rattle.tok_lexical.specs.Ascii.{apostrophe}
use Rattle.tok_lexical.specs.declared.delimiter.Delimiter.{Delimiter}
use Rattle.tok_leaves.specs.declared.ident.Ident.{Ident}
use Rattle.tok_leaves.specs.declared.lifetime.Lifetime.{Lifetime}
use Rattle.tok_leaves.specs.declared.literal.Literal.{Literal}
use Rattle.tok_leaves.specs.declared.punct.Punct.{Punct}
use Rattle.tok_leaves.specs.declared.punct.Spacing.{Spacing}
use Rattle.tok_leaves.specs.declared.punct.Spacing.TheVariants.{Joint}
use Rattle.tok_leaves.specs.declared.span.DelimSpan.{DelimSpan}
use Rattle.tok_leaves.specs.declared.span.Span.{Span}
use Rattle.tok_leaves.specs.Leaves.{punct, ident_of, literal_of}
use Rattle.tok_core.specs.Clear.{is_joint_apostrophe}
use Rattle.tok_core.specs.Forest.{Tree, leaf, group, Forest, tree, forest, concat, tree_span}
use Rattle.tok_buffer.specs.EachRead.{and_first, first_if, first_keyword, first_lifetime}
use Rattle.tok_buffer.specs.EachRead.{first_puncts}
use Rattle.tok_buffer.specs.Reads.{any_text, is_ident_of, is_joint_of, is_punct_of}
use Rattle.tok_types.specs.Texts.{accept_as_ident, keyword_text, punctuation_word}
use Rattle.tok_types.specs.declared.punctuation.Punctuation.{Punctuation}
use Rattle.syn_parse.specs.Parses.{AreSpans, IsIdent, IsLifetime, IsLiteral, IsPunct, IsSpanOf}
use Rattle.syn_parse.specs.Parses.{accept_as_lifetime}
use Rattle.syn_parse.specs.ErrorWords.{span_in}
use Rattle.syn_parse.specs.Lighter.{group_is_first}
use Rattle.syn_parse.specs.TokenNames.{Name, take}
use Rattle.syn_parse.specs.Tokens as token
use Rattle.syn_parse.specs.Tokens.{TokenKind, lifetime_in, take_ident, take_literal, take_token}
use Rattle.syn_parse.specs.Positions.{Missing}
use Rattle.syn_parse.specs.TreesAhead.{Ahead, all_taken, only_trees, unread_after}
use Rattle.syn_parse.specs.Takes.{Outcome, Taking, found, and_then, read_as, take_by, take_group}

-- these trees are ahead first
abbrev pub before : List Tree → Ahead → Ahead
before ts b = record b { trees = concat (forest ts) b.trees }

-- what is taken is these trees, and these trees are taken
pub record Shape {A : Type 0} (Is : A → List Tree → Type 0) (take : Taking A) : Type 0 where
  pub taken : (a b : Ahead) (v : A) → take a ≡ found v b → (ts : List Tree) × Is v ts × (a
      ≡ before ts b)
  pub takes : (b : Ahead) (v : A) (ts : List Tree) → Is v ts → take (before ts b) ≡ found v b

-- one after another
pub record Then {A B : Type 0} (o : Outcome A) (k : A → Ahead
    → Outcome B) (w : B) (b : Ahead) : Type 0 where
  pub value : A
  pub after : Ahead
  pub first : o ≡ found value after
  pub rest : k value after ≡ found w b

pub then_found : {A B : Type 0} (o : Outcome A) (k : A → Ahead → Outcome B) (w : B) (b : Ahead)
    → and_then o k ≡ found w b → Then o k w b
then_found o k w b e = grind arith

-- a step finds a value, and the steps after it go on from there
pub step : {A B : Type 0} {o : Outcome A} {v : A} {b : Ahead} {w : Outcome B}
    (k : A → Ahead → Outcome B) → o ≡ found v b → k v b ≡ w → and_then o k ≡ w
step k e h = ap (λ x. and_then x k) e ∙ h

-- the test is false, so the other branch is taken
pub past : {A : Type 0} {t : Bool} {o w : Outcome A} (there : Outcome A) → t ≡ false → o ≡ w
    → cond t there o ≡ w
past {o} there e h = ap (λ c. cond c there o) e ∙ h

pub found_first : {A : Type 0} {x y : A} {a b : Ahead} → found x a ≡ found y b → x ≡ y
found_first e = cc

pub found_second : {A : Type 0} {x y : A} {a b : Ahead} → found x a ≡ found y b → a ≡ b
found_second e = cc

-- trees that a read returns, and those that it is found at
record ReadShape (read : Forest → Option (List Tree × Forest)) (Are : List Tree
    → Type 0) : Type 0 where
  taken : (f g : Forest) (ts : List Tree) → read f ≡ Some (ts, g) → Are ts × (f
      ≡ concat (forest ts) g)
  takes : (g : Forest) (ts : List Tree) → Are ts → read (concat (forest ts) g) ≡ Some (ts, g)

by_read : {T : Type 0} (Is : T → List Tree → Type 0) (read : Forest → Option (List Tree × Forest))
    (Are : List Tree → Type 0) (means : List Tree → T) (lack : Forest → Missing)
    → ReadShape read Are
    → ((ts : List Tree) → Are ts → Is (means ts) ts)
    → ((v : T) (ts : List Tree) → Is v ts → Are ts × (means ts ≡ v))
    → Shape Is (take_by read means lack)
by_read {T} Is read Are means lack r is are = record {
  taken = λ a b v e. go a b v (read a.trees) refl e;
  takes = λ b v ts i.
      let k = are v ts i in
      ap (read_as means lack (before ts b)) (r.takes b.trees ts k.0) ∙ ap (λ w. found w b) k.1;
} where
  go : (a b : Ahead) (v : T) (o : Option (List Tree × Forest)) → read a.trees ≡ o
      → read_as means lack a o ≡ found v b → (ts : List Tree) × Is v ts × (a ≡ before ts b)
  go a b v None h e = absurd (cc)
  go a b v (Some (ts, g)) h e =
      let k = r.taken a.trees g ts h in
      let same : means ts ≡ v = found_first e in
      let after : record { trees = g; unread = a.unread } ≡ b = found_second e in (
        ts,
        rw same at (is ts k.0),
        ap (λ f. record { trees = f; unread = a.unread }) k.1 ∙ ap (before ts) after,
      )

-- the first tree, by a test
first_tree : (wanted : Tree → Bool)
    → ReadShape (first_if wanted) (λ ts. (t : Tree) × (ts ≡ t ∷ []) × (wanted t ≡ true))
first_tree wanted = grind (arith, some_pair_parts)

abbrev One : (Tree → Bool) → List Tree → Type 0
One wanted ts = (t : Tree) × (ts ≡ t ∷ []) × (wanted t ≡ true)

-- an identifier of an accepted text
abbrev pub IsAccepted : (List ℕ → Bool) → Ident → List Tree → Type 0
IsAccepted accept v ts = IsIdent v ts × (accept v.text ≡ true)

-- a punct other than an apostrophe
abbrev pub IsOwnPunct : Punct → List Tree → Type 0
IsOwnPunct v ts = IsPunct v ts × (not (v.ch == apostrophe) ≡ true)

-- puncts of these characters, each but the last joint
abbrev pub Spells : List ℕ → List Tree → Type 0
Spells [] ts = ⊥
Spells (c ∷ []) ts = One (is_punct_of c) ts
Spells (c ∷ (d ∷ cs)) ts =
    (us : List Tree) × (ws : List Tree) × (ts ≡ us ++ ws) × One (is_joint_of c) us
    × Spells (d ∷ cs) ws

-- the trees of two lists, one after the other
pub forests_join : (us ws : List Tree) (g : Forest)
    → concat (forest us) (concat (forest ws) g) ≡ concat (forest (us ++ ws)) g
forests_join [] ws g = refl
forests_join (u ∷ us) ws g = ap (tree u) (forests_join us ws g)

-- what is read after these trees
abbrev behind : List Tree → Option (List Tree × Forest) → Option (List Tree × Forest)
behind us o = elim o [ Some q ↦ Some (us ++ q.0, q.1) | None ↦ None ]

module _ (read more : Forest → Option (List Tree × Forest)) (Are Others : List Tree → Type 0)
    (h : ReadShape read Are) (k : ReadShape more Others) where
  abbrev Both : List Tree → Type 0
  Both ts = (us : List Tree) × (ws : List Tree) × (ts ≡ us ++ ws) × Are us × Others ws

  second : (us : List Tree) (m : Forest) (f g : Forest) (ts : List Tree) → Are us → f
      ≡ concat (forest us) m
      → (o : Option (List Tree × Forest)) → more m ≡ o
      → behind us o ≡ Some (ts, g)
      → Both ts × (f ≡ concat (forest ts) g)
  second us m f g ts a e None x y = absurd (cc)
  second us m f g ts a e (Some (ws, l)) x y =
      let b = k.taken m l ws x in
      let (same, end) = some_pair_parts _ _ _ _ y in (
        (us, ws, sym same, a, b.0),
        e ∙ ap (concat (forest us)) b.1 ∙ forests_join us ws l
            ∙ ap (λ xs. concat (forest xs) l) same ∙ ap (concat (forest ts)) end,
      )

  first : (f g : Forest) (ts : List Tree) (o : Option (List Tree × Forest)) → read f ≡ o
      → and_first o more ≡ Some (ts, g) → Both ts × (f ≡ concat (forest ts) g)
  first f g ts None x y = absurd (cc)
  first f g ts (Some (us, m)) x y =
      let a = h.taken f m us x in
      second us m f g ts a.0 a.1 (more m) refl y

  two_reads : ReadShape (λ f. and_first (read f) more) Both
  two_reads = record {
    taken = λ f g ts e. first f g ts (read f) refl e;
    takes = λ g ts i.
        rw i.2
        (ap (λ f. and_first (read f) more) (sym (forests_join i.0 i.1 g))
        ∙ ap (λ o. and_first o more) (h.takes (concat (forest i.1) g) i.0 i.3)
        ∙ ap (behind i.0) (k.takes g i.1 i.4));
  }

puncts : (text : List ℕ) → ReadShape (first_puncts text) (Spells text)
puncts [] = record { taken = λ f g ts e. absurd (cc); takes = λ g ts i. absurd i }
puncts (c ∷ []) = first_tree (is_punct_of c)
puncts (c ∷ (d ∷ cs)) = two_reads _ _ _ _ (first_tree (is_joint_of c)) (puncts (d ∷ cs))

-- a punctuation of these characters
abbrev pub IsPunctuation : (k n : ℕ) → Punctuation k n → List Tree → Type 0
IsPunctuation k n v ts = Spells (punctuation_word k n) ts × AreSpans v.spans ts

-- an identifier of one text
text_is : (text : List ℕ) (t : Tree) → is_ident_of (bytes_eq text) t ≡ true
    → IsSpanOf text (span_in (t ∷ [])) (t ∷ [])
text_is text t h = grind (arith, bytes_eq-Decides, false≢true)

word_is : (text : List ℕ) (ts : List Tree) → One (is_ident_of (bytes_eq text)) ts
    → IsSpanOf text (span_in ts) ts
word_is text ts i = rw i.1 (text_is text i.0 i.2)

is_word : (text : List ℕ) (span : Span) (ts : List Tree) → IsSpanOf text span ts
    → One (is_ident_of (bytes_eq text)) ts × (span_in ts ≡ span)
is_word text span ts i = grind (arith, bytes_eq-Decides)

-- a text that is not empty
abbrev pub IsFull : List ℕ → Type 0
IsFull text = (c : ℕ) × (cs : List ℕ) × (text ≡ c ∷ cs)

a_word : (text : List ℕ) → IsFull text
    → ReadShape (first_keyword text) (One (is_ident_of (bytes_eq text)))
a_word text e = grind (arith, first_tree)

-- an apostrophe and an identifier of an accepted text
abbrev pub IsAcceptedLifetime : (List ℕ → Bool) → Lifetime → List Tree → Type 0
IsAcceptedLifetime accept v ts = IsLifetime v ts × (accept v.ident.text ≡ true)

abbrev Pair : (List ℕ → Bool) → List Tree → Type 0
Pair accept ts =
    (us : List Tree) × (ws : List Tree) × (ts ≡ us ++ ws) × One is_joint_apostrophe us
    × One (is_ident_of accept) ws

is_pair : (accept : List ℕ → Bool) (v : Lifetime) (ts : List Tree) → IsAcceptedLifetime accept v ts
    → Pair accept ts × (lifetime_in ts ≡ v)
is_pair accept v ts i = (
  (
    leaf (punct apostrophe Joint v.apostrophe) ∷ [],
    leaf (ident_of v.ident) ∷ [],
    i.0,
    (leaf (punct apostrophe Joint v.apostrophe), refl, refl),
    (leaf (ident_of v.ident), refl, i.1),
  ),
  ap lifetime_in i.0,
)

lifetimes : (accept : List ℕ → Bool) → ReadShape (first_lifetime accept) (Pair accept)
lifetimes accept =
    two_reads _ _ _ _ (first_tree is_joint_apostrophe) (first_tree (is_ident_of accept))

-- a token is these trees
abbrev pub IsToken : {A : Type 0} → TokenKind A → A → List Tree → Type 0
IsToken token.ident v ts = IsAccepted accept_as_ident v ts
IsToken token.any_ident v ts = IsIdent v ts
IsToken token.lifetime v ts = IsAcceptedLifetime accept_as_lifetime v ts
IsToken token.any_lifetime v ts = IsAcceptedLifetime any_text v ts
IsToken token.literal v ts = IsLiteral v ts
IsToken token.punct v ts = IsOwnPunct v ts
IsToken (token.own text) v ts = IsSpanOf text v ts
IsToken (token.keyword k) v ts = IsSpanOf (keyword_text k) v.span ts
IsToken (token.punctuation k n) v ts = IsPunctuation k n v ts

-- the text of a word is not empty
abbrev pub IsWritten : {A : Type 0} → TokenKind A → Type 0
IsWritten (token.own text) = IsFull text
IsWritten (token.keyword k) = IsFull (keyword_text k)
IsWritten t = Unit {0}

pub token_shape : {A : Type 0} (t : TokenKind A) → IsWritten t → Shape (IsToken t) (take_token t)
unfolding take_token
token_shape token.ident h = grind (arith, by_read, first_tree, false≢true)
token_shape token.any_ident h = grind (arith, by_read, first_tree, false≢true)
token_shape token.lifetime h = grind (arith, by_read, lifetimes, false≢true, is_pair)
token_shape token.any_lifetime h = grind (arith, by_read, lifetimes, false≢true, is_pair)
token_shape token.literal h = grind (arith, by_read, first_tree, false≢true)
token_shape token.punct h = grind (arith, by_read, first_tree, false≢true)
token_shape (token.own text) h =
    by_read _ _ _ span_in _ (a_word text h) (word_is text) (is_word text)
token_shape (token.keyword k) h =
    let text = keyword_text k in
    by_read _ _ _ (λ ts. record { span = span_in ts }) _ (a_word text h) (word_is text)
    (λ v ts i. let w = is_word text v.span ts i in (w.0, ap (λ s. record { span = s }) w.1))
token_shape (token.punctuation k n) h =
    by_read _ _ _ (λ ts. record { spans = map tree_span ts }) _ (puncts (punctuation_word k n))
    (λ ts i. (i, refl)) (λ v ts i. (i.0, ap (λ xs. record { spans = xs }) (sym i.1)))

-- a group, and what is left within it
pub record GroupTaken {A : Type 0} (d : Delimiter) (inner : Taking A) (v : DelimSpan
    × A) (a b : Ahead)
    : Type 0 where
  pub content : Forest
  pub left : Ahead
  pub inside : inner (only_trees content) ≡ found v.1 left
  pub trees : a.trees ≡ tree (group d content v.0.join) b.trees
  pub unread : b.unread ≡ unread_after a left

module _ {A : Type 0} (d : Delimiter) (inner : Taking A) where
  pub group_taken : (a b : Ahead) (v : DelimSpan × A) → take_group d inner a ≡ found v b
      → GroupTaken d inner v a b
  unfolding take_group
  group_taken a b v e = grind (arith, first, found_first, found_second, group_is_first)

  pub takes_group : (content : Forest) (span : Span) (x : A) (b : Ahead)
      → inner (only_trees content) ≡ found x all_taken
      → take_group d inner (before (group d content span ∷ []) b)
      ≡ found (record { join = span }, x) b
  unfolding take_group
  takes_group content span x b h = grind arith

abbrev is_own : ℕ → Bool
is_own c = not (c == apostrophe)

-- a punctuation of one character
abbrev pub IsSign : (c : ℕ) {k : ℕ} → Punctuation k 1 → List Tree → Type 0
IsSign c v ts =
    (spacing : Spacing) × (span : Span) × (ts ≡ leaf (punct c spacing span) ∷ [])
    × (v ≡ record { spans = span ∷ [] })

sign_is : (c : ℕ) {k : ℕ} (v : Punctuation k 1) (t : Tree) → is_punct_of c t ≡ true
    → v.spans ≡ tree_span t ∷ [] → IsSign c v (t ∷ [])
sign_is c v t h e = grind (arith, and_parts, false≢true)

pub sign_shape : {k : ℕ} (name : Name (Punctuation k 1) (token.punctuation k 1)) (c : ℕ)
    → punctuation_word k 1 ≡ c ∷ [] → is_own c ≡ true → Shape (IsSign c) (take name)
sign_shape {k} name c e own =
    let shape = token_shape (token.punctuation k 1) tt in
    record {
      taken = λ a b v h.
          let t = shape.taken a b v h in
          let one = rw e at t.1.0 in
          (t.0, rw one.1 (sign_is c v one.0 one.2 (rw one.1 at t.1.1)), t.2);
      takes = λ b v ts i.
          shape.takes b v ts (
            rw e (leaf (punct c i.0 i.1), i.2, ap (λ x. x && is_own c) (eq-eqb c c refl) ∙ own),
            rw (i.3, i.2) refl,
          );
    }

-- the token that comes first is taken
module _ {f : Forest} {u : Option Span} where
  pub ident_ahead : (name : Ident) → accept_as_ident name.text ≡ true
      → take_ident (record { trees = tree (leaf (ident_of name)) f; unread = u })
      ≡ found name (record { trees = f; unread = u })
  ident_ahead name e =
      (token_shape token.ident tt).takes _ name (leaf (ident_of name) ∷ []) (refl, e)

  pub literal_ahead : (l : Literal)
      → take_literal (record { trees = tree (leaf (literal_of l)) f; unread = u })
      ≡ found l (record { trees = f; unread = u })
  literal_ahead l = (token_shape token.literal tt).takes _ l (leaf (literal_of l) ∷ []) refl

  pub sign_ahead : {k c : ℕ} → Shape (IsSign c) (take_token (token.punctuation k 1))
      → (spacing : Spacing) (span : Span)
      → take_token (token.punctuation k 1)
      (record { trees = tree (leaf (punct c spacing span)) f; unread = u })
      ≡ found (record { spans = span ∷ [] }) (record { trees = f; unread = u })
  sign_ahead {k} {c} h spacing span =
      h.takes _ _ (leaf (punct c spacing span) ∷ []) (spacing, span, refl, refl)

  pub group_ahead : {A : Type 0} (d : Delimiter) (inner : Taking A) {content : Forest} {span : Span}
      {x : A} → inner (only_trees content) ≡ found x all_taken
      → take_group d inner (record { trees = tree (group d content span) f; unread = u })
      ≡ found (record { join = span }, x) (record { trees = f; unread = u })
  group_ahead d inner e = takes_group d inner _ _ _ _ e
