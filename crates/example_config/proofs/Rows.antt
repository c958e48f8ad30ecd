-- Texts in a row are read as a list, if each is read as one of its values.
use Rattle.std.proofs.Common.{◌≡◌, ◌∙◌, ◌≤◌, ℕ, List, [], ◌∷◌, ◌++◌, refl, sym, ap, subst}
use Rattle.std.proofs.Common.{append_assoc, arith, map}
use Rattle.std.specs.Prelude.{true, codes}
use Rattle.std.specs.List.{flat_map}
use Rattle.std.specs.Str.{IsUtf8, chars}
use Rattle.std.proofs.lemmas.List.{append-nil}
use Rattle.std.proofs.lemmas.Str.{IsUtf8-append, IsUtf8-nil, chars-append, chars-nil}
use Rattle.tok_leaves.specs.declared.punct.Spacing.{Spacing}
use Rattle.tok_leaves.specs.declared.span.Span.{Span}
use Rattle.tok_core.specs.Forest.{Forest, Tree, concat, forest, no_trees, tree}
use Rattle.tok_core.specs.Lexical.Items.{depth, no_items}
use Rattle.tok_core.specs.Lexical.Reading.{stop}
use Rattle.tok_core.proofs.Lexical.Flat.{depth_joined}
use Rattle.syn_parse.specs.TokenNames.{Comma, Token}
use Rattle.example_config.specs.Grammar.{comma, sign, sign_at}
use Rattle.example_config.specs.Printed.{in_a_row}
use Rattle.example_config.proofs.Ascii.{chars_after, low_utf8}
use Rattle.example_config.proofs.Ends.{ends}
use Rattle.example_config.proofs.Pieces.{Reads, reads_then, sign_read, space_read}

-- the texts after the first of a row
abbrev rest_of_row : List (List ℕ) → List ℕ
rest_of_row = flat_map (λ u. codes ", " ++ u)

-- texts, each with a comma in a line of its own
abbrev pub in_lines : List (List ℕ) → List ℕ
in_lines = flat_map (λ t. t ++ codes ",\n")

row_chars : (t u : List ℕ) (us : List (List ℕ)) (after : List ℕ) → IsUtf8 t
    → chars (t ++ rest_of_row (u ∷ us)) ++ after
    ≡ chars t ++ 44 ∷ 32 ∷ (chars (u ++ rest_of_row us) ++ after)
row_chars t u us after utf8 = search (chars-append, append_assoc, chars_after)

line_chars : (t : List ℕ) (ts : List (List ℕ)) → IsUtf8 t
    → chars (in_lines (t ∷ ts)) ≡ chars t ++ 44 ∷ 10 ∷ chars (in_lines ts)
line_chars t ts utf8 = search (append_assoc, chars-append, chars_after)

none_read : (number at : ℕ) (after : List ℕ) → Reads number at (chars [] ++ after) no_trees after
none_read number at after =
    subst (λ w. Reads number at (w ++ after) no_trees after) (sym chars-nil)
    (at, [], no_items, stop)

-- values of a kind, and what they are without their spans
module _ {X B : Type 0} (bare : X → B) (Is : X → List Tree → Type 0) (number : ℕ) where
  -- a front of the text reads as a value that is this one but for spans, of at most this depth
  pub record ReadsOne (n at : ℕ) (text : List ℕ) (b : B) (after : List ℕ) : Type 0 where
    pub value : X
    pub trees : List Tree
    pub is : Is value trees
    pub same : bare value ≡ b
    pub low : depth (forest trees) ≤ n
    pub reads : Reads number at text (forest trees) after

  -- the text is read so at each byte, before an end
  abbrev pub IsReadAs : ℕ → List ℕ → B → Type 0
  IsReadAs n text b =
      IsUtf8 text
      × ((at : ℕ) (after : List ℕ) → ends after ≡ true
      → ReadsOne n at (chars text ++ after) b after)

  -- each text is read so, as the value in its place
  abbrev pub AreReadAs : ℕ → List (List ℕ) → List B → Type 0
  AreReadAs n [] [] = Unit {0}
  AreReadAs n [] (b ∷ bs) = ⊥
  AreReadAs n (t ∷ ts) [] = ⊥
  AreReadAs n (t ∷ ts) (b ∷ bs) = IsReadAs n t b × AreReadAs n ts bs

  rest_utf8 : (n : ℕ) (ts : List (List ℕ)) (bs : List B) → AreReadAs n ts bs
      → IsUtf8 (rest_of_row ts)
  rest_utf8 n [] [] h = IsUtf8-nil
  rest_utf8 n [] (b ∷ bs) h = absurd h
  rest_utf8 n (t ∷ ts) [] h = absurd h
  rest_utf8 n (t ∷ ts) (b ∷ bs) h = search (IsUtf8-append, low_utf8, rest_utf8 n ts bs h.1)

  pub row_utf8 : (n : ℕ) (ts : List (List ℕ)) (bs : List B) → AreReadAs n ts bs
      → IsUtf8 (in_a_row ts)
  row_utf8 n [] [] h = IsUtf8-nil
  row_utf8 n [] (b ∷ bs) h = absurd h
  row_utf8 n (t ∷ ts) [] h = absurd h
  row_utf8 n (t ∷ ts) (b ∷ bs) h =
      IsUtf8-append t (rest_of_row ts) h.0.0 (rest_utf8 n ts bs h.1)

  -- a front of the text reads as values that are these but for spans
  module _ (Are : Forest → List X → List (Token Comma) → Type 0) where
    pub record ReadsAll (n at : ℕ) (text : List ℕ) (bs : List B) (after : List ℕ) : Type 0 where
      pub values : List X
      pub commas : List (Token Comma)
      pub inside : Forest
      pub are : Are inside values commas
      pub same : map bare values ≡ bs
      pub low : depth inside ≤ n
      pub reads : Reads number at text inside after

    module _ (none : Are no_trees [] [])
        (last : (trees : List Tree) (value : X) → Is value trees
        → Are (forest trees) (value ∷ []) [])
        (and : (trees : List Tree) (value : X) (spacing : Spacing) (span : Span) (rest : Forest)
        (others : List X) (commas : List (Token Comma)) → Is value trees → Are rest others commas
        → Are (concat (forest trees) (tree (sign comma spacing span) rest))
        (value ∷ others) (sign_at span ∷ commas))
      where
        -- a value, a comma, white space, and the others
        one_more : (n at c : ℕ) (text next after : List ℕ) (b : B) (bs : List B)
            → (one : ReadsOne n at text b (44 ∷ c ∷ next))
            → ((to : ℕ) → Reads number to (c ∷ next) no_trees next)
            → ((to : ℕ) → ReadsAll n to next bs after)
            → ReadsAll n at text (b ∷ bs) after
        one_more n at c text next after b bs one gap others =
            let s = sign_read number one.reads.0 44 (c ∷ next) refl in
            let w = gap s.2.0 in
            let k = others w.0 in record {
              values = one.value ∷ k.values;
              commas = sign_at s.1 ∷ k.commas;
              inside = concat (forest one.trees) (tree (sign comma s.0 s.1) k.inside);
              are = and one.trees one.value s.0 s.1 k.inside k.values k.commas one.is k.are;
              same = ap (λ x. x ∷ map bare k.values) one.same ∙ ap (λ xs. b ∷ xs) k.same;
              low = depth_joined n (forest one.trees) (tree (sign comma s.0 s.1) k.inside) one.low
                  k.low;
              reads = reads_then one.reads (reads_then s.2 (reads_then w k.reads));
            }

        row_read : (n at : ℕ) (t : List ℕ) (ts : List (List ℕ)) (b : B) (bs : List B)
            → IsReadAs n t b → AreReadAs n ts bs → (after : List ℕ) → ends after ≡ true
            → ReadsAll n at (chars (t ++ rest_of_row ts) ++ after) (b ∷ bs) after
        row_read n at t [] b [] one others after e =
            let r = one.1 at after e in record {
              values = r.value ∷ [];
              commas = [];
              inside = forest r.trees;
              are = last r.trees r.value r.is;
              same = ap (λ x. x ∷ []) r.same;
              low = r.low;
              reads = subst (λ w. Reads number at (chars w ++ after) (forest r.trees) after)
                  (sym (append-nil t)) r.reads;
            }
        row_read n at t [] b (d ∷ bs) one others after e = absurd others
        row_read n at t (u ∷ us) b [] one others after e = absurd others
        row_read n at t (u ∷ us) b (d ∷ bs) one others after e =
            let next = chars (u ++ rest_of_row us) ++ after in
            subst (λ w. ReadsAll n at w (b ∷ d ∷ bs) after) (sym (row_chars t u us after one.0))
            (one_more n at 32 (chars t ++ 44 ∷ 32 ∷ next) next after b (d ∷ bs)
            (one.1 at (44 ∷ 32 ∷ next) refl)
            (λ to. space_read number to 32 next refl refl)
            (λ to. row_read n to u us d bs others.0 others.1 after e))

        -- texts in a row, before an end
        pub rows_read : (n at : ℕ) (ts : List (List ℕ)) (bs : List B) → AreReadAs n ts bs
            → (after : List ℕ) → ends after ≡ true
            → ReadsAll n at (chars (in_a_row ts) ++ after) bs after
        rows_read n at [] [] h after e = grind (arith, none_read)
        rows_read n at [] (b ∷ bs) h after e = absurd h
        rows_read n at (t ∷ ts) [] h after e = absurd h
        rows_read n at (t ∷ ts) (b ∷ bs) h after e = row_read n at t ts b bs h.0 h.1 after e

        -- texts in lines, to the end
        pub lines_read : (n at : ℕ) (ts : List (List ℕ)) (bs : List B) → AreReadAs n ts bs
            → ReadsAll n at (chars (in_lines ts)) bs []
        lines_read n at [] [] h = record {
          values = [];
          commas = [];
          inside = no_trees;
          are = none;
          same = refl;
          low = omega arith;
          reads = subst (λ w. Reads number at w no_trees []) (sym chars-nil)
              (at, [], no_items, stop);
        }
        lines_read n at [] (b ∷ bs) h = absurd h
        lines_read n at (t ∷ ts) [] h = absurd h
        lines_read n at (t ∷ ts) (b ∷ bs) h =
            let next = chars (in_lines ts) in
            subst (λ w. ReadsAll n at w (b ∷ bs) []) (sym (line_chars t ts h.0.0))
            (one_more n at 10 (chars t ++ 44 ∷ 10 ∷ next) next [] b bs
            (h.0.1 at (44 ∷ 10 ∷ next) refl)
            (λ to. space_read number to 10 next refl refl)
            (λ to. lines_read n to ts bs h.1))
