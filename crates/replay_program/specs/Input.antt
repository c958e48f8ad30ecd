-- The parts of the program's input: one text or two, each ended by a line `---`, and the commands.
use Rattle.std.specs.Prelude.{ℕ, ◌≡◌, ◌==◌, Bool, bytes_eq, List, [], ◌∷◌, Option, Some, None}
use Rattle.std.specs.Prelude.{IfSome, MatchOption, option_map, codes}
use Rattle.std.specs.List.{slice_split, flat_map}
use Rattle.std.specs.Str.{IsUtf8}
use denote.Ref.{Bor}
use Rattle.tok_lexical.specs.Ascii.{line_feed}
use Rattle.syn_replay.specs.ReportText.{as_line}

-- the parts between line feeds
abbrev pub lines : List ℕ → List (List ℕ)
lines bytes = slice_split (λ b. b == line_feed) bytes

-- a line that ends a text
abbrev pub is_cut : List ℕ → Bool
is_cut line = bytes_eq line (codes "---")

-- lines as one text, each with its line feed
abbrev pub text_of : List (List ℕ) → List ℕ
text_of = flat_map as_line

-- one text, or two, and the lines of the commands after the last cut
abbrev pub texts_in : List (List (List ℕ)) → Option (List ℕ × Option (List ℕ) × List (List ℕ))
texts_in (text ∷ commands ∷ []) = Some (text_of text, None, commands)
texts_in (left ∷ (right ∷ (commands ∷ []))) = Some (text_of left, Some (text_of right), commands)
texts_in parts = None

-- the parts between the cuts
abbrev pub parts_of : List ℕ → Option (List ℕ × Option (List ℕ) × List (List ℕ))
parts_of bytes = texts_in (slice_split is_cut (lines bytes))

-- the lines of the rest of a text, if there is a rest
abbrev pub lines_left : Option (Bor (List ℕ)) → List (List ℕ)
lines_left None = []
lines_left (Some rest) = lines rest.now

-- the text before the first cut and what is left after it, or none if there is no cut
abbrev pub IsCutOff : Option (Bor (List ℕ)) → Option (Bor (List ℕ) × Option (Bor (List ℕ)))
    → Type 0
IsCutOff input result =
    MatchOption result (slice_split is_cut (lines_left input) ≡ lines_left input ∷ [])
    (λ p. (before : List (List ℕ)) × (p.0.now ≡ text_of before)
    × (slice_split is_cut (lines_left input) ≡ before ∷ slice_split is_cut (lines_left p.1)))

-- both parts are UTF-8, if there are two
abbrev pub AreUtf8 : Option (Bor (List ℕ) × Option (Bor (List ℕ))) → Type 0
AreUtf8 result = IfSome result (λ p. IsUtf8 p.0.now × IfSome p.1 (λ rest. IsUtf8 rest.now))

-- a text, if there is one
abbrev pub text_in : Option (Bor (List ℕ)) → Option (List ℕ)
text_in = option_map (λ t. t.now)
