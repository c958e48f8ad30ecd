-- The steps of the loop over a nested comment.
use Rattle.std.proofs.Common.{◌≡◌, ◌∙◌, ℕ, zero, suc, ◌+◌, ◌-◌, ◌<◌, List, [], ◌∷◌, ◌++◌, refl, sym}
use Rattle.std.proofs.Common.{arith, append_assoc, true}
use Rattle.std.proofs.lemmas.List.{append-nil, append_cancel_left}
use Rattle.std.specs.Prelude.{Option, Some, None}
use Rattle.std.specs.List.{list_all}
use Rattle.std.specs.Borrow.{Bor}
use Rattle.std.specs.Str.{chars}
use Rattle.tok_lexical.specs.Pieces.{HasPrefix, IsLongestPrefix, ReadsLongest, Skips, Stops}
use Rattle.tok_lexical.specs.Pieces.{is_neither}
use Rattle.tok_lexical.specs.Comments.{IsPlain, Closes, done, nested, ended, plain, IsBlockComment}
use Rattle.tok_lexical.specs.Comments.{is_not_line_feed}
use Rattle.tok_lexical.proofs.EscapedChars.{heads}
use Rattle.tok_lexical.proofs.Leads.{Leads, leads_run, leads_then}
use Rattle.tok_lexical.proofs.Longest.{front_nil, pass_weaker}

-- a front of the start closes one comment just where what is left of it, at the rest, closes
-- `depth`
abbrev pub Stands : (start rest front : List ℕ) (depth : ℕ) → Type 0
Stands start rest front depth = Leads (Closes 1) (Closes depth) start rest front

open_more : (n : ℕ) (tail after rest : List ℕ) → 47 ∷ 42 ∷ rest ≡ tail ++ after →
    Closes (suc n) tail → (more : List ℕ) × (tail ≡ 47 ∷ 42 ∷ more) × (rest ≡ more ++ after)
    × Closes (suc (suc n)) more
open_more n tail after rest e (nested {text = text} c) = (text, refl, cc, c)
open_more n tail after rest e (ended c) = absurd (omega (arith, heads 47 42 _ _ e))
open_more n tail after rest e (plain {text = []} p k) = elim k [ ]
open_more n tail after rest e (plain {c = c} {text = d ∷ text} p k) = let h : c ≡ 47 = cc in
    let g : d ≡ 42 = cc in absurd (p.opens_none text (rw (h, g) refl))

close_more : (n : ℕ) (tail after rest : List ℕ) → 42 ∷ 47 ∷ rest ≡ tail ++ after →
    Closes (suc n) tail → (more : List ℕ) × (tail ≡ 42 ∷ 47 ∷ more) × (rest ≡ more ++ after)
    × Closes n more
close_more n tail after rest e (nested c) = absurd (omega (arith, heads 42 47 _ _ e))
close_more n tail after rest e (ended {text = text} c) = (text, refl, cc, c)
close_more n tail after rest e (plain {text = []} p k) = elim k [ ]
close_more n tail after rest e (plain {c = c} {text = d ∷ text} p k) = let h : c ≡ 42 = cc in
    let g : d ≡ 47 = cc in absurd (p.closes_none text (rw (h, g) refl))

plain_more : (n : ℕ) (tail after rest : List ℕ) (x : ℕ) → IsPlain (x ∷ rest) →
    x ∷ rest ≡ tail ++ after → Closes (suc n) tail → (more : List ℕ) × (tail ≡ x ∷ more)
    × (rest ≡ more ++ after) × Closes (suc n) more
plain_more n tail after rest x p e (nested {text = text} c) =
    absurd (p.opens_none (text ++ after) e)
plain_more n tail after rest x p e (ended {text = text} c) =
    absurd (p.closes_none (text ++ after) e)
plain_more n tail after rest x p e (plain {c = c} {text = text} q k) = (text, cc, cc, k)

pub step_open : (start rest inner front : List ℕ) (depth : ℕ) → 0 < depth →
    Stands start rest front depth → rest ≡ 47 ∷ 42 ∷ inner →
    Stands start inner (front ++ 47 ∷ 42 ∷ []) (depth + 1)
step_open start rest inner front zero l s e = absurd (omega arith)
step_open start rest inner front (suc n) l s e =
    let d : suc n + 1 ≡ suc (suc n) = omega arith in
    let opens : Leads (Closes (suc n)) (Closes (suc (suc n))) rest inner (47 ∷ 42 ∷ []) = record {
      cut = e;
      back = λ tail after f c. nested c;
      forth = λ tail after f c. open_more n tail after inner (sym e ∙ f) c;
    } in
    rw d (leads_then s opens)

pub step_close : (start rest inner front : List ℕ) (depth : ℕ) → 0 < depth →
    Stands start rest front depth → rest ≡ 42 ∷ 47 ∷ inner →
    Stands start inner (front ++ 42 ∷ 47 ∷ []) (depth - 1)
step_close start rest inner front zero l s e = absurd (omega arith)
step_close start rest inner front (suc n) l s e =
    let d : suc n - 1 ≡ n = omega arith in
    let ends : Leads (Closes (suc n)) (Closes n) rest inner (42 ∷ 47 ∷ []) = record {
      cut = e;
      back = λ tail after f c. ended c;
      forth = λ tail after f c. close_more n tail after inner (sym e ∙ f) c;
    } in
    rw d (leads_then s ends)

-- past a character that begins no mark
plain_one : (n x : ℕ) (inner : List ℕ) → IsPlain (x ∷ inner) →
    Leads (Closes (suc n)) (Closes (suc n)) (x ∷ inner) inner (x ∷ [])
plain_one n x inner p = record {
  cut = refl;
  back = λ tail after f c. plain
      (record {
        opens_none = λ more e. p.opens_none (more ++ after) (cc);
        closes_none = λ more e. p.closes_none (more ++ after) (cc);
      }) c;
  forth = λ tail after f c. plain_more n tail after inner x p f c;
}

step_plain : (start rest inner front : List ℕ) (depth x : ℕ) → 0 < depth →
    Stands start rest front depth → ((more : List ℕ) → rest ≡ 47 ∷ 42 ∷ more → ⊥) →
    ((more : List ℕ) → rest ≡ 42 ∷ 47 ∷ more → ⊥) → rest ≡ x ∷ inner →
    Stands start inner (front ++ x ∷ []) depth
step_plain start rest inner front zero x l s a b e = absurd (omega arith)
step_plain start rest inner front (suc n) x l s a b e =
    let passed : Leads (Closes (suc n)) (Closes (suc n)) rest inner (x ∷ []) = rw e
    (plain_one n x inner (record {
      opens_none = λ more f. a more (e ∙ f);
      closes_none = λ more f. b more (e ∙ f);
    })) in
    leads_then s passed

pub neither_of : (a b c : ℕ) → is_neither a b c ≡ true → (c ≡ a → ⊥) × (c ≡ b → ⊥)
neither_of a b c h = grind arith

pub neither_first : (a b c : ℕ) (cs : List ℕ) → list_all (is_neither a b) (c ∷ cs) ≡ true →
    (c ≡ a → ⊥) × (c ≡ b → ⊥) × (list_all (is_neither a b) cs ≡ true)
neither_first a b c cs h = grind arith

-- past a run of other characters
pub skip_on : (start rest inner : List ℕ) (depth : ℕ) → 0 < depth →
    (front : List ℕ) × Stands start rest front depth →
    (run : List ℕ) × Skips (is_neither 42 47) rest run inner →
    (front : List ℕ) × Stands start inner front depth
skip_on start rest inner zero l i s = absurd (omega arith)
skip_on start rest inner (suc n) l (front, i) (run, s) =
    let passed : Leads (Closes (suc n)) (Closes (suc n)) rest inner run = rw s.cut
    (leads_run (Closes (suc n)) (is_neither 42 47)
    (λ c more h. let other = neither_of 42 47 c h in plain_one n c more (record {
      opens_none = λ after e. other.1 (cc);
      closes_none = λ after e. other.0 (cc);
    })) run inner s.pass) in
    (front ++ run, leads_then i passed)

-- such a run goes on to the end where neither follows it
pub stops_end : (text : List ℕ) → Stops (is_neither 42 47) text →
    ((more : List ℕ) → text ≡ 42 ∷ more → ⊥) → ((more : List ℕ) → text ≡ 47 ∷ more → ⊥) →
    text ≡ []
stops_end [] s a b = refl
stops_end (c ∷ text) s a b = let p = a text in let q = b text in grind arith

closes_some : (n : ℕ) (tail : List ℕ) → 0 < n → tail ≡ [] → Closes n tail → ⊥
closes_some zero tail l e c = omega arith
closes_some (suc n) [] l e c = elim c [ ]
closes_some (suc n) (x ∷ tail) l e c = cc

-- where the text ends, a comment that is open closes nowhere
pub open_none : (start rest front : List ℕ) (depth : ℕ) → 0 < depth →
    Stands start rest front depth → rest ≡ [] → HasPrefix (Closes 1) start → ⊥
open_none start rest front depth l s e (piece, after, cut, c) =
    let a = s.forth piece after cut c in
    closes_some depth a.0 l (front_nil a.0 after (sym e ∙ a.2)) a.3

-- a slash that opens none
pub step_slash : (start rest after front : List ℕ) (depth x : ℕ) → 0 < depth →
    Stands start rest front depth → rest ≡ x ∷ after → x ≡ 47 →
    ((more : List ℕ) → after ≡ 42 ∷ more → ⊥) → Stands start after (front ++ x ∷ []) depth
step_slash start rest after front depth x l s e f misses =
    step_plain start rest after front depth x l s
    (λ more g. misses more (cc)) (λ more g. omega (arith, heads x 42 _ _ (sym e ∙ g))) e

-- an asterisk that closes none
pub step_asterisk : (start rest after front : List ℕ) (depth x : ℕ) → 0 < depth →
    Stands start rest front depth → rest ≡ x ∷ after → x ≡ 42 →
    ((more : List ℕ) → after ≡ 47 ∷ more → ⊥) → Stands start after (front ++ x ∷ []) depth
step_asterisk start rest after front depth x l s e f misses =
    step_plain start rest after front depth x l s
    (λ more g. omega (arith, heads x 47 _ _ (sym e ∙ g))) (λ more g. misses more (cc)) e

closed_none : (n : ℕ) (tail : List ℕ) → n ≡ 0 → Closes n tail → tail ≡ []
closed_none zero tail z done = refl
closed_none (suc n) tail z c = absurd (omega arith)

pub takes_block : (start rest front : List ℕ) (depth : ℕ) → depth ≡ 0 →
    Stands start rest front depth → (piece : List ℕ) × IsLongestPrefix (Closes 1) start piece
    rest
takes_block start rest front depth z s = (
  front,
  record {
    cut = s.cut;
    spelled = rw append-nil at (s.back [] rest refl (rw z done));
    longest = λ more after f c.
        let a = s.forth (front ++ more) after (cc (s.cut, append_assoc front more after)) c in
        let none : a.0 ≡ [] = closed_none depth a.0 z a.3 in
        append_cancel_left front more [] (cc (a.1));
  },
)

-- a comment is its `/*` and what closes it
pub takes_marked : (text mid rest front : List ℕ) → text ≡ 47 ∷ 42 ∷ mid →
    IsLongestPrefix (Closes 1) mid front rest → IsLongestPrefix IsBlockComment text
    (47 ∷ 42 ∷ front) rest
takes_marked text mid rest front e t = record {
  cut = cc (t.cut);
  spelled = (front, refl, t.spelled);
  longest = λ more after f (body, g, s). let same : body ≡ front ++ more = cc in
      t.longest more after f (rw same at s);
}

marked_none : (text mid : List ℕ) → text ≡ 47 ∷ 42 ∷ mid → (HasPrefix (Closes 1) mid → ⊥) →
    HasPrefix IsBlockComment text → ⊥
marked_none text mid e misses (piece, after, cut, (body, f, s)) =
    misses (body, after, cc, s)

pub tries_marked : (text mid : List ℕ) (answer : Option (Bor (List ℕ))) → text ≡ 47 ∷ 42 ∷ mid →
    ReadsLongest (Closes 1) mid answer → ReadsLongest IsBlockComment text answer
tries_marked text mid None e misses = marked_none text mid e misses
tries_marked text mid (Some rest) e (front, t) =
    (47 ∷ 42 ∷ front, takes_marked text mid (chars rest.now) front e t)

no_line_feed : (c : ℕ) → is_neither 10 10 c ≡ is_not_line_feed c
no_line_feed c = grind arith

line_stops : (cs : List ℕ) → Stops (is_neither 10 10) cs → Stops is_not_line_feed cs
line_stops [] s = tt
line_stops (c ∷ cs) s = rw no_line_feed at s

pub skips_line : (text rest : List ℕ) → (front : List ℕ) × Skips (is_neither 10 10) text front
    rest → (front : List ℕ) × Skips is_not_line_feed text front rest
skips_line text rest (front, s) = (
  front,
  record {
    cut = s.cut;
    pass = pass_weaker (is_neither 10 10) is_not_line_feed (λ c h. rw no_line_feed at h) front
        s.pass;
    stops = line_stops rest s.stops;
  },
)
