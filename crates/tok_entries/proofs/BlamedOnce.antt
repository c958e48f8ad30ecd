-- Entries and texts are blamed at one entry, for one reason.
use Rattle.std.proofs.Common.{◌≡◌, ℕ, ◌+◌, List, [], ◌∷◌, refl, ap, sym, subst, arith}
use Rattle.tok_entries.specs.declared.entry.Entry.{Entry}
use Rattle.tok_entries.specs.declared.intake.fault.Refusal.{Refusal}
use Rattle.tok_entries.specs.declared.intake.fault.Refusal.TheVariants.{Shape, Text, Depth}
use Rattle.tok_entries.specs.Blames.{Blames, BlamesFrom, first_entry, entry_inside, entry_after}
use Rattle.tok_entries.specs.Blames.{Encloses, FitsLeaf, OpensGroup, Rejects, TakesTree}
use Rattle.tok_entries.specs.Denotes.{DenotesFrom}
use Rattle.tok_entries.proofs.Blamed.{enclosed_once, enclosed_tree, no_nil, no_tree, none_denoted}
use Rattle.tok_entries.proofs.Groups.{no_leaf_opens}
use Rattle.tok_entries.proofs.Once.{head, tree_once}

-- an entry with the fields of a leaf opens no group
fits_or_opens : (at : ℕ) (e : Entry) (es : List Entry) (bs : List ℕ) → FitsLeaf at e bs
    → OpensGroup at (e ∷ es) bs → ⊥
fits_or_opens at e es bs fits (inside, words, (d, s, later, behind, he, hb, hu, hs)) =
    no_leaf_opens at e bs (ap (λ x. x.kind) (head _ _ _ _ he)) fits

one_reason : (at levels : ℕ) (es : List Entry) (bs : List ℕ) (v w : Refusal)
    → Rejects at levels es bs v → Rejects at levels es bs w → v ≡ w
one_reason at levels [] bs v w (p, over) (q, left) = cc
one_reason at levels (e ∷ es) bs Shape Shape p q = refl
one_reason at levels (e ∷ es) bs Text Text p q = refl
one_reason at levels (e ∷ es) bs Depth Depth p q = refl
one_reason at levels (e ∷ es) bs Shape Text p q = absurd (p.0 q.0)
one_reason at levels (e ∷ es) bs Text Shape p q = absurd (q.0 p.0)
one_reason at levels (e ∷ es) bs Shape Depth p q = absurd (p.1 q.0)
one_reason at levels (e ∷ es) bs Depth Shape p q = absurd (q.1 p.0)
one_reason at levels (e ∷ es) bs Text Depth p q = absurd (fits_or_opens at e es bs p.0 q.0)
one_reason at levels (e ∷ es) bs Depth Text p q = absurd (fits_or_opens at e es bs q.0 p.0)

-- an opening is not rejected if one more level may be nested
no_opening : (at levels : ℕ) (es : List Entry) (bs : List ℕ) (why : Refusal)
    (inside : List Entry) (words : List ℕ) → Rejects at (levels + 1) es bs why
    → Encloses at es bs inside words → ⊥
no_opening at levels [] bs why inside words r (d, s, later, behind, he, hb, hu, hs) =
    no_nil _ _ (sym he)
no_opening at levels (e ∷ es) bs Shape inside words (fits, opens) around =
    opens (inside, words, around)
no_opening at levels (e ∷ es) bs Text inside words (fits, never) around =
    fits_or_opens at e es bs fits (inside, words, around)
no_opening at levels (e ∷ es) bs Depth inside words (opens, low) around =
    absurd (omega (arith, low))

-- at equal bytes, entries and texts
module _ (at begin : ℕ) (es fs : List Entry) (bs cs : List ℕ) (ha : begin ≡ at) (he : fs ≡ es)
    (hb : cs ≡ bs) where
  moved : (P : ℕ → List Entry → List ℕ → Type 0) → P begin fs cs → P at es bs
  moved P p = rw (ha, he, hb) at p

-- the second of two that are blamed, with the entries of the first
once : {number at levels : ℕ} {es : List Entry} {bs : List ℕ} {v : Refusal} {named : ℕ}
    {count begin depth : ℕ} {fs : List Entry} {cs : List ℕ} {w : Refusal} {other : ℕ}
    → BlamesFrom number at levels es bs v named → BlamesFrom count begin depth fs cs w other
    → count ≡ number → begin ≡ at → depth ≡ levels → fs ≡ es → cs ≡ bs
    → (v ≡ w) × (named ≡ other)
once (first_entry number at levels es bs v r) (first_entry count begin depth fs cs w q) hn ha hl he
    hb = (
      one_reason at levels es bs v w r
          (moved at begin es fs bs cs ha he hb (λ n xs ys. Rejects n levels xs ys w)
          (rw hl at q)),
      sym hn,
    )
once (first_entry number at levels es bs v r)
    (entry_inside count begin depth fs cs inside words w other around b) hn ha hl he hb =
    absurd (no_opening at depth es bs v inside words
    (rw hl r)
    (moved at begin es fs bs cs ha he hb (λ n xs ys. Encloses n xs ys inside words) around))
once (first_entry number at levels es bs v r)
    (entry_after count begin depth fs cs t later behind w other takes b) hn ha hl he hb =
    absurd (no_tree at levels es bs v t later behind r
    (moved at begin es fs bs cs ha he hb (λ n xs ys. TakesTree n levels xs ys t later behind)
    (rw hl at takes)))
once (entry_inside number at levels es bs inside words v named around b)
    (first_entry count begin depth fs cs w q) hn ha hl he hb =
    absurd (no_opening at levels es bs w inside words
    (moved at begin es fs bs cs ha he hb (λ n xs ys. Rejects n (levels + 1) xs ys w)
    (rw hl at q)) around)
once (entry_inside number at levels es bs inside words v named around b)
    (entry_inside count begin depth fs cs held texts w other edges c) hn ha hl he hb =
    let (same, text) = enclosed_once at es bs held inside texts words
    (moved at begin es fs bs cs ha he hb (λ n xs ys. Encloses n xs ys held texts) edges) around in
    once b c (ap (λ n. n + 1) hn) ha (omega (arith, hl)) same text
once (entry_inside number at levels es bs inside words v named around b)
    (entry_after count begin depth fs cs t later behind w other takes c) hn ha hl he hb =
    let (f, d) = enclosed_tree at levels es bs inside words t later behind around
    (moved at begin es fs bs cs ha he hb (λ n xs ys. TakesTree n (levels + 1) xs ys t later behind)
    (rw hl at takes)) in
    absurd (none_denoted b f d)
once (entry_after number at levels es bs t later behind v named takes b)
    (first_entry count begin depth fs cs w q) hn ha hl he hb =
    absurd (no_tree at levels es bs w t later behind
    (moved at begin es fs bs cs ha he hb (λ n xs ys. Rejects n levels xs ys w)
    (rw hl at q)) takes)
once (entry_after number at levels es bs t later behind v named takes b)
    (entry_inside count begin depth fs cs held texts w other edges c) hn ha hl he hb =
    let (f, d) = enclosed_tree at depth es bs held texts t later behind
    (moved at begin es fs bs cs ha he hb (λ n xs ys. Encloses n xs ys held texts) edges)
    (rw hl takes) in
    absurd (none_denoted c f (subst (λ n. DenotesFrom n depth held texts f) (sym ha) d))
once (entry_after number at levels es bs t later behind v named takes b)
    (entry_after count begin depth fs cs u rest beyond w other passes c) hn ha hl he hb =
    let y : TakesTree at levels es bs u rest beyond =
    moved at begin es fs bs cs ha he hb (λ n xs ys. TakesTree n levels xs ys u rest beyond)
    (rw hl at passes) in
    let (same, ks, ts) = tree_once at u t rest later beyond behind
    (cc (y.0, takes.0)) (cc (y.1, takes.1)) y.2 takes.2 in
    once b c (cc) (cc) hl ks ts

pub blamed_once : (es : List Entry) (bs : List ℕ) (v w : Refusal) (named other : ℕ)
    → Blames es bs v named → Blames es bs w other → (v ≡ w) × (named ≡ other)
blamed_once es bs v w named other p q = once p q refl refl refl refl refl
