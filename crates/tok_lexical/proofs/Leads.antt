-- A text that is read from its front on: from one spelling to what is left of it.
use Rattle.std.proofs.Common.{◌≡◌, ℕ, Bool, true, List, [], ◌∷◌, ◌++◌, refl, append_assoc}
use Rattle.std.proofs.lemmas.Bool.{and_parts}
use Rattle.std.specs.List.{list_all}

-- A front of the start leads from one spelling to another: what is spelled the other way at the
-- rest completes the front to the one, and what is spelled the one way at the start goes on so.
pub record Leads (From To : List ℕ → Type 0) (start rest front : List ℕ) : Type 0 where
  pub cut : start ≡ front ++ rest
  pub back : (tail after : List ℕ) → rest ≡ tail ++ after → To tail → From (front ++ tail)
  pub forth : (tail after : List ℕ) → start ≡ tail ++ after → From tail → (more : List ℕ)
      × (tail ≡ front ++ more) × (rest ≡ more ++ after) × To more

-- one front after another
pub leads_then : {From Between To : List ℕ → Type 0} {start rest inner front taken : List ℕ} →
    Leads From Between start rest front → Leads Between To rest inner taken →
    Leads From To start inner (front ++ taken)
leads_then {inner = inner} {front = front} {taken = taken} s t = record {
  cut = cc (s.cut, t.cut, append_assoc front taken inner);
  back = λ tail after e m. rw (append_assoc front taken tail)
      (s.back (taken ++ tail) after (cc (t.cut, append_assoc taken tail after))
      (t.back tail after e m));
  forth = λ tail after e m.
      let a = s.forth tail after e m in
      let b = t.forth a.0 after a.2 a.3 in
      (b.0, cc (a.1, b.1, append_assoc front taken b.0), b.2, b.3);
}

-- a run of characters of which each leads on
pub leads_run : (S : List ℕ → Type 0) (p : ℕ → Bool) →
    ((c : ℕ) (rest : List ℕ) → p c ≡ true → Leads S S (c ∷ rest) rest (c ∷ [])) →
    (run rest : List ℕ) → list_all p run ≡ true → Leads S S (run ++ rest) rest run
leads_run S p one [] rest h =
    record { cut = refl; back = λ tail after e m. m; forth = λ tail after e m. (tail, refl, e, m) }
leads_run S p one (c ∷ run) rest h =
    let both = and_parts (p c) (list_all p run) h in
    leads_then (one c (run ++ rest) both.0) (leads_run S p one run rest both.1)
