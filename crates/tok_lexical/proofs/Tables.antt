-- Tables of the ASCII characters, held against the definition at each of them, by computing.
use Rattle.std.proofs.Common.{◌≡◌, ◌∙◌, refl, sym, ℕ, ◌<◌, List, get_or, length, ap, true, arith}
use Rattle.std.specs.Prelude.{◌==◌, not, map}
use Rattle.std.specs.List.{range_with_len}
use Rattle.std.proofs.lemmas.List.{get_or-map}
use Rattle.std.proofs.lemmas.List.FromFn.{get_or-map-range_with_len}
use Rattle.tok_lexical.specs.Private.Fronts.{is_ascii_continue}
use Rattle.tok_lexical.specs.declared.scan.TheConstants.{CONTINUES}

pub in_table : {X : Type 0} (meant defined : ℕ → X) (table : List ℕ) (d : X) (c : ℕ) →
    map meant table ≡ map defined (range_with_len 0 128) → length table ≡ 128 → c < 128 →
    meant (get_or table c 0) ≡ defined c
in_table meant defined table d c same l h =
    sym (get_or-map meant table c 0 d (omega arith)) ∙ ap (λ w. get_or w c d) same
    ∙ get_or-map-range_with_len defined 0 128 c c d h (omega arith)

pub continues_ascii : (c : ℕ) → c < 128 → not (get_or CONTINUES c 0 == 45) ≡ is_ascii_continue c
continues_ascii c h = in_table (λ b. not (b == 45)) is_ascii_continue CONTINUES true c refl refl h
