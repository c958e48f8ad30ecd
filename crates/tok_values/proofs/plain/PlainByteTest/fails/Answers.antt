use Rattle.std.proofs.Common.{◌∙◌, ℕ, ap, cond, ltb, refl, replicate, sym, true, false}
use Rattle.std.proofs.lemmas.Simd.{zip2_splat_left}
use lib.Lanes.{zip2}
use Rattle.tok_lexical.specs.Scans.{failing_bits}
use Rattle.tok_lexical.proofs.Lanes.{bits_by_table, lanewise, with_splat}
use Rattle.tok_values.specs.Private.Plain.{is_plain}
use Rattle.tok_values.proofs.plain.PlainByteTest.fails.Goals as goal
use Rattle.tok_values.proofs.plain.PlainByteTest.fails.Goals.{then-self, else-self}

abbrev below : ℕ → ℕ → ℕ
below a b = cond (ltb a b) 255 0

pub returns : goal.returns
returns c =
    let load = c.args.bytes in
    let long = c.fits-bytes.0 in
    let three =
    lanewise _ _ _ load
    (lanewise _ _ _ load (with_splat _ load 16 _ long) (with_splat _ load 16 _ long))
    (with_splat _ load 16 _ long) in
    elim c.if-self.branch [
      | then-self w ↦
          bits_by_table (is_plain true) load _ _ long c.fits-bytes.1
          (lanewise _ _ (below 127) load three
          (ap (λ t. zip2 below (replicate 16 t) load) w.top-is
          ∙ zip2_splat_left {X = ℕ} {Y = ℕ} {Z = ℕ} below 127 16 load long)) refl
          ∙ ap (λ b. failing_bits (is_plain b) load) (sym w.if-self.true)
      | else-self w ↦
          bits_by_table (is_plain false) load _ _ long c.fits-bytes.1
          (lanewise _ _ (below 255) load three
          (ap (λ t. zip2 below (replicate 16 t) load) w.top-is
          ∙ zip2_splat_left {X = ℕ} {Y = ℕ} {Z = ℕ} below 255 16 load long)) refl
          ∙ ap (λ b. failing_bits (is_plain b) load) (sym w.if-self.false)
    ]
