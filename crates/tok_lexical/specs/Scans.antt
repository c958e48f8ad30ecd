-- Tests of bytes.
use Rattle.std.specs.Prelude.{◌≡◌, ◌≤◌, ℕ, List, Bool, map, not}
use Rattle.std.specs.Simd.Lanes.{mask_l}

-- a number with a bit for each byte, the lowest for the first: 1 if the byte fails the test
abbrev pub failing_bits : (passes : ℕ → Bool) → List ℕ → ℕ
failing_bits passes bytes = mask_l (map (λ byte. not (passes byte)) bytes)

-- beyond ASCII all bytes pass the test, or all fail it
abbrev pub IsAsciiTest : (passes : ℕ → Bool) → Type 0
IsAsciiTest passes = (byte : ℕ) → 128 ≤ byte → passes byte ≡ passes 128
