-- The numbers that the code has for the quintants and for the squashed scale are what the definitions compute. Computed in `quick`. Assumes nothing.
use mathlib.Core.Path.{◌≡◌, refl}
use mathlib.Core.List.{List, [], ◌∷◌}
use Prim.Native.Nat.{ℕ, zero, suc, ◌<◌}
use native.Mathlib.Omega.{arith}
use lib.ListN.{get_or}
use lib.Ieee.{nan, binary64, of_bits}
use Rattle.arithmetic.specs.Arith.{ieee}
use Rattle.arithmetic.proofs.Quick.{quick, in_ieee}
use Rattle.coordinates.specs.CoordinateTransforms.{face}
use Rattle.coordinates.specs.declared.coords.Face.{Face}
use Rattle.tiling.specs.Tiling.{get_quintant_vertices}
use Rattle.tiling.specs.FaceTriangles.{squashed_scale}
use Rattle.tiling.specs.declared.tiling.QuintantVertices.{QuintantVertices}

-- a quintant by the bits of its six coordinates
unfoldable quintant : (a b c d e f : ℕ) → QuintantVertices
quintant a b c d e f =
    let point = λ (m n : ℕ). face (of_bits binary64 m) (of_bits binary64 n) in
    record { center = point a b; corner1 = point c d; corner2 = point e f }

-- the table in the code, by its bits
unfoldable table : List QuintantVertices
unfolding quintant
table =
    quintant 0 0 0x3fe3_c6ef_372f_e950 0x3fdc_bcdf_d699_7ef2 0x3fe3_c6ef_372f_e950 0xbfdc_bcdf_d699_7ef2
    ∷ quintant 0 0 0xbfce_3779_b97f_4a7a 0x3fe7_3fd6_1d9d_f543 0x3fe3_c6ef_372f_e950 0x3fdc_bcdf_d699_7ef2
    ∷ quintant 0x8000_0000_0000_0000 0 0xbfe8_7221_91a0_2d62 0x3ca8_0000_0000_0000 0xbfce_3779_b97f_4a7a 0x3fe7_3fd6_1d9d_f544
    ∷ quintant 0 0x8000_0000_0000_0000 0xbfce_3779_b97f_4a82 0xbfe7_3fd6_1d9d_f542 0xbfe8_7221_91a0_2d62 0x3c90_0000_0000_0000
    ∷ quintant 0 0 0x3fe3_c6ef_372f_e94f 0xbfdc_bcdf_d699_7ef6 0xbfce_3779_b97f_4a81 0xbfe7_3fd6_1d9d_f543
    ∷ []

nowhere : Face
nowhere = face nan nan

-- the line of a quintant
unfoldable pub line : ℕ → QuintantVertices
unfolding table nowhere
line q = get_or table q (record { center = nowhere; corner1 = nowhere; corner2 = nowhere })

pub line_is : (q : ℕ) → q < 5 → line q ≡ get_quintant_vertices ieee q
unfolding line get_quintant_vertices of_bits quick
line_is zero h = in_ieee (λ A. line 0 ≡ get_quintant_vertices A 0) refl
line_is (suc zero) h = in_ieee (λ A. line 1 ≡ get_quintant_vertices A 1) refl
line_is (suc (suc zero)) h = in_ieee (λ A. line 2 ≡ get_quintant_vertices A 2) refl
line_is (suc (suc (suc zero))) h = in_ieee (λ A. line 3 ≡ get_quintant_vertices A 3) refl
line_is (suc (suc (suc (suc zero)))) h = in_ieee (λ A. line 4 ≡ get_quintant_vertices A 4) refl
line_is (suc (suc (suc (suc (suc q))))) h = absurd (omega arith)

pub squashed_is : of_bits binary64 0x4009_e377_9b97_f4a7 ≡ squashed_scale ieee
unfolding squashed_scale of_bits quick
squashed_is = in_ieee (λ A. of_bits binary64 0x4009_e377_9b97_f4a7 ≡ squashed_scale A) refl
