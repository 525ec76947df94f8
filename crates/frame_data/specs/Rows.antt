-- The frame of the built-in table as data: its 62 rows, three numbers each, by their bits, as the oracle's run of the
-- Rust gives them: the records of the frame in crates/replay_geometry/stdin, which `tests/frame_data` compares with
-- this file. Definitions only.
use Rattle.std.specs.Prelude.{List, [], ◌∷◌, ◌++◌, map, Float}
use Rattle.std.specs.Float.{binary64}
use Rattle.std.specs.Float.Ieee.{of_bits}

-- 12 face centres
unfoldable pub CENTRES : List Float
unfolding of_bits
CENTRES =
    map (of_bits binary64)
    (0x0000_0000_0000_0000 ∷ 0x0000_0000_0000_0000 ∷ 0x3ff0_0000_0000_0000
    ∷ 0x3fec_9f25_c5bf_edd9 ∷ 0x0000_0000_0000_0000 ∷ 0x3fdc_9f25_c5bf_edda
    ∷ 0x3fe7_27c9_716f_fb77 ∷ 0x3fe0_d2ca_0da1_530e ∷ 0xbfdc_9f25_c5bf_edda
    ∷ 0xbfd1_b06d_1d20_0912 ∷ 0x3feb_3888_0b46_03e5 ∷ 0xbfdc_9f25_c5bf_edd9
    ∷ 0x3fd1_b06d_1d20_0915 ∷ 0x3feb_3888_0b46_03e5 ∷ 0x3fdc_9f25_c5bf_eddb
    ∷ 0xbfe7_27c9_716f_fb76 ∷ 0x3fe0_d2ca_0da1_530f ∷ 0x3fdc_9f25_c5bf_eddb
    ∷ 0xbfe7_27c9_716f_fb77 ∷ 0xbfe0_d2ca_0da1_530d ∷ 0x3fdc_9f25_c5bf_eddb
    ∷ 0xbfd1_b06d_1d20_0916 ∷ 0xbfeb_3888_0b46_03e5 ∷ 0xbfdc_9f25_c5bf_edda
    ∷ 0xbfec_9f25_c5bf_edda ∷ 0x3c9f_924f_9f58_fd98 ∷ 0xbfdc_9f25_c5bf_edda
    ∷ 0x3ca1_a626_3314_5c07 ∷ 0x0000_0000_0000_0000 ∷ 0xbff0_0000_0000_0000
    ∷ 0x3fe7_27c9_716f_fb75 ∷ 0xbfe0_d2ca_0da1_530f ∷ 0xbfdc_9f25_c5bf_edd9
    ∷ 0x3fd1_b06d_1d20_0910 ∷ 0xbfeb_3888_0b46_03e5 ∷ 0x3fdc_9f25_c5bf_edda ∷ [])

-- 20 vertices
unfoldable pub VERTICES : List Float
unfolding of_bits
VERTICES =
    map (of_bits binary64)
    (0x3fdf_6e91_25e9_19f9 ∷ 0x3fd6_d62c_5184_3608 ∷ 0x3fe9_6dcf_3743_9ff0
    ∷ 0xbfc8_0307_ba95_e81a ∷ 0x3fe2_79a7_4590_331e ∷ 0x3fe9_6dcf_3743_9ff0
    ∷ 0xbfe3_6d0d_489e_25eb ∷ 0x3c95_6d97_e7fd_4fee ∷ 0x3fe9_6dcf_3743_9ff0
    ∷ 0xbfc8_0307_ba95_e81f ∷ 0xbfe2_79a7_4590_331d ∷ 0x3fe9_6dcf_3743_9ff0
    ∷ 0x3fdf_6e91_25e9_19f8 ∷ 0xbfd6_d62c_5184_360a ∷ 0x3fe9_6dcf_3743_9ff0
    ∷ 0x3fe9_6dcf_3743_9ff0 ∷ 0x3fe2_79a7_4590_331c ∷ 0x3fc8_0307_ba95_e81a
    ∷ 0x3fe9_6dcf_3743_9ff0 ∷ 0xbfe2_79a7_4590_331d ∷ 0x3fc8_0307_ba95_e81c
    ∷ 0x3fef_6e91_25e9_19f6 ∷ 0x0000_0000_0000_0000 ∷ 0xbfc8_0307_ba95_e81e
    ∷ 0x3fc8_0307_ba95_e817 ∷ 0x3fe2_79a7_4590_331c ∷ 0xbfe9_6dcf_3743_9ff0
    ∷ 0x3fd3_6d0d_489e_25e7 ∷ 0x3fed_e4bd_6e52_4e21 ∷ 0xbfc8_0307_ba95_e81b
    ∷ 0x3fe3_6d0d_489e_25e9 ∷ 0xbca8_0000_0000_0000 ∷ 0xbfe9_6dcf_3743_9ff1
    ∷ 0xbfdf_6e91_25e9_19f7 ∷ 0x3fd6_d62c_5184_3603 ∷ 0xbfe9_6dcf_3743_9ff2
    ∷ 0xbfe9_6dcf_3743_9ff1 ∷ 0x3fe2_79a7_4590_331c ∷ 0xbfc8_0307_ba95_e81c
    ∷ 0xbfd3_6d0d_489e_25ec ∷ 0x3fed_e4bd_6e52_4e20 ∷ 0x3fc8_0307_ba95_e81e
    ∷ 0xbfef_6e91_25e9_19f8 ∷ 0xbc98_0000_0000_0000 ∷ 0x3fc8_0307_ba95_e818
    ∷ 0xbfe9_6dcf_3743_9ff0 ∷ 0xbfe2_79a7_4590_331c ∷ 0xbfc8_0307_ba95_e81f
    ∷ 0xbfd3_6d0d_489e_25ea ∷ 0xbfed_e4bd_6e52_4e20 ∷ 0x3fc8_0307_ba95_e816
    ∷ 0xbfdf_6e91_25e9_19f7 ∷ 0xbfd6_d62c_5184_3604 ∷ 0xbfe9_6dcf_3743_9ff1
    ∷ 0x3fc8_0307_ba95_e81b ∷ 0xbfe2_79a7_4590_331b ∷ 0xbfe9_6dcf_3743_9ff1
    ∷ 0x3fd3_6d0d_489e_25ec ∷ 0xbfed_e4bd_6e52_4e20 ∷ 0xbfc8_0307_ba95_e81c ∷ [])

-- 30 midpoints of edges
unfoldable pub MIDPOINTS : List Float
unfolding of_bits
MIDPOINTS =
    map (of_bits binary64)
    (0x3fe0_d2ca_0da1_530e ∷ 0x0000_0000_0000_0000 ∷ 0x3feb_3888_0b46_03e4
    ∷ 0x3fc4_cb7b_fb49_61b0 ∷ 0x3fe0_0000_0000_0001 ∷ 0x3feb_3888_0b46_03e4
    ∷ 0xbfdb_3888_0b46_03e5 ∷ 0x3fd3_c6ef_372f_e952 ∷ 0x3feb_3888_0b46_03e4
    ∷ 0xbfdb_3888_0b46_03e6 ∷ 0xbfd3_c6ef_372f_e950 ∷ 0x3feb_3888_0b46_03e4
    ∷ 0x3fc4_cb7b_fb49_61ac ∷ 0xbfe0_0000_0000_0001 ∷ 0x3feb_3888_0b46_03e4
    ∷ 0x3fee_6f0e_1344_5500 ∷ 0x3fd3_c6ef_372f_e951 ∷ 0xbcb0_0000_0000_0001
    ∷ 0x3fe6_05a9_0c73_ab78 ∷ 0x3fe0_0000_0000_0001 ∷ 0x3fe0_d2ca_0da1_530d
    ∷ 0x3fe6_05a9_0c73_ab78 ∷ 0xbfe0_0000_0000_0001 ∷ 0x3fe0_d2ca_0da1_530e
    ∷ 0x3fee_6f0e_1344_54ff ∷ 0xbfd3_c6ef_372f_e954 ∷ 0xbca0_0000_0000_0001
    ∷ 0x3fdb_3888_0b46_03e3 ∷ 0x3fd3_c6ef_372f_e94e ∷ 0xbfeb_3888_0b46_03e6
    ∷ 0x3fd0_d2ca_0da1_530a ∷ 0x3fe9_e377_9b97_f4a7 ∷ 0xbfe0_d2ca_0da1_530e
    ∷ 0x3fe2_cf23_0475_5a5e ∷ 0x3fe9_e377_9b97_f4a9 ∷ 0x3c90_0000_0000_0000
    ∷ 0x3feb_3888_0b46_03e5 ∷ 0xbcac_0000_0000_0000 ∷ 0xbfe0_d2ca_0da1_530d
    ∷ 0xbfc4_cb7b_fb49_61ab ∷ 0x3fdf_ffff_ffff_fffd ∷ 0xbfeb_3888_0b46_03e6
    ∷ 0xbfe6_05a9_0c73_ab7a ∷ 0x3fdf_ffff_ffff_fffd ∷ 0xbfe0_d2ca_0da1_530e
    ∷ 0xbfe2_cf23_0475_5a5f ∷ 0x3fe9_e377_9b97_f4a8 ∷ 0x0000_0000_0000_0000
    ∷ 0xbc90_0000_0000_0000 ∷ 0x3ff0_0000_0000_0000 ∷ 0x3ca8_0000_0000_0000
    ∷ 0xbfd0_d2ca_0da1_5311 ∷ 0x3fe9_e377_9b97_f4a8 ∷ 0x3fe0_d2ca_0da1_530c
    ∷ 0xbfee_6f0e_1344_5500 ∷ 0x3fd3_c6ef_372f_e950 ∷ 0xbcb0_0000_0000_0001
    ∷ 0xbfeb_3888_0b46_03e5 ∷ 0xbca4_0000_0000_0001 ∷ 0x3fe0_d2ca_0da1_530d
    ∷ 0xbfee_6f0e_1344_5500 ∷ 0xbfd3_c6ef_372f_e94d ∷ 0xbcac_0000_0000_0000
    ∷ 0xbfe2_cf23_0475_5a5e ∷ 0xbfe9_e377_9b97_f4a9 ∷ 0xbcb4_0000_0000_0001
    ∷ 0xbfd0_d2ca_0da1_530c ∷ 0xbfe9_e377_9b97_f4a9 ∷ 0x3fe0_d2ca_0da1_530b
    ∷ 0x3ca4_0000_0000_0001 ∷ 0xbff0_0000_0000_0000 ∷ 0xbca0_0000_0000_0001
    ∷ 0xbfe6_05a9_0c73_ab7a ∷ 0xbfdf_ffff_ffff_fffe ∷ 0xbfe0_d2ca_0da1_530e
    ∷ 0xbfc4_cb7b_fb49_61af ∷ 0xbfdf_ffff_ffff_fffd ∷ 0xbfeb_3888_0b46_03e6
    ∷ 0x3fd0_d2ca_0da1_5310 ∷ 0xbfe9_e377_9b97_f4a8 ∷ 0xbfe0_d2ca_0da1_530f
    ∷ 0xbfe0_d2ca_0da1_530c ∷ 0x3c92_8ea9_c91d_fea7 ∷ 0xbfeb_3888_0b46_03e6
    ∷ 0x3fdb_3888_0b46_03e6 ∷ 0xbfd3_c6ef_372f_e950 ∷ 0xbfeb_3888_0b46_03e4
    ∷ 0x3fe2_cf23_0475_5a5f ∷ 0xbfe9_e377_9b97_f4a8 ∷ 0x3ca0_0000_0000_0001 ∷ [])

-- in the order in which they are added
unfoldable pub ROWS : List Float
unfolding CENTRES VERTICES MIDPOINTS
ROWS = CENTRES ++ (VERTICES ++ MIDPOINTS)
