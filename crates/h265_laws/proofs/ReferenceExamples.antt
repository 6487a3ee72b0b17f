-- Predictions and residuals against a transcription of the standard in another language.
use Rattle.std.proofs.Common.{◌≡◌, refl, ℕ, zero, suc, List, [], ◌∷◌, ◌++◌, true, false}
use Rattle.std.specs.Prelude.{Option, Some, ℤ, pos, negsuc, if◌then◌else◌}
use Rattle.h265_model.specs.declared.Item.{Item}
use Rattle.h265_model.specs.declared.Place.TheVariants.{Terminate}
use Rattle.h265_model.specs.declared.leaf.SliceKind.TheVariants.{I}
use Rattle.h265_model.specs.Plain.{context_bin, bypass_bin, terminate_bin}
use Rattle.h265_model.specs.Contexts.{start, lps_range, next}
use Rattle.h265_model.specs.Engine as Engine
use Rattle.h265_model.specs.Engine.{doublings, renormalised, bin, context_read, bypass_read, terminate_read}
use Rattle.h265_model.specs.Code.{code, closing, put_bin}
use Rattle.h265_model.specs.Residual.{Shape, scan, residual_items, residual_read, cbf, in_coding_order, in_rows, last_context, sig_context, sub_block_context, greater1_context, greater2_context}
use Rattle.h265_model.specs.Predict.{predict, is_filtered, smoothed, angle, inverse_angle}
use Rattle.h265_model.specs.Bits.{bits as bits_of, ◌>>=◌ as and_then, u, digits_up_to, value_after, read_u, read_alignment}

abbrev predicted_by : ℕ → ℕ → ℕ → List ℕ → List ℕ
predicted_by mode component log2 line = predict mode component log2 (if is_filtered mode log2 then smoothed line else line)

abbrev c : ℕ → ℕ → Item
c zero n = context_bin false n
c (suc b) n = context_bin true n

abbrev b : ℕ → Item
b zero = bypass_bin false
b (suc n) = bypass_bin true

abbrev line_8 : List ℕ
line_8 = 165 ∷ 77 ∷ 202 ∷ 24 ∷ 37 ∷ 48 ∷ 187 ∷ 29 ∷ 109 ∷ 19 ∷ 44 ∷ 222 ∷ 214 ∷ 35 ∷ 123 ∷ 46 ∷ 217 ∷ 30 ∷ 63 ∷ 114 ∷ 31 ∷ 203 ∷ 25 ∷ 113 ∷ 23 ∷ 68 ∷ 148 ∷ 214 ∷ 73 ∷ 60 ∷ 157 ∷ 92 ∷ 52 ∷ []

pub mode_0_0 : predicted_by 0 0 3 line_8 ≡ 95 ∷ 85 ∷ 89 ∷ 93 ∷ 101 ∷ 88 ∷ 76 ∷ 69 ∷ 84 ∷ 77 ∷ 82 ∷ 87 ∷ 94 ∷ 85 ∷ 76 ∷ 71 ∷ 93 ∷ 86 ∷ 88 ∷ 91 ∷ 96 ∷ 87 ∷ 78 ∷ 73 ∷ 123 ∷ 113 ∷ 110 ∷ 108 ∷ 107 ∷ 96 ∷ 84 ∷ 75 ∷ 126 ∷ 116 ∷ 112 ∷ 109 ∷ 107 ∷ 96 ∷ 85 ∷ 77 ∷ 85 ∷ 82 ∷ 84 ∷ 85 ∷ 87 ∷ 84 ∷ 81 ∷ 79 ∷ 70 ∷ 71 ∷ 73 ∷ 76 ∷ 79 ∷ 80 ∷ 80 ∷ 81 ∷ 79 ∷ 79 ∷ 80 ∷ 81 ∷ 81 ∷ 82 ∷ 82 ∷ 83 ∷ []
unfolding predict is_filtered angle inverse_angle u digits_up_to value_after read_u read_alignment
mode_0_0 = refl

pub mode_1_0 : predicted_by 1 0 3 line_8 ≡ 63 ∷ 82 ∷ 95 ∷ 74 ∷ 117 ∷ 72 ∷ 94 ∷ 72 ∷ 97 ∷ 88 ∷ 88 ∷ 88 ∷ 88 ∷ 88 ∷ 88 ∷ 88 ∷ 75 ∷ 88 ∷ 88 ∷ 88 ∷ 88 ∷ 88 ∷ 88 ∷ 88 ∷ 120 ∷ 88 ∷ 88 ∷ 88 ∷ 88 ∷ 88 ∷ 88 ∷ 88 ∷ 122 ∷ 88 ∷ 88 ∷ 88 ∷ 88 ∷ 88 ∷ 88 ∷ 88 ∷ 77 ∷ 88 ∷ 88 ∷ 88 ∷ 88 ∷ 88 ∷ 88 ∷ 88 ∷ 71 ∷ 88 ∷ 88 ∷ 88 ∷ 88 ∷ 88 ∷ 88 ∷ 88 ∷ 93 ∷ 88 ∷ 88 ∷ 88 ∷ 88 ∷ 88 ∷ 88 ∷ 88 ∷ []
unfolding predict is_filtered angle inverse_angle u digits_up_to value_after read_u read_alignment
mode_1_0 = refl

pub mode_2_0 : predicted_by 2 0 3 line_8 ≡ 82 ∷ 102 ∷ 171 ∷ 176 ∷ 82 ∷ 48 ∷ 67 ∷ 89 ∷ 102 ∷ 171 ∷ 176 ∷ 82 ∷ 48 ∷ 67 ∷ 89 ∷ 113 ∷ 171 ∷ 176 ∷ 82 ∷ 48 ∷ 67 ∷ 89 ∷ 113 ∷ 80 ∷ 176 ∷ 82 ∷ 48 ∷ 67 ∷ 89 ∷ 113 ∷ 80 ∷ 37 ∷ 82 ∷ 48 ∷ 67 ∷ 89 ∷ 113 ∷ 80 ∷ 37 ∷ 72 ∷ 48 ∷ 67 ∷ 89 ∷ 113 ∷ 80 ∷ 37 ∷ 72 ∷ 126 ∷ 67 ∷ 89 ∷ 113 ∷ 80 ∷ 37 ∷ 72 ∷ 126 ∷ 130 ∷ 89 ∷ 113 ∷ 80 ∷ 37 ∷ 72 ∷ 126 ∷ 130 ∷ 165 ∷ []
unfolding predict is_filtered angle inverse_angle u digits_up_to value_after read_u read_alignment
mode_2_0 = refl

pub mode_3_0 : predicted_by 3 0 3 line_8 ≡ 109 ∷ 68 ∷ 113 ∷ 216 ∷ 211 ∷ 66 ∷ 27 ∷ 64 ∷ 52 ∷ 147 ∷ 218 ∷ 178 ∷ 42 ∷ 22 ∷ 81 ∷ 69 ∷ 180 ∷ 219 ∷ 144 ∷ 38 ∷ 25 ∷ 98 ∷ 54 ∷ 108 ∷ 221 ∷ 111 ∷ 33 ∷ 42 ∷ 104 ∷ 39 ∷ 138 ∷ 118 ∷ 77 ∷ 28 ∷ 58 ∷ 89 ∷ 39 ∷ 167 ∷ 91 ∷ 43 ∷ 24 ∷ 75 ∷ 74 ∷ 69 ∷ 178 ∷ 65 ∷ 40 ∷ 31 ∷ 92 ∷ 59 ∷ 98 ∷ 152 ∷ 47 ∷ 38 ∷ 28 ∷ 113 ∷ 44 ∷ 128 ∷ 126 ∷ 45 ∷ 36 ∷ 26 ∷ 146 ∷ 140 ∷ []
unfolding predict is_filtered angle inverse_angle u digits_up_to value_after read_u read_alignment
mode_3_0 = refl

pub mode_4_0 : predicted_by 4 0 3 line_8 ≡ 97 ∷ 96 ∷ 38 ∷ 147 ∷ 216 ∷ 222 ∷ 116 ∷ 38 ∷ 65 ∷ 91 ∷ 208 ∷ 219 ∷ 172 ∷ 55 ∷ 29 ∷ 42 ∷ 152 ∷ 217 ∷ 222 ∷ 111 ∷ 37 ∷ 21 ∷ 72 ∷ 89 ∷ 219 ∷ 166 ∷ 50 ∷ 28 ∷ 44 ∷ 103 ∷ 62 ∷ 69 ∷ 105 ∷ 36 ∷ 20 ∷ 75 ∷ 87 ∷ 34 ∷ 123 ∷ 152 ∷ 28 ∷ 47 ∷ 106 ∷ 59 ∷ 73 ∷ 177 ∷ 104 ∷ 45 ∷ 78 ∷ 84 ∷ 32 ∷ 128 ∷ 148 ∷ 57 ∷ 41 ∷ 34 ∷ 57 ∷ 78 ∷ 182 ∷ 100 ∷ 45 ∷ 38 ∷ 29 ∷ 69 ∷ []
unfolding predict is_filtered angle inverse_angle u digits_up_to value_after read_u read_alignment
mode_4_0 = refl

pub mode_5_0 : predicted_by 5 0 3 line_8 ≡ 87 ∷ 118 ∷ 71 ∷ 57 ∷ 152 ∷ 216 ∷ 220 ∷ 178 ∷ 76 ∷ 46 ∷ 141 ∷ 215 ∷ 219 ∷ 189 ∷ 94 ∷ 38 ∷ 130 ∷ 215 ∷ 219 ∷ 200 ∷ 105 ∷ 39 ∷ 26 ∷ 42 ∷ 218 ∷ 211 ∷ 116 ∷ 41 ∷ 28 ∷ 36 ∷ 84 ∷ 89 ∷ 127 ∷ 42 ∷ 29 ∷ 30 ∷ 78 ∷ 94 ∷ 52 ∷ 69 ∷ 31 ∷ 25 ∷ 72 ∷ 99 ∷ 57 ∷ 59 ∷ 143 ∷ 152 ∷ 67 ∷ 104 ∷ 62 ∷ 49 ∷ 133 ∷ 161 ∷ 87 ∷ 45 ∷ 67 ∷ 39 ∷ 123 ∷ 170 ∷ 96 ∷ 46 ∷ 40 ∷ 34 ∷ []
unfolding predict is_filtered angle inverse_angle u digits_up_to value_after read_u read_alignment
mode_5_0 = refl

pub mode_6_0 : predicted_by 6 0 3 line_8 ≡ 77 ∷ 109 ∷ 104 ∷ 68 ∷ 41 ∷ 113 ∷ 186 ∷ 216 ∷ 87 ∷ 52 ∷ 74 ∷ 147 ∷ 214 ∷ 218 ∷ 221 ∷ 178 ∷ 108 ∷ 180 ∷ 216 ∷ 219 ∷ 216 ∷ 144 ∷ 72 ∷ 38 ∷ 217 ∷ 221 ∷ 183 ∷ 111 ∷ 43 ∷ 33 ∷ 23 ∷ 42 ∷ 150 ∷ 77 ∷ 39 ∷ 28 ∷ 22 ∷ 58 ∷ 95 ∷ 89 ∷ 34 ∷ 24 ∷ 39 ∷ 75 ∷ 107 ∷ 74 ∷ 42 ∷ 69 ∷ 56 ∷ 92 ∷ 92 ∷ 59 ∷ 34 ∷ 98 ∷ 162 ∷ 152 ∷ 77 ∷ 44 ∷ 64 ∷ 128 ∷ 183 ∷ 126 ∷ 70 ∷ 45 ∷ []
unfolding predict is_filtered angle inverse_angle u digits_up_to value_after read_u read_alignment
mode_6_0 = refl

pub mode_7_0 : predicted_by 7 0 3 line_8 ≡ 68 ∷ 89 ∷ 111 ∷ 112 ∷ 87 ∷ 63 ∷ 38 ∷ 80 ∷ 98 ∷ 74 ∷ 49 ∷ 57 ∷ 108 ∷ 158 ∷ 208 ∷ 216 ∷ 85 ∷ 136 ∷ 186 ∷ 215 ∷ 217 ∷ 220 ∷ 222 ∷ 178 ∷ 216 ∷ 219 ∷ 221 ∷ 200 ∷ 150 ∷ 100 ∷ 50 ∷ 38 ∷ 172 ∷ 122 ∷ 72 ∷ 41 ∷ 34 ∷ 27 ∷ 20 ∷ 42 ∷ 37 ∷ 30 ∷ 23 ∷ 30 ∷ 56 ∷ 81 ∷ 106 ∷ 89 ∷ 44 ∷ 70 ∷ 95 ∷ 99 ∷ 77 ∷ 54 ∷ 32 ∷ 69 ∷ 87 ∷ 64 ∷ 42 ∷ 49 ∷ 93 ∷ 138 ∷ 182 ∷ 152 ∷ []
unfolding predict is_filtered angle inverse_angle u digits_up_to value_after read_u read_alignment
mode_7_0 = refl

pub mode_8_0 : predicted_by 8 0 3 line_8 ≡ 58 ∷ 70 ∷ 82 ∷ 94 ∷ 106 ∷ 118 ∷ 115 ∷ 101 ∷ 109 ∷ 96 ∷ 82 ∷ 68 ∷ 54 ∷ 41 ∷ 52 ∷ 80 ∷ 63 ∷ 91 ∷ 119 ∷ 147 ∷ 175 ∷ 203 ∷ 215 ∷ 216 ∷ 215 ∷ 217 ∷ 218 ∷ 219 ∷ 220 ∷ 222 ∷ 205 ∷ 178 ∷ 194 ∷ 166 ∷ 139 ∷ 111 ∷ 83 ∷ 55 ∷ 42 ∷ 38 ∷ 40 ∷ 36 ∷ 32 ∷ 28 ∷ 24 ∷ 21 ∷ 27 ∷ 42 ∷ 33 ∷ 47 ∷ 61 ∷ 75 ∷ 89 ∷ 103 ∷ 102 ∷ 89 ∷ 97 ∷ 84 ∷ 72 ∷ 59 ∷ 47 ∷ 34 ∷ 44 ∷ 69 ∷ []
unfolding predict is_filtered angle inverse_angle u digits_up_to value_after read_u read_alignment
mode_8_0 = refl

pub mode_9_0 : predicted_by 9 0 3 line_8 ≡ 51 ∷ 56 ∷ 60 ∷ 65 ∷ 70 ∷ 75 ∷ 80 ∷ 85 ∷ 118 ∷ 112 ∷ 107 ∷ 101 ∷ 96 ∷ 90 ∷ 85 ∷ 79 ∷ 46 ∷ 57 ∷ 69 ∷ 80 ∷ 91 ∷ 102 ∷ 113 ∷ 125 ∷ 215 ∷ 215 ∷ 216 ∷ 216 ∷ 217 ∷ 217 ∷ 218 ∷ 218 ∷ 211 ∷ 200 ∷ 189 ∷ 178 ∷ 166 ∷ 155 ∷ 144 ∷ 133 ∷ 42 ∷ 41 ∷ 39 ∷ 38 ∷ 36 ∷ 35 ∷ 33 ∷ 32 ∷ 25 ∷ 30 ∷ 36 ∷ 42 ∷ 47 ∷ 53 ∷ 58 ∷ 64 ∷ 104 ∷ 99 ∷ 94 ∷ 89 ∷ 84 ∷ 79 ∷ 74 ∷ 69 ∷ []
unfolding predict is_filtered angle inverse_angle u digits_up_to value_after read_u read_alignment
mode_9_0 = refl

pub mode_10_0 : predicted_by 10 0 3 line_8 ≡ 0 ∷ 0 ∷ 0 ∷ 0 ∷ 39 ∷ 0 ∷ 0 ∷ 0 ∷ 123 ∷ 123 ∷ 123 ∷ 123 ∷ 123 ∷ 123 ∷ 123 ∷ 123 ∷ 35 ∷ 35 ∷ 35 ∷ 35 ∷ 35 ∷ 35 ∷ 35 ∷ 35 ∷ 214 ∷ 214 ∷ 214 ∷ 214 ∷ 214 ∷ 214 ∷ 214 ∷ 214 ∷ 222 ∷ 222 ∷ 222 ∷ 222 ∷ 222 ∷ 222 ∷ 222 ∷ 222 ∷ 44 ∷ 44 ∷ 44 ∷ 44 ∷ 44 ∷ 44 ∷ 44 ∷ 44 ∷ 19 ∷ 19 ∷ 19 ∷ 19 ∷ 19 ∷ 19 ∷ 19 ∷ 19 ∷ 109 ∷ 109 ∷ 109 ∷ 109 ∷ 109 ∷ 109 ∷ 109 ∷ 109 ∷ []
unfolding predict is_filtered angle inverse_angle u digits_up_to value_after read_u read_alignment
mode_10_0 = refl

pub mode_11_0 : predicted_by 11 0 3 line_8 ≡ 57 ∷ 67 ∷ 78 ∷ 89 ∷ 99 ∷ 110 ∷ 121 ∷ 132 ∷ 118 ∷ 113 ∷ 109 ∷ 104 ∷ 99 ∷ 94 ∷ 89 ∷ 85 ∷ 41 ∷ 46 ∷ 52 ∷ 57 ∷ 63 ∷ 68 ∷ 74 ∷ 79 ∷ 203 ∷ 192 ∷ 180 ∷ 169 ∷ 158 ∷ 147 ∷ 136 ∷ 125 ∷ 222 ∷ 221 ∷ 221 ∷ 220 ∷ 220 ∷ 219 ∷ 219 ∷ 218 ∷ 55 ∷ 66 ∷ 77 ∷ 89 ∷ 100 ∷ 111 ∷ 122 ∷ 133 ∷ 21 ∷ 22 ∷ 24 ∷ 25 ∷ 27 ∷ 28 ∷ 30 ∷ 32 ∷ 103 ∷ 98 ∷ 92 ∷ 87 ∷ 81 ∷ 75 ∷ 70 ∷ 64 ∷ []
unfolding predict is_filtered angle inverse_angle u digits_up_to value_after read_u read_alignment
mode_11_0 = refl

pub mode_12_0 : predicted_by 12 0 3 line_8 ≡ 73 ∷ 99 ∷ 126 ∷ 153 ∷ 180 ∷ 206 ∷ 199 ∷ 169 ∷ 111 ∷ 99 ∷ 87 ∷ 75 ∷ 63 ∷ 51 ∷ 62 ∷ 89 ∷ 49 ∷ 63 ∷ 76 ∷ 90 ∷ 104 ∷ 118 ∷ 116 ∷ 104 ∷ 186 ∷ 158 ∷ 130 ∷ 102 ∷ 74 ∷ 46 ∷ 43 ∷ 57 ∷ 221 ∷ 220 ∷ 218 ∷ 217 ∷ 216 ∷ 215 ∷ 197 ∷ 169 ∷ 72 ∷ 100 ∷ 127 ∷ 155 ∷ 183 ∷ 211 ∷ 221 ∷ 220 ∷ 23 ∷ 27 ∷ 31 ∷ 35 ∷ 39 ∷ 42 ∷ 61 ∷ 89 ∷ 95 ∷ 81 ∷ 67 ∷ 53 ∷ 39 ∷ 25 ∷ 21 ∷ 25 ∷ []
unfolding predict is_filtered angle inverse_angle u digits_up_to value_after read_u read_alignment
mode_12_0 = refl

pub mode_13_0 : predicted_by 13 0 3 line_8 ≡ 94 ∷ 142 ∷ 190 ∷ 194 ∷ 141 ∷ 89 ∷ 37 ∷ 52 ∷ 101 ∷ 80 ∷ 58 ∷ 67 ∷ 115 ∷ 164 ∷ 212 ∷ 171 ∷ 60 ∷ 85 ∷ 109 ∷ 113 ∷ 92 ∷ 70 ∷ 48 ∷ 89 ∷ 164 ∷ 113 ∷ 63 ∷ 46 ∷ 71 ∷ 96 ∷ 120 ∷ 104 ∷ 220 ∷ 218 ∷ 215 ∷ 192 ∷ 141 ∷ 91 ∷ 41 ∷ 57 ∷ 94 ∷ 144 ∷ 194 ∷ 221 ∷ 219 ∷ 217 ∷ 214 ∷ 169 ∷ 26 ∷ 33 ∷ 40 ∷ 66 ∷ 116 ∷ 166 ∷ 216 ∷ 220 ∷ 84 ∷ 58 ∷ 33 ∷ 22 ∷ 29 ∷ 36 ∷ 43 ∷ 89 ∷ []
unfolding predict is_filtered angle inverse_angle u digits_up_to value_after read_u read_alignment
mode_13_0 = refl

pub mode_14_0 : predicted_by 14 0 3 line_8 ≡ 115 ∷ 185 ∷ 183 ∷ 121 ∷ 67 ∷ 124 ∷ 181 ∷ 181 ∷ 92 ∷ 60 ∷ 83 ∷ 153 ∷ 212 ∷ 150 ∷ 87 ∷ 98 ∷ 71 ∷ 107 ∷ 106 ∷ 75 ∷ 51 ∷ 121 ∷ 190 ∷ 179 ∷ 141 ∷ 69 ∷ 54 ∷ 90 ∷ 121 ∷ 89 ∷ 58 ∷ 89 ∷ 219 ∷ 216 ∷ 175 ∷ 102 ∷ 38 ∷ 74 ∷ 109 ∷ 104 ∷ 116 ∷ 189 ∷ 220 ∷ 217 ∷ 208 ∷ 136 ∷ 63 ∷ 57 ∷ 29 ∷ 39 ∷ 83 ∷ 155 ∷ 222 ∷ 219 ∷ 215 ∷ 169 ∷ 72 ∷ 36 ∷ 24 ∷ 35 ∷ 50 ∷ 122 ∷ 194 ∷ 220 ∷ []
unfolding predict is_filtered angle inverse_angle u digits_up_to value_after read_u read_alignment
mode_14_0 = refl

pub mode_15_0 : predicted_by 15 0 3 line_8 ≡ 137 ∷ 207 ∷ 126 ∷ 59 ∷ 42 ∷ 30 ∷ 27 ∷ 25 ∷ 82 ∷ 57 ∷ 148 ∷ 198 ∷ 116 ∷ 57 ∷ 40 ∷ 30 ∷ 82 ∷ 118 ∷ 77 ∷ 67 ∷ 158 ∷ 188 ∷ 106 ∷ 55 ∷ 119 ∷ 41 ∷ 87 ∷ 113 ∷ 72 ∷ 78 ∷ 169 ∷ 179 ∷ 218 ∷ 203 ∷ 108 ∷ 46 ∷ 93 ∷ 109 ∷ 68 ∷ 89 ∷ 139 ∷ 222 ∷ 217 ∷ 192 ∷ 97 ∷ 52 ∷ 98 ∷ 104 ∷ 32 ∷ 55 ∷ 150 ∷ 221 ∷ 217 ∷ 180 ∷ 85 ∷ 57 ∷ 61 ∷ 21 ∷ 34 ∷ 66 ∷ 161 ∷ 221 ∷ 216 ∷ 169 ∷ []
unfolding predict is_filtered angle inverse_angle u digits_up_to value_after read_u read_alignment
mode_15_0 = refl

pub mode_16_0 : predicted_by 16 0 3 line_8 ≡ 158 ∷ 169 ∷ 68 ∷ 95 ∷ 139 ∷ 197 ∷ 97 ∷ 25 ∷ 72 ∷ 99 ∷ 212 ∷ 121 ∷ 77 ∷ 111 ∷ 167 ∷ 159 ∷ 93 ∷ 99 ∷ 48 ∷ 153 ∷ 174 ∷ 73 ∷ 93 ∷ 136 ∷ 97 ∷ 63 ∷ 120 ∷ 75 ∷ 94 ∷ 206 ∷ 126 ∷ 76 ∷ 217 ∷ 158 ∷ 41 ∷ 90 ∷ 101 ∷ 51 ∷ 148 ∷ 179 ∷ 161 ∷ 220 ∷ 214 ∷ 102 ∷ 60 ∷ 118 ∷ 77 ∷ 89 ∷ 35 ∷ 100 ∷ 216 ∷ 217 ∷ 164 ∷ 46 ∷ 87 ∷ 104 ∷ 50 ∷ 27 ∷ 43 ∷ 155 ∷ 220 ∷ 215 ∷ 108 ∷ 57 ∷ []
unfolding predict is_filtered angle inverse_angle u digits_up_to value_after read_u read_alignment
mode_16_0 = refl

pub mode_17_0 : predicted_by 17 0 3 line_8 ≡ 185 ∷ 100 ∷ 44 ∷ 55 ∷ 42 ∷ 182 ∷ 81 ∷ 69 ∷ 60 ∷ 153 ∷ 135 ∷ 38 ∷ 61 ∷ 35 ∷ 149 ∷ 114 ∷ 107 ∷ 75 ∷ 121 ∷ 170 ∷ 32 ∷ 59 ∷ 41 ∷ 117 ∷ 69 ∷ 90 ∷ 89 ∷ 89 ∷ 205 ∷ 53 ∷ 53 ∷ 47 ∷ 216 ∷ 102 ∷ 74 ∷ 104 ∷ 57 ∷ 196 ∷ 88 ∷ 47 ∷ 189 ∷ 217 ∷ 136 ∷ 57 ∷ 118 ∷ 56 ∷ 164 ∷ 124 ∷ 39 ∷ 155 ∷ 219 ∷ 169 ∷ 41 ∷ 112 ∷ 70 ∷ 132 ∷ 36 ∷ 35 ∷ 122 ∷ 220 ∷ 203 ∷ 57 ∷ 96 ∷ 85 ∷ []
unfolding predict is_filtered angle inverse_angle u digits_up_to value_after read_u read_alignment
mode_17_0 = refl

pub mode_18_0 : predicted_by 18 0 3 line_8 ≡ 128 ∷ 85 ∷ 68 ∷ 81 ∷ 95 ∷ 116 ∷ 92 ∷ 69 ∷ 108 ∷ 128 ∷ 85 ∷ 68 ∷ 81 ∷ 95 ∷ 116 ∷ 92 ∷ 82 ∷ 108 ∷ 128 ∷ 85 ∷ 68 ∷ 81 ∷ 95 ∷ 116 ∷ 102 ∷ 82 ∷ 108 ∷ 128 ∷ 85 ∷ 68 ∷ 81 ∷ 95 ∷ 171 ∷ 102 ∷ 82 ∷ 108 ∷ 128 ∷ 85 ∷ 68 ∷ 81 ∷ 176 ∷ 171 ∷ 102 ∷ 82 ∷ 108 ∷ 128 ∷ 85 ∷ 68 ∷ 82 ∷ 176 ∷ 171 ∷ 102 ∷ 82 ∷ 108 ∷ 128 ∷ 85 ∷ 48 ∷ 82 ∷ 176 ∷ 171 ∷ 102 ∷ 82 ∷ 108 ∷ 128 ∷ []
unfolding predict is_filtered angle inverse_angle u digits_up_to value_after read_u read_alignment
mode_18_0 = refl

pub mode_19_0 : predicted_by 19 0 3 line_8 ≡ 182 ∷ 36 ∷ 73 ∷ 98 ∷ 63 ∷ 170 ∷ 42 ∷ 96 ∷ 110 ∷ 147 ∷ 42 ∷ 82 ∷ 83 ∷ 96 ∷ 136 ∷ 58 ∷ 80 ∷ 142 ∷ 112 ∷ 49 ∷ 92 ∷ 67 ∷ 128 ∷ 103 ∷ 146 ∷ 65 ∷ 174 ∷ 77 ∷ 55 ∷ 101 ∷ 52 ∷ 160 ∷ 215 ∷ 129 ∷ 51 ∷ 206 ∷ 42 ∷ 61 ∷ 111 ∷ 36 ∷ 221 ∷ 203 ∷ 113 ∷ 67 ∷ 194 ∷ 34 ∷ 69 ∷ 104 ∷ 100 ∷ 220 ∷ 186 ∷ 99 ∷ 99 ∷ 159 ∷ 40 ∷ 79 ∷ 32 ∷ 133 ∷ 218 ∷ 169 ∷ 85 ∷ 132 ∷ 124 ∷ 47 ∷ []
unfolding predict is_filtered angle inverse_angle u digits_up_to value_after read_u read_alignment
mode_19_0 = refl

pub mode_20_0 : predicted_by 20 0 3 line_8 ≡ 153 ∷ 41 ∷ 81 ∷ 85 ∷ 90 ∷ 142 ∷ 55 ∷ 82 ∷ 188 ∷ 88 ∷ 53 ∷ 98 ∷ 57 ∷ 149 ∷ 81 ∷ 86 ∷ 126 ∷ 211 ∷ 31 ∷ 65 ∷ 111 ∷ 36 ∷ 197 ∷ 28 ∷ 68 ∷ 158 ∷ 147 ∷ 42 ∷ 82 ∷ 83 ∷ 96 ∷ 136 ∷ 88 ∷ 98 ∷ 191 ∷ 83 ∷ 54 ∷ 100 ∷ 54 ∷ 155 ∷ 210 ∷ 41 ∷ 129 ∷ 205 ∷ 32 ∷ 66 ∷ 109 ∷ 42 ∷ 116 ∷ 146 ∷ 71 ∷ 161 ∷ 141 ∷ 43 ∷ 84 ∷ 80 ∷ 60 ∷ 178 ∷ 82 ∷ 101 ∷ 194 ∷ 77 ∷ 55 ∷ 101 ∷ []
unfolding predict is_filtered angle inverse_angle u digits_up_to value_after read_u read_alignment
mode_20_0 = refl

pub mode_21_0 : predicted_by 21 0 3 line_8 ≡ 129 ∷ 45 ∷ 87 ∷ 75 ∷ 112 ∷ 120 ∷ 66 ∷ 71 ∷ 211 ∷ 42 ∷ 61 ∷ 111 ∷ 36 ∷ 192 ∷ 36 ∷ 108 ∷ 161 ∷ 141 ∷ 43 ∷ 84 ∷ 80 ∷ 101 ∷ 131 ∷ 61 ∷ 134 ∷ 205 ∷ 53 ∷ 59 ∷ 108 ∷ 41 ∷ 182 ∷ 47 ∷ 183 ∷ 155 ∷ 153 ∷ 41 ∷ 81 ∷ 85 ∷ 90 ∷ 142 ∷ 182 ∷ 140 ∷ 199 ∷ 65 ∷ 57 ∷ 104 ∷ 47 ∷ 171 ∷ 92 ∷ 188 ∷ 149 ∷ 164 ∷ 39 ∷ 77 ∷ 91 ∷ 79 ∷ 60 ∷ 172 ∷ 146 ∷ 194 ∷ 77 ∷ 55 ∷ 101 ∷ 52 ∷ []
unfolding predict is_filtered angle inverse_angle u digits_up_to value_after read_u read_alignment
mode_21_0 = refl

pub mode_22_0 : predicted_by 22 0 3 line_8 ≡ 106 ∷ 50 ∷ 93 ∷ 65 ∷ 133 ∷ 97 ∷ 77 ∷ 60 ∷ 182 ∷ 36 ∷ 73 ∷ 98 ∷ 63 ∷ 170 ∷ 42 ∷ 96 ∷ 196 ∷ 71 ∷ 56 ∷ 103 ∷ 49 ∷ 165 ∷ 64 ∷ 94 ∷ 158 ∷ 147 ∷ 42 ∷ 82 ∷ 83 ∷ 96 ∷ 136 ∷ 58 ∷ 126 ∷ 214 ∷ 36 ∷ 62 ∷ 112 ∷ 34 ∷ 198 ∷ 31 ∷ 166 ∷ 176 ∷ 112 ∷ 49 ∷ 92 ∷ 67 ∷ 128 ∷ 103 ∷ 207 ∷ 138 ∷ 188 ∷ 35 ∷ 71 ∷ 101 ∷ 58 ∷ 175 ∷ 171 ∷ 148 ∷ 194 ∷ 77 ∷ 55 ∷ 101 ∷ 52 ∷ 160 ∷ []
unfolding predict is_filtered angle inverse_angle u digits_up_to value_after read_u read_alignment
mode_22_0 = refl

pub mode_23_0 : predicted_by 23 0 3 line_8 ≡ 83 ∷ 54 ∷ 100 ∷ 54 ∷ 155 ∷ 75 ∷ 88 ∷ 48 ∷ 135 ∷ 44 ∷ 85 ∷ 78 ∷ 106 ∷ 125 ∷ 64 ∷ 74 ∷ 188 ∷ 35 ∷ 71 ∷ 101 ∷ 58 ∷ 175 ∷ 39 ∷ 99 ∷ 217 ∷ 53 ∷ 59 ∷ 108 ∷ 41 ∷ 182 ∷ 47 ∷ 102 ∷ 216 ∷ 106 ∷ 50 ∷ 93 ∷ 65 ∷ 133 ∷ 97 ∷ 77 ∷ 215 ∷ 159 ∷ 40 ∷ 79 ∷ 88 ∷ 85 ∷ 147 ∷ 53 ∷ 214 ∷ 211 ∷ 31 ∷ 65 ∷ 111 ∷ 36 ∷ 197 ∷ 28 ∷ 165 ∷ 216 ∷ 77 ∷ 55 ∷ 101 ∷ 52 ∷ 160 ∷ 70 ∷ []
unfolding predict is_filtered angle inverse_angle u digits_up_to value_after read_u read_alignment
mode_23_0 = refl

pub mode_24_0 : predicted_by 24 0 3 line_8 ≡ 59 ∷ 58 ∷ 106 ∷ 44 ∷ 176 ∷ 53 ∷ 99 ∷ 37 ∷ 88 ∷ 53 ∷ 98 ∷ 57 ∷ 149 ∷ 81 ∷ 86 ∷ 51 ∷ 118 ∷ 48 ∷ 90 ∷ 70 ∷ 122 ∷ 108 ∷ 72 ∷ 65 ∷ 147 ∷ 42 ∷ 82 ∷ 83 ∷ 96 ∷ 136 ∷ 58 ∷ 79 ∷ 176 ∷ 37 ∷ 74 ∷ 96 ∷ 69 ∷ 164 ∷ 44 ∷ 93 ∷ 205 ∷ 32 ∷ 66 ∷ 109 ∷ 42 ∷ 192 ∷ 31 ∷ 107 ∷ 201 ∷ 48 ∷ 60 ∷ 109 ∷ 39 ∷ 187 ∷ 42 ∷ 105 ∷ 174 ∷ 77 ∷ 55 ∷ 101 ∷ 52 ∷ 160 ∷ 70 ∷ 91 ∷ []
unfolding predict is_filtered angle inverse_angle u digits_up_to value_after read_u read_alignment
mode_24_0 = refl

pub mode_25_0 : predicted_by 25 0 3 line_8 ≡ 42 ∷ 61 ∷ 111 ∷ 36 ∷ 192 ∷ 36 ∷ 108 ∷ 29 ∷ 53 ∷ 59 ∷ 108 ∷ 41 ∷ 182 ∷ 47 ∷ 102 ∷ 34 ∷ 65 ∷ 57 ∷ 104 ∷ 47 ∷ 171 ∷ 58 ∷ 97 ∷ 40 ∷ 77 ∷ 55 ∷ 101 ∷ 52 ∷ 160 ∷ 70 ∷ 91 ∷ 46 ∷ 88 ∷ 53 ∷ 98 ∷ 57 ∷ 149 ∷ 81 ∷ 86 ∷ 51 ∷ 100 ∷ 51 ∷ 95 ∷ 62 ∷ 139 ∷ 92 ∷ 80 ∷ 57 ∷ 112 ∷ 49 ∷ 92 ∷ 67 ∷ 128 ∷ 103 ∷ 75 ∷ 62 ∷ 124 ∷ 47 ∷ 89 ∷ 73 ∷ 117 ∷ 114 ∷ 69 ∷ 68 ∷ []
unfolding predict is_filtered angle inverse_angle u digits_up_to value_after read_u read_alignment
mode_25_0 = refl

pub mode_26_0 : predicted_by 26 0 3 line_8 ≡ 0 ∷ 63 ∷ 114 ∷ 31 ∷ 203 ∷ 25 ∷ 113 ∷ 23 ∷ 0 ∷ 63 ∷ 114 ∷ 31 ∷ 203 ∷ 25 ∷ 113 ∷ 23 ∷ 0 ∷ 63 ∷ 114 ∷ 31 ∷ 203 ∷ 25 ∷ 113 ∷ 23 ∷ 28 ∷ 63 ∷ 114 ∷ 31 ∷ 203 ∷ 25 ∷ 113 ∷ 23 ∷ 32 ∷ 63 ∷ 114 ∷ 31 ∷ 203 ∷ 25 ∷ 113 ∷ 23 ∷ 0 ∷ 63 ∷ 114 ∷ 31 ∷ 203 ∷ 25 ∷ 113 ∷ 23 ∷ 0 ∷ 63 ∷ 114 ∷ 31 ∷ 203 ∷ 25 ∷ 113 ∷ 23 ∷ 0 ∷ 63 ∷ 114 ∷ 31 ∷ 203 ∷ 25 ∷ 113 ∷ 23 ∷ []
unfolding predict is_filtered angle inverse_angle u digits_up_to value_after read_u read_alignment
mode_26_0 = refl

pub mode_27_0 : predicted_by 27 0 3 line_8 ≡ 32 ∷ 66 ∷ 109 ∷ 42 ∷ 192 ∷ 31 ∷ 107 ∷ 26 ∷ 34 ∷ 69 ∷ 104 ∷ 53 ∷ 181 ∷ 36 ∷ 102 ∷ 29 ∷ 36 ∷ 73 ∷ 98 ∷ 63 ∷ 170 ∷ 42 ∷ 96 ∷ 31 ∷ 38 ∷ 76 ∷ 93 ∷ 74 ∷ 159 ∷ 47 ∷ 91 ∷ 34 ∷ 40 ∷ 79 ∷ 88 ∷ 85 ∷ 147 ∷ 53 ∷ 85 ∷ 37 ∷ 42 ∷ 82 ∷ 83 ∷ 96 ∷ 136 ∷ 58 ∷ 79 ∷ 40 ∷ 44 ∷ 85 ∷ 78 ∷ 106 ∷ 125 ∷ 64 ∷ 74 ∷ 43 ∷ 47 ∷ 89 ∷ 73 ∷ 117 ∷ 114 ∷ 69 ∷ 68 ∷ 46 ∷ []
unfolding predict is_filtered angle inverse_angle u digits_up_to value_after read_u read_alignment
mode_27_0 = refl

pub mode_28_0 : predicted_by 28 0 3 line_8 ≡ 35 ∷ 71 ∷ 101 ∷ 58 ∷ 175 ∷ 39 ∷ 99 ∷ 30 ∷ 40 ∷ 79 ∷ 88 ∷ 85 ∷ 147 ∷ 53 ∷ 85 ∷ 37 ∷ 45 ∷ 87 ∷ 75 ∷ 112 ∷ 120 ∷ 66 ∷ 71 ∷ 44 ∷ 51 ∷ 95 ∷ 62 ∷ 139 ∷ 92 ∷ 80 ∷ 57 ∷ 51 ∷ 56 ∷ 103 ∷ 49 ∷ 165 ∷ 64 ∷ 94 ∷ 43 ∷ 58 ∷ 61 ∷ 111 ∷ 36 ∷ 192 ∷ 36 ∷ 108 ∷ 29 ∷ 65 ∷ 68 ∷ 106 ∷ 47 ∷ 186 ∷ 33 ∷ 105 ∷ 27 ∷ 76 ∷ 76 ∷ 93 ∷ 74 ∷ 159 ∷ 47 ∷ 91 ∷ 34 ∷ 88 ∷ []
unfolding predict is_filtered angle inverse_angle u digits_up_to value_after read_u read_alignment
mode_28_0 = refl

pub mode_29_0 : predicted_by 29 0 3 line_8 ≡ 39 ∷ 77 ∷ 91 ∷ 79 ∷ 153 ∷ 50 ∷ 88 ∷ 36 ∷ 49 ∷ 92 ∷ 67 ∷ 128 ∷ 103 ∷ 75 ∷ 62 ∷ 48 ∷ 58 ∷ 106 ∷ 44 ∷ 176 ∷ 53 ∷ 99 ∷ 37 ∷ 61 ∷ 69 ∷ 104 ∷ 53 ∷ 181 ∷ 36 ∷ 102 ∷ 29 ∷ 78 ∷ 84 ∷ 80 ∷ 101 ∷ 131 ∷ 61 ∷ 76 ∷ 41 ∷ 101 ∷ 98 ∷ 57 ∷ 149 ∷ 81 ∷ 86 ∷ 51 ∷ 54 ∷ 123 ∷ 112 ∷ 34 ∷ 198 ∷ 31 ∷ 110 ∷ 26 ∷ 67 ∷ 146 ∷ 93 ∷ 74 ∷ 159 ∷ 47 ∷ 91 ∷ 34 ∷ 88 ∷ 165 ∷ []
unfolding predict is_filtered angle inverse_angle u digits_up_to value_after read_u read_alignment
mode_29_0 = refl

pub mode_30_0 : predicted_by 30 0 3 line_8 ≡ 43 ∷ 84 ∷ 80 ∷ 101 ∷ 131 ∷ 61 ∷ 76 ∷ 41 ∷ 57 ∷ 104 ∷ 47 ∷ 171 ∷ 58 ∷ 97 ∷ 40 ∷ 60 ∷ 74 ∷ 96 ∷ 69 ∷ 164 ∷ 44 ∷ 93 ∷ 33 ∷ 86 ∷ 95 ∷ 62 ∷ 139 ∷ 92 ∷ 80 ∷ 57 ∷ 51 ∷ 118 ∷ 111 ∷ 36 ∷ 197 ∷ 28 ∷ 110 ∷ 24 ∷ 71 ∷ 150 ∷ 78 ∷ 106 ∷ 125 ∷ 64 ∷ 74 ∷ 43 ∷ 103 ∷ 177 ∷ 44 ∷ 176 ∷ 53 ∷ 99 ∷ 37 ∷ 61 ∷ 136 ∷ 204 ∷ 74 ∷ 159 ∷ 47 ∷ 91 ∷ 34 ∷ 88 ∷ 165 ∷ 179 ∷ []
unfolding predict is_filtered angle inverse_angle u digits_up_to value_after read_u read_alignment
mode_30_0 = refl

pub mode_31_0 : predicted_by 31 0 3 line_8 ≡ 48 ∷ 90 ∷ 70 ∷ 122 ∷ 108 ∷ 72 ∷ 65 ∷ 47 ∷ 66 ∷ 109 ∷ 42 ∷ 192 ∷ 31 ∷ 107 ∷ 26 ∷ 73 ∷ 93 ∷ 65 ∷ 133 ∷ 97 ∷ 77 ∷ 60 ∷ 50 ∷ 116 ∷ 104 ∷ 53 ∷ 181 ∷ 36 ∷ 102 ∷ 29 ∷ 78 ∷ 156 ∷ 60 ∷ 144 ∷ 86 ∷ 83 ∷ 54 ∷ 53 ∷ 121 ∷ 191 ∷ 63 ∷ 170 ∷ 42 ∷ 96 ∷ 31 ∷ 83 ∷ 160 ∷ 188 ∷ 155 ∷ 75 ∷ 88 ∷ 48 ∷ 55 ∷ 126 ∷ 195 ∷ 113 ∷ 159 ∷ 47 ∷ 91 ∷ 34 ∷ 88 ∷ 165 ∷ 179 ∷ 70 ∷ []
unfolding predict is_filtered angle inverse_angle u digits_up_to value_after read_u read_alignment
mode_31_0 = refl

pub mode_32_0 : predicted_by 32 0 3 line_8 ≡ 52 ∷ 96 ∷ 60 ∷ 144 ∷ 86 ∷ 83 ∷ 54 ∷ 53 ∷ 79 ∷ 88 ∷ 85 ∷ 147 ∷ 53 ∷ 85 ∷ 37 ∷ 93 ∷ 112 ∷ 34 ∷ 198 ∷ 31 ∷ 110 ∷ 26 ∷ 67 ∷ 146 ∷ 62 ∷ 139 ∷ 92 ∷ 80 ∷ 57 ∷ 51 ∷ 118 ∷ 189 ∷ 79 ∷ 153 ∷ 50 ∷ 88 ∷ 36 ∷ 91 ∷ 167 ∷ 174 ∷ 192 ∷ 36 ∷ 108 ∷ 29 ∷ 65 ∷ 143 ∷ 210 ∷ 82 ∷ 97 ∷ 77 ∷ 60 ∷ 50 ∷ 116 ∷ 187 ∷ 130 ∷ 65 ∷ 47 ∷ 91 ∷ 34 ∷ 88 ∷ 165 ∷ 179 ∷ 70 ∷ 84 ∷ []
unfolding predict is_filtered angle inverse_angle u digits_up_to value_after read_u read_alignment
mode_32_0 = refl

pub mode_33_0 : predicted_by 33 0 3 line_8 ≡ 57 ∷ 104 ∷ 47 ∷ 171 ∷ 58 ∷ 97 ∷ 40 ∷ 60 ∷ 95 ∷ 62 ∷ 139 ∷ 92 ∷ 80 ∷ 57 ∷ 51 ∷ 118 ∷ 78 ∷ 106 ∷ 125 ∷ 64 ∷ 74 ∷ 43 ∷ 103 ∷ 177 ∷ 74 ∷ 159 ∷ 47 ∷ 91 ∷ 34 ∷ 88 ∷ 165 ∷ 179 ∷ 192 ∷ 31 ∷ 107 ∷ 26 ∷ 73 ∷ 152 ∷ 205 ∷ 72 ∷ 47 ∷ 102 ∷ 34 ∷ 62 ∷ 138 ∷ 206 ∷ 91 ∷ 62 ∷ 86 ∷ 51 ∷ 54 ∷ 123 ∷ 193 ∷ 117 ∷ 64 ∷ 127 ∷ 68 ∷ 46 ∷ 108 ∷ 181 ∷ 144 ∷ 67 ∷ 109 ∷ 125 ∷ []
unfolding predict is_filtered angle inverse_angle u digits_up_to value_after read_u read_alignment
mode_33_0 = refl

pub mode_34_0 : predicted_by 34 0 3 line_8 ≡ 68 ∷ 81 ∷ 95 ∷ 116 ∷ 92 ∷ 69 ∷ 57 ∷ 77 ∷ 81 ∷ 95 ∷ 116 ∷ 92 ∷ 69 ∷ 57 ∷ 77 ∷ 145 ∷ 95 ∷ 116 ∷ 92 ∷ 69 ∷ 57 ∷ 77 ∷ 145 ∷ 162 ∷ 116 ∷ 92 ∷ 69 ∷ 57 ∷ 77 ∷ 145 ∷ 162 ∷ 105 ∷ 92 ∷ 69 ∷ 57 ∷ 77 ∷ 145 ∷ 162 ∷ 105 ∷ 88 ∷ 69 ∷ 57 ∷ 77 ∷ 145 ∷ 162 ∷ 105 ∷ 88 ∷ 117 ∷ 57 ∷ 77 ∷ 145 ∷ 162 ∷ 105 ∷ 88 ∷ 117 ∷ 98 ∷ 77 ∷ 145 ∷ 162 ∷ 105 ∷ 88 ∷ 117 ∷ 98 ∷ 52 ∷ []
unfolding predict is_filtered angle inverse_angle u digits_up_to value_after read_u read_alignment
mode_34_0 = refl

pub mode_0_1 : predicted_by 0 1 3 line_8 ≡ 95 ∷ 85 ∷ 89 ∷ 93 ∷ 101 ∷ 88 ∷ 76 ∷ 69 ∷ 84 ∷ 77 ∷ 82 ∷ 87 ∷ 94 ∷ 85 ∷ 76 ∷ 71 ∷ 93 ∷ 86 ∷ 88 ∷ 91 ∷ 96 ∷ 87 ∷ 78 ∷ 73 ∷ 123 ∷ 113 ∷ 110 ∷ 108 ∷ 107 ∷ 96 ∷ 84 ∷ 75 ∷ 126 ∷ 116 ∷ 112 ∷ 109 ∷ 107 ∷ 96 ∷ 85 ∷ 77 ∷ 85 ∷ 82 ∷ 84 ∷ 85 ∷ 87 ∷ 84 ∷ 81 ∷ 79 ∷ 70 ∷ 71 ∷ 73 ∷ 76 ∷ 79 ∷ 80 ∷ 80 ∷ 81 ∷ 79 ∷ 79 ∷ 80 ∷ 81 ∷ 81 ∷ 82 ∷ 82 ∷ 83 ∷ []
unfolding predict is_filtered angle inverse_angle u digits_up_to value_after read_u read_alignment
mode_0_1 = refl

pub mode_1_1 : predicted_by 1 1 3 line_8 ≡ 88 ∷ 88 ∷ 88 ∷ 88 ∷ 88 ∷ 88 ∷ 88 ∷ 88 ∷ 88 ∷ 88 ∷ 88 ∷ 88 ∷ 88 ∷ 88 ∷ 88 ∷ 88 ∷ 88 ∷ 88 ∷ 88 ∷ 88 ∷ 88 ∷ 88 ∷ 88 ∷ 88 ∷ 88 ∷ 88 ∷ 88 ∷ 88 ∷ 88 ∷ 88 ∷ 88 ∷ 88 ∷ 88 ∷ 88 ∷ 88 ∷ 88 ∷ 88 ∷ 88 ∷ 88 ∷ 88 ∷ 88 ∷ 88 ∷ 88 ∷ 88 ∷ 88 ∷ 88 ∷ 88 ∷ 88 ∷ 88 ∷ 88 ∷ 88 ∷ 88 ∷ 88 ∷ 88 ∷ 88 ∷ 88 ∷ 88 ∷ 88 ∷ 88 ∷ 88 ∷ 88 ∷ 88 ∷ 88 ∷ 88 ∷ []
unfolding predict is_filtered angle inverse_angle u digits_up_to value_after read_u read_alignment
mode_1_1 = refl

pub mode_2_1 : predicted_by 2 1 3 line_8 ≡ 82 ∷ 102 ∷ 171 ∷ 176 ∷ 82 ∷ 48 ∷ 67 ∷ 89 ∷ 102 ∷ 171 ∷ 176 ∷ 82 ∷ 48 ∷ 67 ∷ 89 ∷ 113 ∷ 171 ∷ 176 ∷ 82 ∷ 48 ∷ 67 ∷ 89 ∷ 113 ∷ 80 ∷ 176 ∷ 82 ∷ 48 ∷ 67 ∷ 89 ∷ 113 ∷ 80 ∷ 37 ∷ 82 ∷ 48 ∷ 67 ∷ 89 ∷ 113 ∷ 80 ∷ 37 ∷ 72 ∷ 48 ∷ 67 ∷ 89 ∷ 113 ∷ 80 ∷ 37 ∷ 72 ∷ 126 ∷ 67 ∷ 89 ∷ 113 ∷ 80 ∷ 37 ∷ 72 ∷ 126 ∷ 130 ∷ 89 ∷ 113 ∷ 80 ∷ 37 ∷ 72 ∷ 126 ∷ 130 ∷ 165 ∷ []
unfolding predict is_filtered angle inverse_angle u digits_up_to value_after read_u read_alignment
mode_2_1 = refl

pub mode_3_1 : predicted_by 3 1 3 line_8 ≡ 109 ∷ 68 ∷ 113 ∷ 216 ∷ 211 ∷ 66 ∷ 27 ∷ 64 ∷ 52 ∷ 147 ∷ 218 ∷ 178 ∷ 42 ∷ 22 ∷ 81 ∷ 69 ∷ 180 ∷ 219 ∷ 144 ∷ 38 ∷ 25 ∷ 98 ∷ 54 ∷ 108 ∷ 221 ∷ 111 ∷ 33 ∷ 42 ∷ 104 ∷ 39 ∷ 138 ∷ 118 ∷ 77 ∷ 28 ∷ 58 ∷ 89 ∷ 39 ∷ 167 ∷ 91 ∷ 43 ∷ 24 ∷ 75 ∷ 74 ∷ 69 ∷ 178 ∷ 65 ∷ 40 ∷ 31 ∷ 92 ∷ 59 ∷ 98 ∷ 152 ∷ 47 ∷ 38 ∷ 28 ∷ 113 ∷ 44 ∷ 128 ∷ 126 ∷ 45 ∷ 36 ∷ 26 ∷ 146 ∷ 140 ∷ []
unfolding predict is_filtered angle inverse_angle u digits_up_to value_after read_u read_alignment
mode_3_1 = refl

pub mode_4_1 : predicted_by 4 1 3 line_8 ≡ 97 ∷ 96 ∷ 38 ∷ 147 ∷ 216 ∷ 222 ∷ 116 ∷ 38 ∷ 65 ∷ 91 ∷ 208 ∷ 219 ∷ 172 ∷ 55 ∷ 29 ∷ 42 ∷ 152 ∷ 217 ∷ 222 ∷ 111 ∷ 37 ∷ 21 ∷ 72 ∷ 89 ∷ 219 ∷ 166 ∷ 50 ∷ 28 ∷ 44 ∷ 103 ∷ 62 ∷ 69 ∷ 105 ∷ 36 ∷ 20 ∷ 75 ∷ 87 ∷ 34 ∷ 123 ∷ 152 ∷ 28 ∷ 47 ∷ 106 ∷ 59 ∷ 73 ∷ 177 ∷ 104 ∷ 45 ∷ 78 ∷ 84 ∷ 32 ∷ 128 ∷ 148 ∷ 57 ∷ 41 ∷ 34 ∷ 57 ∷ 78 ∷ 182 ∷ 100 ∷ 45 ∷ 38 ∷ 29 ∷ 69 ∷ []
unfolding predict is_filtered angle inverse_angle u digits_up_to value_after read_u read_alignment
mode_4_1 = refl

pub mode_5_1 : predicted_by 5 1 3 line_8 ≡ 87 ∷ 118 ∷ 71 ∷ 57 ∷ 152 ∷ 216 ∷ 220 ∷ 178 ∷ 76 ∷ 46 ∷ 141 ∷ 215 ∷ 219 ∷ 189 ∷ 94 ∷ 38 ∷ 130 ∷ 215 ∷ 219 ∷ 200 ∷ 105 ∷ 39 ∷ 26 ∷ 42 ∷ 218 ∷ 211 ∷ 116 ∷ 41 ∷ 28 ∷ 36 ∷ 84 ∷ 89 ∷ 127 ∷ 42 ∷ 29 ∷ 30 ∷ 78 ∷ 94 ∷ 52 ∷ 69 ∷ 31 ∷ 25 ∷ 72 ∷ 99 ∷ 57 ∷ 59 ∷ 143 ∷ 152 ∷ 67 ∷ 104 ∷ 62 ∷ 49 ∷ 133 ∷ 161 ∷ 87 ∷ 45 ∷ 67 ∷ 39 ∷ 123 ∷ 170 ∷ 96 ∷ 46 ∷ 40 ∷ 34 ∷ []
unfolding predict is_filtered angle inverse_angle u digits_up_to value_after read_u read_alignment
mode_5_1 = refl

pub mode_6_1 : predicted_by 6 1 3 line_8 ≡ 77 ∷ 109 ∷ 104 ∷ 68 ∷ 41 ∷ 113 ∷ 186 ∷ 216 ∷ 87 ∷ 52 ∷ 74 ∷ 147 ∷ 214 ∷ 218 ∷ 221 ∷ 178 ∷ 108 ∷ 180 ∷ 216 ∷ 219 ∷ 216 ∷ 144 ∷ 72 ∷ 38 ∷ 217 ∷ 221 ∷ 183 ∷ 111 ∷ 43 ∷ 33 ∷ 23 ∷ 42 ∷ 150 ∷ 77 ∷ 39 ∷ 28 ∷ 22 ∷ 58 ∷ 95 ∷ 89 ∷ 34 ∷ 24 ∷ 39 ∷ 75 ∷ 107 ∷ 74 ∷ 42 ∷ 69 ∷ 56 ∷ 92 ∷ 92 ∷ 59 ∷ 34 ∷ 98 ∷ 162 ∷ 152 ∷ 77 ∷ 44 ∷ 64 ∷ 128 ∷ 183 ∷ 126 ∷ 70 ∷ 45 ∷ []
unfolding predict is_filtered angle inverse_angle u digits_up_to value_after read_u read_alignment
mode_6_1 = refl

pub mode_7_1 : predicted_by 7 1 3 line_8 ≡ 68 ∷ 89 ∷ 111 ∷ 112 ∷ 87 ∷ 63 ∷ 38 ∷ 80 ∷ 98 ∷ 74 ∷ 49 ∷ 57 ∷ 108 ∷ 158 ∷ 208 ∷ 216 ∷ 85 ∷ 136 ∷ 186 ∷ 215 ∷ 217 ∷ 220 ∷ 222 ∷ 178 ∷ 216 ∷ 219 ∷ 221 ∷ 200 ∷ 150 ∷ 100 ∷ 50 ∷ 38 ∷ 172 ∷ 122 ∷ 72 ∷ 41 ∷ 34 ∷ 27 ∷ 20 ∷ 42 ∷ 37 ∷ 30 ∷ 23 ∷ 30 ∷ 56 ∷ 81 ∷ 106 ∷ 89 ∷ 44 ∷ 70 ∷ 95 ∷ 99 ∷ 77 ∷ 54 ∷ 32 ∷ 69 ∷ 87 ∷ 64 ∷ 42 ∷ 49 ∷ 93 ∷ 138 ∷ 182 ∷ 152 ∷ []
unfolding predict is_filtered angle inverse_angle u digits_up_to value_after read_u read_alignment
mode_7_1 = refl

pub mode_8_1 : predicted_by 8 1 3 line_8 ≡ 58 ∷ 70 ∷ 82 ∷ 94 ∷ 106 ∷ 118 ∷ 115 ∷ 101 ∷ 109 ∷ 96 ∷ 82 ∷ 68 ∷ 54 ∷ 41 ∷ 52 ∷ 80 ∷ 63 ∷ 91 ∷ 119 ∷ 147 ∷ 175 ∷ 203 ∷ 215 ∷ 216 ∷ 215 ∷ 217 ∷ 218 ∷ 219 ∷ 220 ∷ 222 ∷ 205 ∷ 178 ∷ 194 ∷ 166 ∷ 139 ∷ 111 ∷ 83 ∷ 55 ∷ 42 ∷ 38 ∷ 40 ∷ 36 ∷ 32 ∷ 28 ∷ 24 ∷ 21 ∷ 27 ∷ 42 ∷ 33 ∷ 47 ∷ 61 ∷ 75 ∷ 89 ∷ 103 ∷ 102 ∷ 89 ∷ 97 ∷ 84 ∷ 72 ∷ 59 ∷ 47 ∷ 34 ∷ 44 ∷ 69 ∷ []
unfolding predict is_filtered angle inverse_angle u digits_up_to value_after read_u read_alignment
mode_8_1 = refl

pub mode_9_1 : predicted_by 9 1 3 line_8 ≡ 51 ∷ 56 ∷ 60 ∷ 65 ∷ 70 ∷ 75 ∷ 80 ∷ 85 ∷ 118 ∷ 112 ∷ 107 ∷ 101 ∷ 96 ∷ 90 ∷ 85 ∷ 79 ∷ 46 ∷ 57 ∷ 69 ∷ 80 ∷ 91 ∷ 102 ∷ 113 ∷ 125 ∷ 215 ∷ 215 ∷ 216 ∷ 216 ∷ 217 ∷ 217 ∷ 218 ∷ 218 ∷ 211 ∷ 200 ∷ 189 ∷ 178 ∷ 166 ∷ 155 ∷ 144 ∷ 133 ∷ 42 ∷ 41 ∷ 39 ∷ 38 ∷ 36 ∷ 35 ∷ 33 ∷ 32 ∷ 25 ∷ 30 ∷ 36 ∷ 42 ∷ 47 ∷ 53 ∷ 58 ∷ 64 ∷ 104 ∷ 99 ∷ 94 ∷ 89 ∷ 84 ∷ 79 ∷ 74 ∷ 69 ∷ []
unfolding predict is_filtered angle inverse_angle u digits_up_to value_after read_u read_alignment
mode_9_1 = refl

pub mode_10_1 : predicted_by 10 1 3 line_8 ≡ 46 ∷ 46 ∷ 46 ∷ 46 ∷ 46 ∷ 46 ∷ 46 ∷ 46 ∷ 123 ∷ 123 ∷ 123 ∷ 123 ∷ 123 ∷ 123 ∷ 123 ∷ 123 ∷ 35 ∷ 35 ∷ 35 ∷ 35 ∷ 35 ∷ 35 ∷ 35 ∷ 35 ∷ 214 ∷ 214 ∷ 214 ∷ 214 ∷ 214 ∷ 214 ∷ 214 ∷ 214 ∷ 222 ∷ 222 ∷ 222 ∷ 222 ∷ 222 ∷ 222 ∷ 222 ∷ 222 ∷ 44 ∷ 44 ∷ 44 ∷ 44 ∷ 44 ∷ 44 ∷ 44 ∷ 44 ∷ 19 ∷ 19 ∷ 19 ∷ 19 ∷ 19 ∷ 19 ∷ 19 ∷ 19 ∷ 109 ∷ 109 ∷ 109 ∷ 109 ∷ 109 ∷ 109 ∷ 109 ∷ 109 ∷ []
unfolding predict is_filtered angle inverse_angle u digits_up_to value_after read_u read_alignment
mode_10_1 = refl

pub mode_11_1 : predicted_by 11 1 3 line_8 ≡ 57 ∷ 67 ∷ 78 ∷ 89 ∷ 99 ∷ 110 ∷ 121 ∷ 132 ∷ 118 ∷ 113 ∷ 109 ∷ 104 ∷ 99 ∷ 94 ∷ 89 ∷ 85 ∷ 41 ∷ 46 ∷ 52 ∷ 57 ∷ 63 ∷ 68 ∷ 74 ∷ 79 ∷ 203 ∷ 192 ∷ 180 ∷ 169 ∷ 158 ∷ 147 ∷ 136 ∷ 125 ∷ 222 ∷ 221 ∷ 221 ∷ 220 ∷ 220 ∷ 219 ∷ 219 ∷ 218 ∷ 55 ∷ 66 ∷ 77 ∷ 89 ∷ 100 ∷ 111 ∷ 122 ∷ 133 ∷ 21 ∷ 22 ∷ 24 ∷ 25 ∷ 27 ∷ 28 ∷ 30 ∷ 32 ∷ 103 ∷ 98 ∷ 92 ∷ 87 ∷ 81 ∷ 75 ∷ 70 ∷ 64 ∷ []
unfolding predict is_filtered angle inverse_angle u digits_up_to value_after read_u read_alignment
mode_11_1 = refl

pub mode_12_1 : predicted_by 12 1 3 line_8 ≡ 73 ∷ 99 ∷ 126 ∷ 153 ∷ 180 ∷ 206 ∷ 199 ∷ 169 ∷ 111 ∷ 99 ∷ 87 ∷ 75 ∷ 63 ∷ 51 ∷ 62 ∷ 89 ∷ 49 ∷ 63 ∷ 76 ∷ 90 ∷ 104 ∷ 118 ∷ 116 ∷ 104 ∷ 186 ∷ 158 ∷ 130 ∷ 102 ∷ 74 ∷ 46 ∷ 43 ∷ 57 ∷ 221 ∷ 220 ∷ 218 ∷ 217 ∷ 216 ∷ 215 ∷ 197 ∷ 169 ∷ 72 ∷ 100 ∷ 127 ∷ 155 ∷ 183 ∷ 211 ∷ 221 ∷ 220 ∷ 23 ∷ 27 ∷ 31 ∷ 35 ∷ 39 ∷ 42 ∷ 61 ∷ 89 ∷ 95 ∷ 81 ∷ 67 ∷ 53 ∷ 39 ∷ 25 ∷ 21 ∷ 25 ∷ []
unfolding predict is_filtered angle inverse_angle u digits_up_to value_after read_u read_alignment
mode_12_1 = refl

pub mode_13_1 : predicted_by 13 1 3 line_8 ≡ 94 ∷ 142 ∷ 190 ∷ 194 ∷ 141 ∷ 89 ∷ 37 ∷ 52 ∷ 101 ∷ 80 ∷ 58 ∷ 67 ∷ 115 ∷ 164 ∷ 212 ∷ 171 ∷ 60 ∷ 85 ∷ 109 ∷ 113 ∷ 92 ∷ 70 ∷ 48 ∷ 89 ∷ 164 ∷ 113 ∷ 63 ∷ 46 ∷ 71 ∷ 96 ∷ 120 ∷ 104 ∷ 220 ∷ 218 ∷ 215 ∷ 192 ∷ 141 ∷ 91 ∷ 41 ∷ 57 ∷ 94 ∷ 144 ∷ 194 ∷ 221 ∷ 219 ∷ 217 ∷ 214 ∷ 169 ∷ 26 ∷ 33 ∷ 40 ∷ 66 ∷ 116 ∷ 166 ∷ 216 ∷ 220 ∷ 84 ∷ 58 ∷ 33 ∷ 22 ∷ 29 ∷ 36 ∷ 43 ∷ 89 ∷ []
unfolding predict is_filtered angle inverse_angle u digits_up_to value_after read_u read_alignment
mode_13_1 = refl

pub mode_14_1 : predicted_by 14 1 3 line_8 ≡ 115 ∷ 185 ∷ 183 ∷ 121 ∷ 67 ∷ 124 ∷ 181 ∷ 181 ∷ 92 ∷ 60 ∷ 83 ∷ 153 ∷ 212 ∷ 150 ∷ 87 ∷ 98 ∷ 71 ∷ 107 ∷ 106 ∷ 75 ∷ 51 ∷ 121 ∷ 190 ∷ 179 ∷ 141 ∷ 69 ∷ 54 ∷ 90 ∷ 121 ∷ 89 ∷ 58 ∷ 89 ∷ 219 ∷ 216 ∷ 175 ∷ 102 ∷ 38 ∷ 74 ∷ 109 ∷ 104 ∷ 116 ∷ 189 ∷ 220 ∷ 217 ∷ 208 ∷ 136 ∷ 63 ∷ 57 ∷ 29 ∷ 39 ∷ 83 ∷ 155 ∷ 222 ∷ 219 ∷ 215 ∷ 169 ∷ 72 ∷ 36 ∷ 24 ∷ 35 ∷ 50 ∷ 122 ∷ 194 ∷ 220 ∷ []
unfolding predict is_filtered angle inverse_angle u digits_up_to value_after read_u read_alignment
mode_14_1 = refl

pub mode_15_1 : predicted_by 15 1 3 line_8 ≡ 137 ∷ 207 ∷ 126 ∷ 59 ∷ 42 ∷ 30 ∷ 27 ∷ 25 ∷ 82 ∷ 57 ∷ 148 ∷ 198 ∷ 116 ∷ 57 ∷ 40 ∷ 30 ∷ 82 ∷ 118 ∷ 77 ∷ 67 ∷ 158 ∷ 188 ∷ 106 ∷ 55 ∷ 119 ∷ 41 ∷ 87 ∷ 113 ∷ 72 ∷ 78 ∷ 169 ∷ 179 ∷ 218 ∷ 203 ∷ 108 ∷ 46 ∷ 93 ∷ 109 ∷ 68 ∷ 89 ∷ 139 ∷ 222 ∷ 217 ∷ 192 ∷ 97 ∷ 52 ∷ 98 ∷ 104 ∷ 32 ∷ 55 ∷ 150 ∷ 221 ∷ 217 ∷ 180 ∷ 85 ∷ 57 ∷ 61 ∷ 21 ∷ 34 ∷ 66 ∷ 161 ∷ 221 ∷ 216 ∷ 169 ∷ []
unfolding predict is_filtered angle inverse_angle u digits_up_to value_after read_u read_alignment
mode_15_1 = refl

pub mode_16_1 : predicted_by 16 1 3 line_8 ≡ 158 ∷ 169 ∷ 68 ∷ 95 ∷ 139 ∷ 197 ∷ 97 ∷ 25 ∷ 72 ∷ 99 ∷ 212 ∷ 121 ∷ 77 ∷ 111 ∷ 167 ∷ 159 ∷ 93 ∷ 99 ∷ 48 ∷ 153 ∷ 174 ∷ 73 ∷ 93 ∷ 136 ∷ 97 ∷ 63 ∷ 120 ∷ 75 ∷ 94 ∷ 206 ∷ 126 ∷ 76 ∷ 217 ∷ 158 ∷ 41 ∷ 90 ∷ 101 ∷ 51 ∷ 148 ∷ 179 ∷ 161 ∷ 220 ∷ 214 ∷ 102 ∷ 60 ∷ 118 ∷ 77 ∷ 89 ∷ 35 ∷ 100 ∷ 216 ∷ 217 ∷ 164 ∷ 46 ∷ 87 ∷ 104 ∷ 50 ∷ 27 ∷ 43 ∷ 155 ∷ 220 ∷ 215 ∷ 108 ∷ 57 ∷ []
unfolding predict is_filtered angle inverse_angle u digits_up_to value_after read_u read_alignment
mode_16_1 = refl

pub mode_17_1 : predicted_by 17 1 3 line_8 ≡ 185 ∷ 100 ∷ 44 ∷ 55 ∷ 42 ∷ 182 ∷ 81 ∷ 69 ∷ 60 ∷ 153 ∷ 135 ∷ 38 ∷ 61 ∷ 35 ∷ 149 ∷ 114 ∷ 107 ∷ 75 ∷ 121 ∷ 170 ∷ 32 ∷ 59 ∷ 41 ∷ 117 ∷ 69 ∷ 90 ∷ 89 ∷ 89 ∷ 205 ∷ 53 ∷ 53 ∷ 47 ∷ 216 ∷ 102 ∷ 74 ∷ 104 ∷ 57 ∷ 196 ∷ 88 ∷ 47 ∷ 189 ∷ 217 ∷ 136 ∷ 57 ∷ 118 ∷ 56 ∷ 164 ∷ 124 ∷ 39 ∷ 155 ∷ 219 ∷ 169 ∷ 41 ∷ 112 ∷ 70 ∷ 132 ∷ 36 ∷ 35 ∷ 122 ∷ 220 ∷ 203 ∷ 57 ∷ 96 ∷ 85 ∷ []
unfolding predict is_filtered angle inverse_angle u digits_up_to value_after read_u read_alignment
mode_17_1 = refl

pub mode_18_1 : predicted_by 18 1 3 line_8 ≡ 128 ∷ 85 ∷ 68 ∷ 81 ∷ 95 ∷ 116 ∷ 92 ∷ 69 ∷ 108 ∷ 128 ∷ 85 ∷ 68 ∷ 81 ∷ 95 ∷ 116 ∷ 92 ∷ 82 ∷ 108 ∷ 128 ∷ 85 ∷ 68 ∷ 81 ∷ 95 ∷ 116 ∷ 102 ∷ 82 ∷ 108 ∷ 128 ∷ 85 ∷ 68 ∷ 81 ∷ 95 ∷ 171 ∷ 102 ∷ 82 ∷ 108 ∷ 128 ∷ 85 ∷ 68 ∷ 81 ∷ 176 ∷ 171 ∷ 102 ∷ 82 ∷ 108 ∷ 128 ∷ 85 ∷ 68 ∷ 82 ∷ 176 ∷ 171 ∷ 102 ∷ 82 ∷ 108 ∷ 128 ∷ 85 ∷ 48 ∷ 82 ∷ 176 ∷ 171 ∷ 102 ∷ 82 ∷ 108 ∷ 128 ∷ []
unfolding predict is_filtered angle inverse_angle u digits_up_to value_after read_u read_alignment
mode_18_1 = refl

pub mode_19_1 : predicted_by 19 1 3 line_8 ≡ 182 ∷ 36 ∷ 73 ∷ 98 ∷ 63 ∷ 170 ∷ 42 ∷ 96 ∷ 110 ∷ 147 ∷ 42 ∷ 82 ∷ 83 ∷ 96 ∷ 136 ∷ 58 ∷ 80 ∷ 142 ∷ 112 ∷ 49 ∷ 92 ∷ 67 ∷ 128 ∷ 103 ∷ 146 ∷ 65 ∷ 174 ∷ 77 ∷ 55 ∷ 101 ∷ 52 ∷ 160 ∷ 215 ∷ 129 ∷ 51 ∷ 206 ∷ 42 ∷ 61 ∷ 111 ∷ 36 ∷ 221 ∷ 203 ∷ 113 ∷ 67 ∷ 194 ∷ 34 ∷ 69 ∷ 104 ∷ 100 ∷ 220 ∷ 186 ∷ 99 ∷ 99 ∷ 159 ∷ 40 ∷ 79 ∷ 32 ∷ 133 ∷ 218 ∷ 169 ∷ 85 ∷ 132 ∷ 124 ∷ 47 ∷ []
unfolding predict is_filtered angle inverse_angle u digits_up_to value_after read_u read_alignment
mode_19_1 = refl

pub mode_20_1 : predicted_by 20 1 3 line_8 ≡ 153 ∷ 41 ∷ 81 ∷ 85 ∷ 90 ∷ 142 ∷ 55 ∷ 82 ∷ 188 ∷ 88 ∷ 53 ∷ 98 ∷ 57 ∷ 149 ∷ 81 ∷ 86 ∷ 126 ∷ 211 ∷ 31 ∷ 65 ∷ 111 ∷ 36 ∷ 197 ∷ 28 ∷ 68 ∷ 158 ∷ 147 ∷ 42 ∷ 82 ∷ 83 ∷ 96 ∷ 136 ∷ 88 ∷ 98 ∷ 191 ∷ 83 ∷ 54 ∷ 100 ∷ 54 ∷ 155 ∷ 210 ∷ 41 ∷ 129 ∷ 205 ∷ 32 ∷ 66 ∷ 109 ∷ 42 ∷ 116 ∷ 146 ∷ 71 ∷ 161 ∷ 141 ∷ 43 ∷ 84 ∷ 80 ∷ 60 ∷ 178 ∷ 82 ∷ 101 ∷ 194 ∷ 77 ∷ 55 ∷ 101 ∷ []
unfolding predict is_filtered angle inverse_angle u digits_up_to value_after read_u read_alignment
mode_20_1 = refl

pub mode_21_1 : predicted_by 21 1 3 line_8 ≡ 129 ∷ 45 ∷ 87 ∷ 75 ∷ 112 ∷ 120 ∷ 66 ∷ 71 ∷ 211 ∷ 42 ∷ 61 ∷ 111 ∷ 36 ∷ 192 ∷ 36 ∷ 108 ∷ 161 ∷ 141 ∷ 43 ∷ 84 ∷ 80 ∷ 101 ∷ 131 ∷ 61 ∷ 134 ∷ 205 ∷ 53 ∷ 59 ∷ 108 ∷ 41 ∷ 182 ∷ 47 ∷ 183 ∷ 155 ∷ 153 ∷ 41 ∷ 81 ∷ 85 ∷ 90 ∷ 142 ∷ 182 ∷ 140 ∷ 199 ∷ 65 ∷ 57 ∷ 104 ∷ 47 ∷ 171 ∷ 92 ∷ 188 ∷ 149 ∷ 164 ∷ 39 ∷ 77 ∷ 91 ∷ 79 ∷ 60 ∷ 172 ∷ 146 ∷ 194 ∷ 77 ∷ 55 ∷ 101 ∷ 52 ∷ []
unfolding predict is_filtered angle inverse_angle u digits_up_to value_after read_u read_alignment
mode_21_1 = refl

pub mode_22_1 : predicted_by 22 1 3 line_8 ≡ 106 ∷ 50 ∷ 93 ∷ 65 ∷ 133 ∷ 97 ∷ 77 ∷ 60 ∷ 182 ∷ 36 ∷ 73 ∷ 98 ∷ 63 ∷ 170 ∷ 42 ∷ 96 ∷ 196 ∷ 71 ∷ 56 ∷ 103 ∷ 49 ∷ 165 ∷ 64 ∷ 94 ∷ 158 ∷ 147 ∷ 42 ∷ 82 ∷ 83 ∷ 96 ∷ 136 ∷ 58 ∷ 126 ∷ 214 ∷ 36 ∷ 62 ∷ 112 ∷ 34 ∷ 198 ∷ 31 ∷ 166 ∷ 176 ∷ 112 ∷ 49 ∷ 92 ∷ 67 ∷ 128 ∷ 103 ∷ 207 ∷ 138 ∷ 188 ∷ 35 ∷ 71 ∷ 101 ∷ 58 ∷ 175 ∷ 171 ∷ 148 ∷ 194 ∷ 77 ∷ 55 ∷ 101 ∷ 52 ∷ 160 ∷ []
unfolding predict is_filtered angle inverse_angle u digits_up_to value_after read_u read_alignment
mode_22_1 = refl

pub mode_23_1 : predicted_by 23 1 3 line_8 ≡ 83 ∷ 54 ∷ 100 ∷ 54 ∷ 155 ∷ 75 ∷ 88 ∷ 48 ∷ 135 ∷ 44 ∷ 85 ∷ 78 ∷ 106 ∷ 125 ∷ 64 ∷ 74 ∷ 188 ∷ 35 ∷ 71 ∷ 101 ∷ 58 ∷ 175 ∷ 39 ∷ 99 ∷ 217 ∷ 53 ∷ 59 ∷ 108 ∷ 41 ∷ 182 ∷ 47 ∷ 102 ∷ 216 ∷ 106 ∷ 50 ∷ 93 ∷ 65 ∷ 133 ∷ 97 ∷ 77 ∷ 215 ∷ 159 ∷ 40 ∷ 79 ∷ 88 ∷ 85 ∷ 147 ∷ 53 ∷ 214 ∷ 211 ∷ 31 ∷ 65 ∷ 111 ∷ 36 ∷ 197 ∷ 28 ∷ 165 ∷ 216 ∷ 77 ∷ 55 ∷ 101 ∷ 52 ∷ 160 ∷ 70 ∷ []
unfolding predict is_filtered angle inverse_angle u digits_up_to value_after read_u read_alignment
mode_23_1 = refl

pub mode_24_1 : predicted_by 24 1 3 line_8 ≡ 59 ∷ 58 ∷ 106 ∷ 44 ∷ 176 ∷ 53 ∷ 99 ∷ 37 ∷ 88 ∷ 53 ∷ 98 ∷ 57 ∷ 149 ∷ 81 ∷ 86 ∷ 51 ∷ 118 ∷ 48 ∷ 90 ∷ 70 ∷ 122 ∷ 108 ∷ 72 ∷ 65 ∷ 147 ∷ 42 ∷ 82 ∷ 83 ∷ 96 ∷ 136 ∷ 58 ∷ 79 ∷ 176 ∷ 37 ∷ 74 ∷ 96 ∷ 69 ∷ 164 ∷ 44 ∷ 93 ∷ 205 ∷ 32 ∷ 66 ∷ 109 ∷ 42 ∷ 192 ∷ 31 ∷ 107 ∷ 201 ∷ 48 ∷ 60 ∷ 109 ∷ 39 ∷ 187 ∷ 42 ∷ 105 ∷ 174 ∷ 77 ∷ 55 ∷ 101 ∷ 52 ∷ 160 ∷ 70 ∷ 91 ∷ []
unfolding predict is_filtered angle inverse_angle u digits_up_to value_after read_u read_alignment
mode_24_1 = refl

pub mode_25_1 : predicted_by 25 1 3 line_8 ≡ 42 ∷ 61 ∷ 111 ∷ 36 ∷ 192 ∷ 36 ∷ 108 ∷ 29 ∷ 53 ∷ 59 ∷ 108 ∷ 41 ∷ 182 ∷ 47 ∷ 102 ∷ 34 ∷ 65 ∷ 57 ∷ 104 ∷ 47 ∷ 171 ∷ 58 ∷ 97 ∷ 40 ∷ 77 ∷ 55 ∷ 101 ∷ 52 ∷ 160 ∷ 70 ∷ 91 ∷ 46 ∷ 88 ∷ 53 ∷ 98 ∷ 57 ∷ 149 ∷ 81 ∷ 86 ∷ 51 ∷ 100 ∷ 51 ∷ 95 ∷ 62 ∷ 139 ∷ 92 ∷ 80 ∷ 57 ∷ 112 ∷ 49 ∷ 92 ∷ 67 ∷ 128 ∷ 103 ∷ 75 ∷ 62 ∷ 124 ∷ 47 ∷ 89 ∷ 73 ∷ 117 ∷ 114 ∷ 69 ∷ 68 ∷ []
unfolding predict is_filtered angle inverse_angle u digits_up_to value_after read_u read_alignment
mode_25_1 = refl

pub mode_26_1 : predicted_by 26 1 3 line_8 ≡ 30 ∷ 63 ∷ 114 ∷ 31 ∷ 203 ∷ 25 ∷ 113 ∷ 23 ∷ 30 ∷ 63 ∷ 114 ∷ 31 ∷ 203 ∷ 25 ∷ 113 ∷ 23 ∷ 30 ∷ 63 ∷ 114 ∷ 31 ∷ 203 ∷ 25 ∷ 113 ∷ 23 ∷ 30 ∷ 63 ∷ 114 ∷ 31 ∷ 203 ∷ 25 ∷ 113 ∷ 23 ∷ 30 ∷ 63 ∷ 114 ∷ 31 ∷ 203 ∷ 25 ∷ 113 ∷ 23 ∷ 30 ∷ 63 ∷ 114 ∷ 31 ∷ 203 ∷ 25 ∷ 113 ∷ 23 ∷ 30 ∷ 63 ∷ 114 ∷ 31 ∷ 203 ∷ 25 ∷ 113 ∷ 23 ∷ 30 ∷ 63 ∷ 114 ∷ 31 ∷ 203 ∷ 25 ∷ 113 ∷ 23 ∷ []
unfolding predict is_filtered angle inverse_angle u digits_up_to value_after read_u read_alignment
mode_26_1 = refl

pub mode_27_1 : predicted_by 27 1 3 line_8 ≡ 32 ∷ 66 ∷ 109 ∷ 42 ∷ 192 ∷ 31 ∷ 107 ∷ 26 ∷ 34 ∷ 69 ∷ 104 ∷ 53 ∷ 181 ∷ 36 ∷ 102 ∷ 29 ∷ 36 ∷ 73 ∷ 98 ∷ 63 ∷ 170 ∷ 42 ∷ 96 ∷ 31 ∷ 38 ∷ 76 ∷ 93 ∷ 74 ∷ 159 ∷ 47 ∷ 91 ∷ 34 ∷ 40 ∷ 79 ∷ 88 ∷ 85 ∷ 147 ∷ 53 ∷ 85 ∷ 37 ∷ 42 ∷ 82 ∷ 83 ∷ 96 ∷ 136 ∷ 58 ∷ 79 ∷ 40 ∷ 44 ∷ 85 ∷ 78 ∷ 106 ∷ 125 ∷ 64 ∷ 74 ∷ 43 ∷ 47 ∷ 89 ∷ 73 ∷ 117 ∷ 114 ∷ 69 ∷ 68 ∷ 46 ∷ []
unfolding predict is_filtered angle inverse_angle u digits_up_to value_after read_u read_alignment
mode_27_1 = refl

pub mode_28_1 : predicted_by 28 1 3 line_8 ≡ 35 ∷ 71 ∷ 101 ∷ 58 ∷ 175 ∷ 39 ∷ 99 ∷ 30 ∷ 40 ∷ 79 ∷ 88 ∷ 85 ∷ 147 ∷ 53 ∷ 85 ∷ 37 ∷ 45 ∷ 87 ∷ 75 ∷ 112 ∷ 120 ∷ 66 ∷ 71 ∷ 44 ∷ 51 ∷ 95 ∷ 62 ∷ 139 ∷ 92 ∷ 80 ∷ 57 ∷ 51 ∷ 56 ∷ 103 ∷ 49 ∷ 165 ∷ 64 ∷ 94 ∷ 43 ∷ 58 ∷ 61 ∷ 111 ∷ 36 ∷ 192 ∷ 36 ∷ 108 ∷ 29 ∷ 65 ∷ 68 ∷ 106 ∷ 47 ∷ 186 ∷ 33 ∷ 105 ∷ 27 ∷ 76 ∷ 76 ∷ 93 ∷ 74 ∷ 159 ∷ 47 ∷ 91 ∷ 34 ∷ 88 ∷ []
unfolding predict is_filtered angle inverse_angle u digits_up_to value_after read_u read_alignment
mode_28_1 = refl

pub mode_29_1 : predicted_by 29 1 3 line_8 ≡ 39 ∷ 77 ∷ 91 ∷ 79 ∷ 153 ∷ 50 ∷ 88 ∷ 36 ∷ 49 ∷ 92 ∷ 67 ∷ 128 ∷ 103 ∷ 75 ∷ 62 ∷ 48 ∷ 58 ∷ 106 ∷ 44 ∷ 176 ∷ 53 ∷ 99 ∷ 37 ∷ 61 ∷ 69 ∷ 104 ∷ 53 ∷ 181 ∷ 36 ∷ 102 ∷ 29 ∷ 78 ∷ 84 ∷ 80 ∷ 101 ∷ 131 ∷ 61 ∷ 76 ∷ 41 ∷ 101 ∷ 98 ∷ 57 ∷ 149 ∷ 81 ∷ 86 ∷ 51 ∷ 54 ∷ 123 ∷ 112 ∷ 34 ∷ 198 ∷ 31 ∷ 110 ∷ 26 ∷ 67 ∷ 146 ∷ 93 ∷ 74 ∷ 159 ∷ 47 ∷ 91 ∷ 34 ∷ 88 ∷ 165 ∷ []
unfolding predict is_filtered angle inverse_angle u digits_up_to value_after read_u read_alignment
mode_29_1 = refl

pub mode_30_1 : predicted_by 30 1 3 line_8 ≡ 43 ∷ 84 ∷ 80 ∷ 101 ∷ 131 ∷ 61 ∷ 76 ∷ 41 ∷ 57 ∷ 104 ∷ 47 ∷ 171 ∷ 58 ∷ 97 ∷ 40 ∷ 60 ∷ 74 ∷ 96 ∷ 69 ∷ 164 ∷ 44 ∷ 93 ∷ 33 ∷ 86 ∷ 95 ∷ 62 ∷ 139 ∷ 92 ∷ 80 ∷ 57 ∷ 51 ∷ 118 ∷ 111 ∷ 36 ∷ 197 ∷ 28 ∷ 110 ∷ 24 ∷ 71 ∷ 150 ∷ 78 ∷ 106 ∷ 125 ∷ 64 ∷ 74 ∷ 43 ∷ 103 ∷ 177 ∷ 44 ∷ 176 ∷ 53 ∷ 99 ∷ 37 ∷ 61 ∷ 136 ∷ 204 ∷ 74 ∷ 159 ∷ 47 ∷ 91 ∷ 34 ∷ 88 ∷ 165 ∷ 179 ∷ []
unfolding predict is_filtered angle inverse_angle u digits_up_to value_after read_u read_alignment
mode_30_1 = refl

pub mode_31_1 : predicted_by 31 1 3 line_8 ≡ 48 ∷ 90 ∷ 70 ∷ 122 ∷ 108 ∷ 72 ∷ 65 ∷ 47 ∷ 66 ∷ 109 ∷ 42 ∷ 192 ∷ 31 ∷ 107 ∷ 26 ∷ 73 ∷ 93 ∷ 65 ∷ 133 ∷ 97 ∷ 77 ∷ 60 ∷ 50 ∷ 116 ∷ 104 ∷ 53 ∷ 181 ∷ 36 ∷ 102 ∷ 29 ∷ 78 ∷ 156 ∷ 60 ∷ 144 ∷ 86 ∷ 83 ∷ 54 ∷ 53 ∷ 121 ∷ 191 ∷ 63 ∷ 170 ∷ 42 ∷ 96 ∷ 31 ∷ 83 ∷ 160 ∷ 188 ∷ 155 ∷ 75 ∷ 88 ∷ 48 ∷ 55 ∷ 126 ∷ 195 ∷ 113 ∷ 159 ∷ 47 ∷ 91 ∷ 34 ∷ 88 ∷ 165 ∷ 179 ∷ 70 ∷ []
unfolding predict is_filtered angle inverse_angle u digits_up_to value_after read_u read_alignment
mode_31_1 = refl

pub mode_32_1 : predicted_by 32 1 3 line_8 ≡ 52 ∷ 96 ∷ 60 ∷ 144 ∷ 86 ∷ 83 ∷ 54 ∷ 53 ∷ 79 ∷ 88 ∷ 85 ∷ 147 ∷ 53 ∷ 85 ∷ 37 ∷ 93 ∷ 112 ∷ 34 ∷ 198 ∷ 31 ∷ 110 ∷ 26 ∷ 67 ∷ 146 ∷ 62 ∷ 139 ∷ 92 ∷ 80 ∷ 57 ∷ 51 ∷ 118 ∷ 189 ∷ 79 ∷ 153 ∷ 50 ∷ 88 ∷ 36 ∷ 91 ∷ 167 ∷ 174 ∷ 192 ∷ 36 ∷ 108 ∷ 29 ∷ 65 ∷ 143 ∷ 210 ∷ 82 ∷ 97 ∷ 77 ∷ 60 ∷ 50 ∷ 116 ∷ 187 ∷ 130 ∷ 65 ∷ 47 ∷ 91 ∷ 34 ∷ 88 ∷ 165 ∷ 179 ∷ 70 ∷ 84 ∷ []
unfolding predict is_filtered angle inverse_angle u digits_up_to value_after read_u read_alignment
mode_32_1 = refl

pub mode_33_1 : predicted_by 33 1 3 line_8 ≡ 57 ∷ 104 ∷ 47 ∷ 171 ∷ 58 ∷ 97 ∷ 40 ∷ 60 ∷ 95 ∷ 62 ∷ 139 ∷ 92 ∷ 80 ∷ 57 ∷ 51 ∷ 118 ∷ 78 ∷ 106 ∷ 125 ∷ 64 ∷ 74 ∷ 43 ∷ 103 ∷ 177 ∷ 74 ∷ 159 ∷ 47 ∷ 91 ∷ 34 ∷ 88 ∷ 165 ∷ 179 ∷ 192 ∷ 31 ∷ 107 ∷ 26 ∷ 73 ∷ 152 ∷ 205 ∷ 72 ∷ 47 ∷ 102 ∷ 34 ∷ 62 ∷ 138 ∷ 206 ∷ 91 ∷ 62 ∷ 86 ∷ 51 ∷ 54 ∷ 123 ∷ 193 ∷ 117 ∷ 64 ∷ 127 ∷ 68 ∷ 46 ∷ 108 ∷ 181 ∷ 144 ∷ 67 ∷ 109 ∷ 125 ∷ []
unfolding predict is_filtered angle inverse_angle u digits_up_to value_after read_u read_alignment
mode_33_1 = refl

pub mode_34_1 : predicted_by 34 1 3 line_8 ≡ 68 ∷ 81 ∷ 95 ∷ 116 ∷ 92 ∷ 69 ∷ 57 ∷ 77 ∷ 81 ∷ 95 ∷ 116 ∷ 92 ∷ 69 ∷ 57 ∷ 77 ∷ 145 ∷ 95 ∷ 116 ∷ 92 ∷ 69 ∷ 57 ∷ 77 ∷ 145 ∷ 162 ∷ 116 ∷ 92 ∷ 69 ∷ 57 ∷ 77 ∷ 145 ∷ 162 ∷ 105 ∷ 92 ∷ 69 ∷ 57 ∷ 77 ∷ 145 ∷ 162 ∷ 105 ∷ 88 ∷ 69 ∷ 57 ∷ 77 ∷ 145 ∷ 162 ∷ 105 ∷ 88 ∷ 117 ∷ 57 ∷ 77 ∷ 145 ∷ 162 ∷ 105 ∷ 88 ∷ 117 ∷ 98 ∷ 77 ∷ 145 ∷ 162 ∷ 105 ∷ 88 ∷ 117 ∷ 98 ∷ 52 ∷ []
unfolding predict is_filtered angle inverse_angle u digits_up_to value_after read_u read_alignment
mode_34_1 = refl

abbrev line_16 : List ℕ
line_16 = 96 ∷ 190 ∷ 49 ∷ 32 ∷ 30 ∷ 105 ∷ 254 ∷ 218 ∷ 160 ∷ 238 ∷ 232 ∷ 185 ∷ 153 ∷ 127 ∷ 92 ∷ 124 ∷ 41 ∷ 153 ∷ 253 ∷ 175 ∷ 229 ∷ 147 ∷ 37 ∷ 60 ∷ 214 ∷ 84 ∷ 175 ∷ 77 ∷ 250 ∷ 215 ∷ 20 ∷ 39 ∷ 160 ∷ 174 ∷ 179 ∷ 254 ∷ 233 ∷ 35 ∷ 47 ∷ 138 ∷ 242 ∷ 33 ∷ 31 ∷ 158 ∷ 228 ∷ 145 ∷ 197 ∷ 177 ∷ 11 ∷ 236 ∷ 181 ∷ 86 ∷ 59 ∷ 252 ∷ 30 ∷ 111 ∷ 147 ∷ 66 ∷ 126 ∷ 203 ∷ 200 ∷ 254 ∷ 41 ∷ 85 ∷ 229 ∷ []

pub mode16_0 : predicted_by 0 0 4 line_16 ≡ 119 ∷ 134 ∷ 153 ∷ 137 ∷ 93 ∷ 86 ∷ 124 ∷ 138 ∷ 104 ∷ 97 ∷ 138 ∷ 162 ∷ 160 ∷ 164 ∷ 149 ∷ 137 ∷ 121 ∷ 135 ∷ 152 ∷ 137 ∷ 96 ∷ 90 ∷ 125 ∷ 138 ∷ 106 ∷ 99 ∷ 138 ∷ 161 ∷ 159 ∷ 162 ∷ 148 ∷ 137 ∷ 166 ∷ 176 ∷ 189 ∷ 172 ∷ 131 ∷ 122 ∷ 152 ∷ 161 ∷ 128 ∷ 119 ∷ 152 ∷ 170 ∷ 165 ∷ 165 ∷ 149 ∷ 136 ∷ 174 ∷ 183 ∷ 194 ∷ 178 ∷ 139 ∷ 130 ∷ 157 ∷ 164 ∷ 134 ∷ 125 ∷ 154 ∷ 170 ∷ 165 ∷ 164 ∷ 149 ∷ 136 ∷ 147 ∷ 156 ∷ 168 ∷ 155 ∷ 121 ∷ 114 ∷ 140 ∷ 149 ∷ 122 ∷ 116 ∷ 144 ∷ 161 ∷ 157 ∷ 158 ∷ 146 ∷ 135 ∷ 137 ∷ 146 ∷ 157 ∷ 146 ∷ 115 ∷ 110 ∷ 134 ∷ 143 ∷ 119 ∷ 113 ∷ 140 ∷ 155 ∷ 153 ∷ 154 ∷ 144 ∷ 135 ∷ 140 ∷ 147 ∷ 158 ∷ 147 ∷ 119 ∷ 114 ∷ 136 ∷ 143 ∷ 122 ∷ 116 ∷ 140 ∷ 154 ∷ 152 ∷ 152 ∷ 143 ∷ 134 ∷ 139 ∷ 146 ∷ 155 ∷ 145 ∷ 121 ∷ 116 ∷ 136 ∷ 142 ∷ 123 ∷ 118 ∷ 139 ∷ 151 ∷ 149 ∷ 150 ∷ 141 ∷ 134 ∷ 113 ∷ 121 ∷ 130 ∷ 124 ∷ 104 ∷ 102 ∷ 120 ∷ 127 ∷ 112 ∷ 110 ∷ 130 ∷ 142 ∷ 142 ∷ 144 ∷ 138 ∷ 134 ∷ 100 ∷ 108 ∷ 117 ∷ 112 ∷ 96 ∷ 95 ∷ 112 ∷ 119 ∷ 108 ∷ 107 ∷ 125 ∷ 136 ∷ 137 ∷ 140 ∷ 136 ∷ 133 ∷ 130 ∷ 135 ∷ 141 ∷ 135 ∷ 120 ∷ 118 ∷ 130 ∷ 135 ∷ 123 ∷ 121 ∷ 134 ∷ 142 ∷ 141 ∷ 142 ∷ 137 ∷ 133 ∷ 154 ∷ 156 ∷ 159 ∷ 153 ∷ 140 ∷ 136 ∷ 144 ∷ 146 ∷ 136 ∷ 132 ∷ 141 ∷ 146 ∷ 144 ∷ 143 ∷ 137 ∷ 132 ∷ 157 ∷ 158 ∷ 160 ∷ 155 ∷ 144 ∷ 141 ∷ 147 ∷ 147 ∷ 139 ∷ 135 ∷ 142 ∷ 145 ∷ 142 ∷ 141 ∷ 136 ∷ 132 ∷ 155 ∷ 156 ∷ 156 ∷ 153 ∷ 145 ∷ 142 ∷ 145 ∷ 146 ∷ 139 ∷ 137 ∷ 140 ∷ 142 ∷ 140 ∷ 138 ∷ 135 ∷ 131 ∷ 125 ∷ 127 ∷ 128 ∷ 127 ∷ 125 ∷ 125 ∷ 127 ∷ 129 ∷ 127 ∷ 127 ∷ 130 ∷ 131 ∷ 132 ∷ 132 ∷ 131 ∷ 131 ∷ 95 ∷ 97 ∷ 100 ∷ 102 ∷ 104 ∷ 107 ∷ 109 ∷ 112 ∷ 114 ∷ 116 ∷ 119 ∷ 121 ∷ 123 ∷ 126 ∷ 128 ∷ 131 ∷ []
unfolding predict is_filtered angle inverse_angle u digits_up_to value_after read_u read_alignment
mode16_0 = refl

pub mode16_1 : predicted_by 1 0 4 line_16 ≡ 123 ∷ 149 ∷ 168 ∷ 163 ∷ 113 ∷ 116 ∷ 139 ∷ 165 ∷ 113 ∷ 112 ∷ 144 ∷ 161 ∷ 141 ∷ 154 ∷ 149 ∷ 107 ∷ 109 ∷ 139 ∷ 139 ∷ 139 ∷ 139 ∷ 139 ∷ 139 ∷ 139 ∷ 139 ∷ 139 ∷ 139 ∷ 139 ∷ 139 ∷ 139 ∷ 139 ∷ 139 ∷ 158 ∷ 139 ∷ 139 ∷ 139 ∷ 139 ∷ 139 ∷ 139 ∷ 139 ∷ 139 ∷ 139 ∷ 139 ∷ 139 ∷ 139 ∷ 139 ∷ 139 ∷ 139 ∷ 167 ∷ 139 ∷ 139 ∷ 139 ∷ 139 ∷ 139 ∷ 139 ∷ 139 ∷ 139 ∷ 139 ∷ 139 ∷ 139 ∷ 139 ∷ 139 ∷ 139 ∷ 139 ∷ 124 ∷ 139 ∷ 139 ∷ 139 ∷ 139 ∷ 139 ∷ 139 ∷ 139 ∷ 139 ∷ 139 ∷ 139 ∷ 139 ∷ 139 ∷ 139 ∷ 139 ∷ 139 ∷ 148 ∷ 139 ∷ 139 ∷ 139 ∷ 139 ∷ 139 ∷ 139 ∷ 139 ∷ 139 ∷ 139 ∷ 139 ∷ 139 ∷ 139 ∷ 139 ∷ 139 ∷ 139 ∷ 125 ∷ 139 ∷ 139 ∷ 139 ∷ 139 ∷ 139 ∷ 139 ∷ 139 ∷ 139 ∷ 139 ∷ 139 ∷ 139 ∷ 139 ∷ 139 ∷ 139 ∷ 139 ∷ 158 ∷ 139 ∷ 139 ∷ 139 ∷ 139 ∷ 139 ∷ 139 ∷ 139 ∷ 139 ∷ 139 ∷ 139 ∷ 139 ∷ 139 ∷ 139 ∷ 139 ∷ 139 ∷ 119 ∷ 139 ∷ 139 ∷ 139 ∷ 139 ∷ 139 ∷ 139 ∷ 139 ∷ 139 ∷ 139 ∷ 139 ∷ 139 ∷ 139 ∷ 139 ∷ 139 ∷ 139 ∷ 114 ∷ 139 ∷ 139 ∷ 139 ∷ 139 ∷ 139 ∷ 139 ∷ 139 ∷ 139 ∷ 139 ∷ 139 ∷ 139 ∷ 139 ∷ 139 ∷ 139 ∷ 139 ∷ 141 ∷ 139 ∷ 139 ∷ 139 ∷ 139 ∷ 139 ∷ 139 ∷ 139 ∷ 139 ∷ 139 ∷ 139 ∷ 139 ∷ 139 ∷ 139 ∷ 139 ∷ 139 ∷ 162 ∷ 139 ∷ 139 ∷ 139 ∷ 139 ∷ 139 ∷ 139 ∷ 139 ∷ 139 ∷ 139 ∷ 139 ∷ 139 ∷ 139 ∷ 139 ∷ 139 ∷ 139 ∷ 148 ∷ 139 ∷ 139 ∷ 139 ∷ 139 ∷ 139 ∷ 139 ∷ 139 ∷ 139 ∷ 139 ∷ 139 ∷ 139 ∷ 139 ∷ 139 ∷ 139 ∷ 139 ∷ 168 ∷ 139 ∷ 139 ∷ 139 ∷ 139 ∷ 139 ∷ 139 ∷ 139 ∷ 139 ∷ 139 ∷ 139 ∷ 139 ∷ 139 ∷ 139 ∷ 139 ∷ 139 ∷ 143 ∷ 139 ∷ 139 ∷ 139 ∷ 139 ∷ 139 ∷ 139 ∷ 139 ∷ 139 ∷ 139 ∷ 139 ∷ 139 ∷ 139 ∷ 139 ∷ 139 ∷ 139 ∷ 115 ∷ 139 ∷ 139 ∷ 139 ∷ 139 ∷ 139 ∷ 139 ∷ 139 ∷ 139 ∷ 139 ∷ 139 ∷ 139 ∷ 139 ∷ 139 ∷ 139 ∷ 139 ∷ []
unfolding predict is_filtered angle inverse_angle u digits_up_to value_after read_u read_alignment
mode16_1 = refl

pub mode16_2 : predicted_by 2 0 4 line_16 ≡ 74 ∷ 175 ∷ 198 ∷ 145 ∷ 128 ∷ 139 ∷ 143 ∷ 93 ∷ 70 ∷ 140 ∷ 195 ∷ 208 ∷ 209 ∷ 150 ∷ 90 ∷ 95 ∷ 175 ∷ 198 ∷ 145 ∷ 128 ∷ 139 ∷ 143 ∷ 93 ∷ 70 ∷ 140 ∷ 195 ∷ 208 ∷ 209 ∷ 150 ∷ 90 ∷ 95 ∷ 109 ∷ 198 ∷ 145 ∷ 128 ∷ 139 ∷ 143 ∷ 93 ∷ 70 ∷ 140 ∷ 195 ∷ 208 ∷ 209 ∷ 150 ∷ 90 ∷ 95 ∷ 109 ∷ 125 ∷ 145 ∷ 128 ∷ 139 ∷ 143 ∷ 93 ∷ 70 ∷ 140 ∷ 195 ∷ 208 ∷ 209 ∷ 150 ∷ 90 ∷ 95 ∷ 109 ∷ 125 ∷ 155 ∷ 128 ∷ 139 ∷ 143 ∷ 93 ∷ 70 ∷ 140 ∷ 195 ∷ 208 ∷ 209 ∷ 150 ∷ 90 ∷ 95 ∷ 109 ∷ 125 ∷ 155 ∷ 189 ∷ 139 ∷ 143 ∷ 93 ∷ 70 ∷ 140 ∷ 195 ∷ 208 ∷ 209 ∷ 150 ∷ 90 ∷ 95 ∷ 109 ∷ 125 ∷ 155 ∷ 189 ∷ 222 ∷ 143 ∷ 93 ∷ 70 ∷ 140 ∷ 195 ∷ 208 ∷ 209 ∷ 150 ∷ 90 ∷ 95 ∷ 109 ∷ 125 ∷ 155 ∷ 189 ∷ 222 ∷ 217 ∷ 93 ∷ 70 ∷ 140 ∷ 195 ∷ 208 ∷ 209 ∷ 150 ∷ 90 ∷ 95 ∷ 109 ∷ 125 ∷ 155 ∷ 189 ∷ 222 ∷ 217 ∷ 194 ∷ 70 ∷ 140 ∷ 195 ∷ 208 ∷ 209 ∷ 150 ∷ 90 ∷ 95 ∷ 109 ∷ 125 ∷ 155 ∷ 189 ∷ 222 ∷ 217 ∷ 194 ∷ 213 ∷ 140 ∷ 195 ∷ 208 ∷ 209 ∷ 150 ∷ 90 ∷ 95 ∷ 109 ∷ 125 ∷ 155 ∷ 189 ∷ 222 ∷ 217 ∷ 194 ∷ 213 ∷ 208 ∷ 195 ∷ 208 ∷ 209 ∷ 150 ∷ 90 ∷ 95 ∷ 109 ∷ 125 ∷ 155 ∷ 189 ∷ 222 ∷ 217 ∷ 194 ∷ 213 ∷ 208 ∷ 124 ∷ 208 ∷ 209 ∷ 150 ∷ 90 ∷ 95 ∷ 109 ∷ 125 ∷ 155 ∷ 189 ∷ 222 ∷ 217 ∷ 194 ∷ 213 ∷ 208 ∷ 124 ∷ 49 ∷ 209 ∷ 150 ∷ 90 ∷ 95 ∷ 109 ∷ 125 ∷ 155 ∷ 189 ∷ 222 ∷ 217 ∷ 194 ∷ 213 ∷ 208 ∷ 124 ∷ 49 ∷ 36 ∷ 150 ∷ 90 ∷ 95 ∷ 109 ∷ 125 ∷ 155 ∷ 189 ∷ 222 ∷ 217 ∷ 194 ∷ 213 ∷ 208 ∷ 124 ∷ 49 ∷ 36 ∷ 80 ∷ 90 ∷ 95 ∷ 109 ∷ 125 ∷ 155 ∷ 189 ∷ 222 ∷ 217 ∷ 194 ∷ 213 ∷ 208 ∷ 124 ∷ 49 ∷ 36 ∷ 80 ∷ 131 ∷ 95 ∷ 109 ∷ 125 ∷ 155 ∷ 189 ∷ 222 ∷ 217 ∷ 194 ∷ 213 ∷ 208 ∷ 124 ∷ 49 ∷ 36 ∷ 80 ∷ 131 ∷ 96 ∷ []
unfolding predict is_filtered angle inverse_angle u digits_up_to value_after read_u read_alignment
mode16_2 = refl

pub mode16_10 : predicted_by 10 0 4 line_16 ≡ 46 ∷ 48 ∷ 86 ∷ 75 ∷ 0 ∷ 0 ∷ 28 ∷ 80 ∷ 0 ∷ 0 ∷ 38 ∷ 73 ∷ 31 ∷ 57 ∷ 47 ∷ 0 ∷ 20 ∷ 20 ∷ 20 ∷ 20 ∷ 20 ∷ 20 ∷ 20 ∷ 20 ∷ 20 ∷ 20 ∷ 20 ∷ 20 ∷ 20 ∷ 20 ∷ 20 ∷ 20 ∷ 215 ∷ 215 ∷ 215 ∷ 215 ∷ 215 ∷ 215 ∷ 215 ∷ 215 ∷ 215 ∷ 215 ∷ 215 ∷ 215 ∷ 215 ∷ 215 ∷ 215 ∷ 215 ∷ 250 ∷ 250 ∷ 250 ∷ 250 ∷ 250 ∷ 250 ∷ 250 ∷ 250 ∷ 250 ∷ 250 ∷ 250 ∷ 250 ∷ 250 ∷ 250 ∷ 250 ∷ 250 ∷ 77 ∷ 77 ∷ 77 ∷ 77 ∷ 77 ∷ 77 ∷ 77 ∷ 77 ∷ 77 ∷ 77 ∷ 77 ∷ 77 ∷ 77 ∷ 77 ∷ 77 ∷ 77 ∷ 175 ∷ 175 ∷ 175 ∷ 175 ∷ 175 ∷ 175 ∷ 175 ∷ 175 ∷ 175 ∷ 175 ∷ 175 ∷ 175 ∷ 175 ∷ 175 ∷ 175 ∷ 175 ∷ 84 ∷ 84 ∷ 84 ∷ 84 ∷ 84 ∷ 84 ∷ 84 ∷ 84 ∷ 84 ∷ 84 ∷ 84 ∷ 84 ∷ 84 ∷ 84 ∷ 84 ∷ 84 ∷ 214 ∷ 214 ∷ 214 ∷ 214 ∷ 214 ∷ 214 ∷ 214 ∷ 214 ∷ 214 ∷ 214 ∷ 214 ∷ 214 ∷ 214 ∷ 214 ∷ 214 ∷ 214 ∷ 60 ∷ 60 ∷ 60 ∷ 60 ∷ 60 ∷ 60 ∷ 60 ∷ 60 ∷ 60 ∷ 60 ∷ 60 ∷ 60 ∷ 60 ∷ 60 ∷ 60 ∷ 60 ∷ 37 ∷ 37 ∷ 37 ∷ 37 ∷ 37 ∷ 37 ∷ 37 ∷ 37 ∷ 37 ∷ 37 ∷ 37 ∷ 37 ∷ 37 ∷ 37 ∷ 37 ∷ 37 ∷ 147 ∷ 147 ∷ 147 ∷ 147 ∷ 147 ∷ 147 ∷ 147 ∷ 147 ∷ 147 ∷ 147 ∷ 147 ∷ 147 ∷ 147 ∷ 147 ∷ 147 ∷ 147 ∷ 229 ∷ 229 ∷ 229 ∷ 229 ∷ 229 ∷ 229 ∷ 229 ∷ 229 ∷ 229 ∷ 229 ∷ 229 ∷ 229 ∷ 229 ∷ 229 ∷ 229 ∷ 229 ∷ 175 ∷ 175 ∷ 175 ∷ 175 ∷ 175 ∷ 175 ∷ 175 ∷ 175 ∷ 175 ∷ 175 ∷ 175 ∷ 175 ∷ 175 ∷ 175 ∷ 175 ∷ 175 ∷ 253 ∷ 253 ∷ 253 ∷ 253 ∷ 253 ∷ 253 ∷ 253 ∷ 253 ∷ 253 ∷ 253 ∷ 253 ∷ 253 ∷ 253 ∷ 253 ∷ 253 ∷ 253 ∷ 153 ∷ 153 ∷ 153 ∷ 153 ∷ 153 ∷ 153 ∷ 153 ∷ 153 ∷ 153 ∷ 153 ∷ 153 ∷ 153 ∷ 153 ∷ 153 ∷ 153 ∷ 153 ∷ 41 ∷ 41 ∷ 41 ∷ 41 ∷ 41 ∷ 41 ∷ 41 ∷ 41 ∷ 41 ∷ 41 ∷ 41 ∷ 41 ∷ 41 ∷ 41 ∷ 41 ∷ 41 ∷ []
unfolding predict is_filtered angle inverse_angle u digits_up_to value_after read_u read_alignment
mode16_10 = refl

pub mode16_12 : predicted_by 12 0 4 line_16 ≡ 76 ∷ 86 ∷ 97 ∷ 108 ∷ 118 ∷ 129 ∷ 127 ∷ 117 ∷ 106 ∷ 96 ∷ 86 ∷ 75 ∷ 71 ∷ 88 ∷ 106 ∷ 123 ∷ 73 ∷ 71 ∷ 70 ∷ 68 ∷ 67 ∷ 66 ∷ 71 ∷ 82 ∷ 93 ∷ 103 ∷ 114 ∷ 125 ∷ 131 ∷ 121 ∷ 110 ∷ 100 ∷ 159 ∷ 143 ∷ 128 ∷ 112 ∷ 96 ∷ 80 ∷ 73 ∷ 72 ∷ 70 ∷ 69 ∷ 68 ∷ 66 ∷ 67 ∷ 78 ∷ 88 ∷ 99 ∷ 194 ∷ 191 ∷ 187 ∷ 184 ∷ 180 ∷ 176 ∷ 166 ∷ 150 ∷ 134 ∷ 118 ∷ 102 ∷ 87 ∷ 74 ∷ 72 ∷ 71 ∷ 70 ∷ 153 ∷ 162 ∷ 170 ∷ 178 ∷ 186 ∷ 195 ∷ 196 ∷ 192 ∷ 189 ∷ 185 ∷ 181 ∷ 178 ∷ 172 ∷ 156 ∷ 140 ∷ 125 ∷ 131 ∷ 133 ∷ 136 ∷ 139 ∷ 141 ∷ 144 ∷ 150 ∷ 158 ∷ 167 ∷ 175 ∷ 183 ∷ 191 ∷ 197 ∷ 194 ∷ 190 ∷ 187 ∷ 137 ∷ 136 ∷ 134 ∷ 132 ∷ 130 ∷ 129 ∷ 130 ∷ 132 ∷ 135 ∷ 138 ∷ 140 ∷ 143 ∷ 147 ∷ 155 ∷ 163 ∷ 172 ∷ 142 ∷ 142 ∷ 141 ∷ 141 ∷ 140 ∷ 139 ∷ 138 ∷ 136 ∷ 135 ∷ 133 ∷ 131 ∷ 129 ∷ 129 ∷ 131 ∷ 134 ∷ 137 ∷ 101 ∷ 109 ∷ 116 ∷ 124 ∷ 132 ∷ 140 ∷ 143 ∷ 142 ∷ 141 ∷ 141 ∷ 140 ∷ 140 ∷ 139 ∷ 137 ∷ 135 ∷ 134 ∷ 74 ∷ 77 ∷ 81 ∷ 84 ∷ 88 ∷ 92 ∷ 98 ∷ 106 ∷ 113 ∷ 121 ∷ 129 ∷ 137 ∷ 143 ∷ 142 ∷ 142 ∷ 141 ∷ 129 ∷ 118 ∷ 107 ∷ 96 ∷ 85 ∷ 74 ∷ 72 ∷ 76 ∷ 79 ∷ 83 ∷ 87 ∷ 90 ∷ 95 ∷ 102 ∷ 110 ∷ 118 ∷ 186 ∷ 178 ∷ 169 ∷ 161 ∷ 152 ∷ 143 ∷ 133 ∷ 123 ∷ 112 ∷ 101 ∷ 90 ∷ 79 ∷ 71 ∷ 74 ∷ 78 ∷ 82 ∷ 206 ∷ 204 ∷ 202 ∷ 200 ∷ 198 ∷ 196 ∷ 190 ∷ 181 ∷ 173 ∷ 164 ∷ 155 ∷ 147 ∷ 138 ∷ 127 ∷ 116 ∷ 105 ∷ 209 ∷ 209 ∷ 209 ∷ 208 ∷ 208 ∷ 208 ∷ 207 ∷ 205 ∷ 203 ∷ 201 ∷ 199 ∷ 197 ∷ 193 ∷ 185 ∷ 176 ∷ 168 ∷ 159 ∷ 168 ∷ 178 ∷ 187 ∷ 196 ∷ 205 ∷ 209 ∷ 209 ∷ 209 ∷ 208 ∷ 208 ∷ 208 ∷ 208 ∷ 206 ∷ 204 ∷ 202 ∷ 99 ∷ 109 ∷ 118 ∷ 128 ∷ 137 ∷ 146 ∷ 156 ∷ 165 ∷ 174 ∷ 183 ∷ 192 ∷ 202 ∷ 209 ∷ 209 ∷ 209 ∷ 209 ∷ []
unfolding predict is_filtered angle inverse_angle u digits_up_to value_after read_u read_alignment
mode16_12 = refl

pub mode16_17 : predicted_by 17 0 4 line_16 ≡ 120 ∷ 157 ∷ 183 ∷ 195 ∷ 183 ∷ 101 ∷ 74 ∷ 104 ∷ 124 ∷ 82 ∷ 64 ∷ 124 ∷ 170 ∷ 186 ∷ 172 ∷ 141 ∷ 67 ∷ 108 ∷ 150 ∷ 178 ∷ 197 ∷ 190 ∷ 120 ∷ 78 ∷ 90 ∷ 134 ∷ 89 ∷ 69 ∷ 109 ∷ 161 ∷ 188 ∷ 179 ∷ 93 ∷ 68 ∷ 95 ∷ 143 ∷ 174 ∷ 194 ∷ 192 ∷ 139 ∷ 81 ∷ 76 ∷ 136 ∷ 99 ∷ 73 ∷ 93 ∷ 153 ∷ 190 ∷ 179 ∷ 112 ∷ 70 ∷ 82 ∷ 135 ∷ 167 ∷ 189 ∷ 193 ∷ 157 ∷ 85 ∷ 68 ∷ 123 ∷ 110 ∷ 77 ∷ 78 ∷ 144 ∷ 188 ∷ 184 ∷ 131 ∷ 72 ∷ 69 ∷ 125 ∷ 160 ∷ 185 ∷ 195 ∷ 176 ∷ 94 ∷ 72 ∷ 109 ∷ 120 ∷ 81 ∷ 63 ∷ 142 ∷ 178 ∷ 188 ∷ 150 ∷ 73 ∷ 66 ∷ 112 ∷ 153 ∷ 180 ∷ 196 ∷ 190 ∷ 113 ∷ 76 ∷ 95 ∷ 131 ∷ 85 ∷ 130 ∷ 139 ∷ 168 ∷ 192 ∷ 169 ∷ 87 ∷ 68 ∷ 99 ∷ 145 ∷ 175 ∷ 195 ∷ 191 ∷ 132 ∷ 80 ∷ 81 ∷ 141 ∷ 140 ∷ 132 ∷ 135 ∷ 158 ∷ 197 ∷ 178 ∷ 106 ∷ 70 ∷ 86 ∷ 138 ∷ 170 ∷ 191 ∷ 193 ∷ 151 ∷ 84 ∷ 67 ∷ 134 ∷ 141 ∷ 134 ∷ 132 ∷ 148 ∷ 191 ∷ 182 ∷ 125 ∷ 71 ∷ 74 ∷ 129 ∷ 162 ∷ 186 ∷ 194 ∷ 170 ∷ 88 ∷ 89 ∷ 124 ∷ 141 ∷ 136 ∷ 129 ∷ 143 ∷ 181 ∷ 187 ∷ 143 ∷ 73 ∷ 66 ∷ 116 ∷ 155 ∷ 181 ∷ 196 ∷ 189 ∷ 83 ∷ 84 ∷ 115 ∷ 142 ∷ 138 ∷ 129 ∷ 140 ∷ 172 ∷ 191 ∷ 162 ∷ 80 ∷ 67 ∷ 103 ∷ 148 ∷ 177 ∷ 197 ∷ 150 ∷ 96 ∷ 80 ∷ 106 ∷ 143 ∷ 140 ∷ 131 ∷ 137 ∷ 162 ∷ 195 ∷ 176 ∷ 99 ∷ 69 ∷ 91 ∷ 140 ∷ 172 ∷ 197 ∷ 161 ∷ 109 ∷ 76 ∷ 96 ∷ 137 ∷ 140 ∷ 134 ∷ 133 ∷ 152 ∷ 195 ∷ 181 ∷ 118 ∷ 71 ∷ 78 ∷ 133 ∷ 208 ∷ 200 ∷ 171 ∷ 123 ∷ 71 ∷ 90 ∷ 127 ∷ 141 ∷ 136 ∷ 130 ∷ 144 ∷ 185 ∷ 185 ∷ 137 ∷ 72 ∷ 65 ∷ 198 ∷ 208 ∷ 202 ∷ 181 ∷ 136 ∷ 79 ∷ 86 ∷ 118 ∷ 142 ∷ 138 ∷ 129 ∷ 141 ∷ 175 ∷ 189 ∷ 156 ∷ 74 ∷ 139 ∷ 187 ∷ 209 ∷ 205 ∷ 192 ∷ 147 ∷ 92 ∷ 82 ∷ 109 ∷ 143 ∷ 139 ∷ 131 ∷ 138 ∷ 165 ∷ 194 ∷ 175 ∷ []
unfolding predict is_filtered angle inverse_angle u digits_up_to value_after read_u read_alignment
mode16_17 = refl

pub mode16_18 : predicted_by 18 0 4 line_16 ≡ 133 ∷ 172 ∷ 197 ∷ 230 ∷ 189 ∷ 88 ∷ 67 ∷ 141 ∷ 164 ∷ 85 ∷ 63 ∷ 144 ∷ 190 ∷ 179 ∷ 179 ∷ 141 ∷ 65 ∷ 133 ∷ 172 ∷ 197 ∷ 230 ∷ 189 ∷ 88 ∷ 67 ∷ 141 ∷ 164 ∷ 85 ∷ 63 ∷ 144 ∷ 190 ∷ 179 ∷ 179 ∷ 74 ∷ 65 ∷ 133 ∷ 172 ∷ 197 ∷ 230 ∷ 189 ∷ 88 ∷ 67 ∷ 141 ∷ 164 ∷ 85 ∷ 63 ∷ 144 ∷ 190 ∷ 179 ∷ 175 ∷ 74 ∷ 65 ∷ 133 ∷ 172 ∷ 197 ∷ 230 ∷ 189 ∷ 88 ∷ 67 ∷ 141 ∷ 164 ∷ 85 ∷ 63 ∷ 144 ∷ 190 ∷ 198 ∷ 175 ∷ 74 ∷ 65 ∷ 133 ∷ 172 ∷ 197 ∷ 230 ∷ 189 ∷ 88 ∷ 67 ∷ 141 ∷ 164 ∷ 85 ∷ 63 ∷ 144 ∷ 145 ∷ 198 ∷ 175 ∷ 74 ∷ 65 ∷ 133 ∷ 172 ∷ 197 ∷ 230 ∷ 189 ∷ 88 ∷ 67 ∷ 141 ∷ 164 ∷ 85 ∷ 63 ∷ 128 ∷ 145 ∷ 198 ∷ 175 ∷ 74 ∷ 65 ∷ 133 ∷ 172 ∷ 197 ∷ 230 ∷ 189 ∷ 88 ∷ 67 ∷ 141 ∷ 164 ∷ 85 ∷ 139 ∷ 128 ∷ 145 ∷ 198 ∷ 175 ∷ 74 ∷ 65 ∷ 133 ∷ 172 ∷ 197 ∷ 230 ∷ 189 ∷ 88 ∷ 67 ∷ 141 ∷ 164 ∷ 143 ∷ 139 ∷ 128 ∷ 145 ∷ 198 ∷ 175 ∷ 74 ∷ 65 ∷ 133 ∷ 172 ∷ 197 ∷ 230 ∷ 189 ∷ 88 ∷ 67 ∷ 141 ∷ 93 ∷ 143 ∷ 139 ∷ 128 ∷ 145 ∷ 198 ∷ 175 ∷ 74 ∷ 65 ∷ 133 ∷ 172 ∷ 197 ∷ 230 ∷ 189 ∷ 88 ∷ 67 ∷ 70 ∷ 93 ∷ 143 ∷ 139 ∷ 128 ∷ 145 ∷ 198 ∷ 175 ∷ 74 ∷ 65 ∷ 133 ∷ 172 ∷ 197 ∷ 230 ∷ 189 ∷ 88 ∷ 140 ∷ 70 ∷ 93 ∷ 143 ∷ 139 ∷ 128 ∷ 145 ∷ 198 ∷ 175 ∷ 74 ∷ 65 ∷ 133 ∷ 172 ∷ 197 ∷ 230 ∷ 189 ∷ 195 ∷ 140 ∷ 70 ∷ 93 ∷ 143 ∷ 139 ∷ 128 ∷ 145 ∷ 198 ∷ 175 ∷ 74 ∷ 65 ∷ 133 ∷ 172 ∷ 197 ∷ 230 ∷ 208 ∷ 195 ∷ 140 ∷ 70 ∷ 93 ∷ 143 ∷ 139 ∷ 128 ∷ 145 ∷ 198 ∷ 175 ∷ 74 ∷ 65 ∷ 133 ∷ 172 ∷ 197 ∷ 209 ∷ 208 ∷ 195 ∷ 140 ∷ 70 ∷ 93 ∷ 143 ∷ 139 ∷ 128 ∷ 145 ∷ 198 ∷ 175 ∷ 74 ∷ 65 ∷ 133 ∷ 172 ∷ 150 ∷ 209 ∷ 208 ∷ 195 ∷ 140 ∷ 70 ∷ 93 ∷ 143 ∷ 139 ∷ 128 ∷ 145 ∷ 198 ∷ 175 ∷ 74 ∷ 65 ∷ 133 ∷ []
unfolding predict is_filtered angle inverse_angle u digits_up_to value_after read_u read_alignment
mode16_18 = refl

pub mode16_19 : predicted_by 19 0 4 line_16 ≡ 140 ∷ 177 ∷ 203 ∷ 222 ∷ 170 ∷ 84 ∷ 81 ∷ 145 ∷ 149 ∷ 81 ∷ 78 ∷ 153 ∷ 188 ∷ 179 ∷ 172 ∷ 135 ∷ 91 ∷ 148 ∷ 181 ∷ 209 ∷ 215 ∷ 151 ∷ 80 ∷ 95 ∷ 150 ∷ 134 ∷ 77 ∷ 93 ∷ 161 ∷ 186 ∷ 179 ∷ 165 ∷ 69 ∷ 103 ∷ 155 ∷ 186 ∷ 216 ∷ 207 ∷ 132 ∷ 76 ∷ 109 ∷ 154 ∷ 120 ∷ 73 ∷ 109 ∷ 170 ∷ 184 ∷ 179 ∷ 105 ∷ 67 ∷ 116 ∷ 162 ∷ 191 ∷ 222 ∷ 199 ∷ 113 ∷ 72 ∷ 123 ∷ 158 ∷ 105 ∷ 69 ∷ 124 ∷ 179 ∷ 182 ∷ 195 ∷ 82 ∷ 66 ∷ 129 ∷ 170 ∷ 195 ∷ 228 ∷ 192 ∷ 94 ∷ 68 ∷ 136 ∷ 163 ∷ 90 ∷ 64 ∷ 139 ∷ 187 ∷ 152 ∷ 183 ∷ 73 ∷ 74 ∷ 138 ∷ 175 ∷ 201 ∷ 225 ∷ 176 ∷ 85 ∷ 76 ∷ 144 ∷ 154 ∷ 82 ∷ 73 ∷ 150 ∷ 133 ∷ 162 ∷ 159 ∷ 71 ∷ 86 ∷ 145 ∷ 180 ∷ 207 ∷ 217 ∷ 157 ∷ 81 ∷ 90 ∷ 148 ∷ 139 ∷ 78 ∷ 88 ∷ 134 ∷ 137 ∷ 172 ∷ 136 ∷ 70 ∷ 99 ∷ 153 ∷ 185 ∷ 214 ∷ 210 ∷ 139 ∷ 78 ∷ 104 ∷ 153 ∷ 125 ∷ 74 ∷ 125 ∷ 131 ∷ 140 ∷ 181 ∷ 113 ∷ 68 ∷ 112 ∷ 160 ∷ 189 ∷ 220 ∷ 202 ∷ 120 ∷ 74 ∷ 118 ∷ 157 ∷ 110 ∷ 90 ∷ 133 ∷ 129 ∷ 143 ∷ 191 ∷ 90 ∷ 66 ∷ 125 ∷ 167 ∷ 194 ∷ 226 ∷ 194 ∷ 101 ∷ 70 ∷ 132 ∷ 161 ∷ 71 ∷ 96 ∷ 138 ∷ 129 ∷ 148 ∷ 190 ∷ 73 ∷ 69 ∷ 135 ∷ 174 ∷ 199 ∷ 227 ∷ 183 ∷ 87 ∷ 72 ∷ 142 ∷ 123 ∷ 76 ∷ 105 ∷ 136 ∷ 132 ∷ 158 ∷ 167 ∷ 72 ∷ 82 ∷ 143 ∷ 178 ∷ 205 ∷ 220 ∷ 164 ∷ 83 ∷ 86 ∷ 171 ∷ 109 ∷ 80 ∷ 113 ∷ 134 ∷ 135 ∷ 168 ∷ 144 ∷ 70 ∷ 95 ∷ 150 ∷ 183 ∷ 211 ∷ 212 ∷ 145 ∷ 79 ∷ 200 ∷ 161 ∷ 96 ∷ 84 ∷ 122 ∷ 132 ∷ 139 ∷ 178 ∷ 121 ∷ 68 ∷ 108 ∷ 157 ∷ 188 ∷ 218 ∷ 204 ∷ 126 ∷ 198 ∷ 198 ∷ 150 ∷ 83 ∷ 89 ∷ 130 ∷ 130 ∷ 142 ∷ 188 ∷ 97 ∷ 67 ∷ 120 ∷ 165 ∷ 192 ∷ 224 ∷ 197 ∷ 150 ∷ 209 ∷ 195 ∷ 140 ∷ 70 ∷ 93 ∷ 139 ∷ 128 ∷ 145 ∷ 198 ∷ 74 ∷ 65 ∷ 133 ∷ 172 ∷ 197 ∷ 230 ∷ []
unfolding predict is_filtered angle inverse_angle u digits_up_to value_after read_u read_alignment
mode16_19 = refl

pub mode16_25 : predicted_by 25 0 4 line_16 ≡ 173 ∷ 179 ∷ 249 ∷ 234 ∷ 47 ∷ 46 ∷ 132 ∷ 236 ∷ 46 ∷ 31 ∷ 150 ∷ 224 ∷ 150 ∷ 194 ∷ 178 ∷ 21 ∷ 172 ∷ 178 ∷ 245 ∷ 236 ∷ 60 ∷ 46 ∷ 127 ∷ 229 ∷ 59 ∷ 31 ∷ 142 ∷ 219 ∷ 155 ∷ 191 ∷ 180 ∷ 32 ∷ 171 ∷ 178 ∷ 240 ∷ 237 ∷ 72 ∷ 45 ∷ 121 ∷ 223 ∷ 72 ∷ 31 ∷ 134 ∷ 215 ∷ 161 ∷ 187 ∷ 181 ∷ 42 ∷ 171 ∷ 178 ∷ 235 ∷ 238 ∷ 85 ∷ 44 ∷ 115 ∷ 216 ∷ 85 ∷ 32 ∷ 126 ∷ 211 ∷ 166 ∷ 184 ∷ 182 ∷ 53 ∷ 170 ∷ 177 ∷ 231 ∷ 240 ∷ 97 ∷ 43 ∷ 110 ∷ 210 ∷ 98 ∷ 32 ∷ 118 ∷ 206 ∷ 171 ∷ 181 ∷ 183 ∷ 63 ∷ 169 ∷ 177 ∷ 226 ∷ 241 ∷ 109 ∷ 43 ∷ 104 ∷ 203 ∷ 111 ∷ 32 ∷ 110 ∷ 202 ∷ 176 ∷ 178 ∷ 185 ∷ 73 ∷ 168 ∷ 177 ∷ 221 ∷ 242 ∷ 122 ∷ 42 ∷ 98 ∷ 197 ∷ 124 ∷ 32 ∷ 102 ∷ 197 ∷ 181 ∷ 174 ∷ 186 ∷ 84 ∷ 167 ∷ 177 ∷ 217 ∷ 244 ∷ 134 ∷ 41 ∷ 93 ∷ 190 ∷ 138 ∷ 32 ∷ 95 ∷ 193 ∷ 187 ∷ 171 ∷ 187 ∷ 94 ∷ 166 ∷ 176 ∷ 212 ∷ 245 ∷ 146 ∷ 40 ∷ 87 ∷ 184 ∷ 151 ∷ 32 ∷ 87 ∷ 189 ∷ 192 ∷ 168 ∷ 188 ∷ 104 ∷ 165 ∷ 176 ∷ 207 ∷ 246 ∷ 159 ∷ 40 ∷ 81 ∷ 177 ∷ 164 ∷ 32 ∷ 79 ∷ 184 ∷ 197 ∷ 165 ∷ 190 ∷ 115 ∷ 164 ∷ 176 ∷ 202 ∷ 247 ∷ 171 ∷ 39 ∷ 75 ∷ 171 ∷ 177 ∷ 32 ∷ 71 ∷ 180 ∷ 202 ∷ 161 ∷ 191 ∷ 125 ∷ 164 ∷ 175 ∷ 198 ∷ 249 ∷ 184 ∷ 38 ∷ 70 ∷ 164 ∷ 190 ∷ 33 ∷ 63 ∷ 176 ∷ 207 ∷ 158 ∷ 192 ∷ 136 ∷ 163 ∷ 175 ∷ 193 ∷ 250 ∷ 196 ∷ 37 ∷ 64 ∷ 158 ∷ 203 ∷ 33 ∷ 55 ∷ 171 ∷ 212 ∷ 155 ∷ 193 ∷ 146 ∷ 162 ∷ 175 ∷ 188 ∷ 251 ∷ 208 ∷ 37 ∷ 58 ∷ 151 ∷ 216 ∷ 33 ∷ 47 ∷ 167 ∷ 218 ∷ 152 ∷ 195 ∷ 156 ∷ 161 ∷ 174 ∷ 184 ∷ 253 ∷ 221 ∷ 36 ∷ 53 ∷ 145 ∷ 229 ∷ 33 ∷ 39 ∷ 162 ∷ 223 ∷ 148 ∷ 196 ∷ 167 ∷ 160 ∷ 174 ∷ 179 ∷ 254 ∷ 233 ∷ 35 ∷ 47 ∷ 138 ∷ 242 ∷ 33 ∷ 31 ∷ 158 ∷ 228 ∷ 145 ∷ 197 ∷ 177 ∷ []
unfolding predict is_filtered angle inverse_angle u digits_up_to value_after read_u read_alignment
mode16_25 = refl

pub mode16_26 : predicted_by 26 0 4 line_16 ≡ 113 ∷ 179 ∷ 254 ∷ 233 ∷ 35 ∷ 47 ∷ 138 ∷ 242 ∷ 33 ∷ 31 ∷ 158 ∷ 228 ∷ 145 ∷ 197 ∷ 177 ∷ 11 ∷ 104 ∷ 179 ∷ 254 ∷ 233 ∷ 35 ∷ 47 ∷ 138 ∷ 242 ∷ 33 ∷ 31 ∷ 158 ∷ 228 ∷ 145 ∷ 197 ∷ 177 ∷ 11 ∷ 201 ∷ 179 ∷ 254 ∷ 233 ∷ 35 ∷ 47 ∷ 138 ∷ 242 ∷ 33 ∷ 31 ∷ 158 ∷ 228 ∷ 145 ∷ 197 ∷ 177 ∷ 11 ∷ 219 ∷ 179 ∷ 254 ∷ 233 ∷ 35 ∷ 47 ∷ 138 ∷ 242 ∷ 33 ∷ 31 ∷ 158 ∷ 228 ∷ 145 ∷ 197 ∷ 177 ∷ 11 ∷ 132 ∷ 179 ∷ 254 ∷ 233 ∷ 35 ∷ 47 ∷ 138 ∷ 242 ∷ 33 ∷ 31 ∷ 158 ∷ 228 ∷ 145 ∷ 197 ∷ 177 ∷ 11 ∷ 181 ∷ 179 ∷ 254 ∷ 233 ∷ 35 ∷ 47 ∷ 138 ∷ 242 ∷ 33 ∷ 31 ∷ 158 ∷ 228 ∷ 145 ∷ 197 ∷ 177 ∷ 11 ∷ 136 ∷ 179 ∷ 254 ∷ 233 ∷ 35 ∷ 47 ∷ 138 ∷ 242 ∷ 33 ∷ 31 ∷ 158 ∷ 228 ∷ 145 ∷ 197 ∷ 177 ∷ 11 ∷ 201 ∷ 179 ∷ 254 ∷ 233 ∷ 35 ∷ 47 ∷ 138 ∷ 242 ∷ 33 ∷ 31 ∷ 158 ∷ 228 ∷ 145 ∷ 197 ∷ 177 ∷ 11 ∷ 124 ∷ 179 ∷ 254 ∷ 233 ∷ 35 ∷ 47 ∷ 138 ∷ 242 ∷ 33 ∷ 31 ∷ 158 ∷ 228 ∷ 145 ∷ 197 ∷ 177 ∷ 11 ∷ 112 ∷ 179 ∷ 254 ∷ 233 ∷ 35 ∷ 47 ∷ 138 ∷ 242 ∷ 33 ∷ 31 ∷ 158 ∷ 228 ∷ 145 ∷ 197 ∷ 177 ∷ 11 ∷ 167 ∷ 179 ∷ 254 ∷ 233 ∷ 35 ∷ 47 ∷ 138 ∷ 242 ∷ 33 ∷ 31 ∷ 158 ∷ 228 ∷ 145 ∷ 197 ∷ 177 ∷ 11 ∷ 208 ∷ 179 ∷ 254 ∷ 233 ∷ 35 ∷ 47 ∷ 138 ∷ 242 ∷ 33 ∷ 31 ∷ 158 ∷ 228 ∷ 145 ∷ 197 ∷ 177 ∷ 11 ∷ 181 ∷ 179 ∷ 254 ∷ 233 ∷ 35 ∷ 47 ∷ 138 ∷ 242 ∷ 33 ∷ 31 ∷ 158 ∷ 228 ∷ 145 ∷ 197 ∷ 177 ∷ 11 ∷ 220 ∷ 179 ∷ 254 ∷ 233 ∷ 35 ∷ 47 ∷ 138 ∷ 242 ∷ 33 ∷ 31 ∷ 158 ∷ 228 ∷ 145 ∷ 197 ∷ 177 ∷ 11 ∷ 170 ∷ 179 ∷ 254 ∷ 233 ∷ 35 ∷ 47 ∷ 138 ∷ 242 ∷ 33 ∷ 31 ∷ 158 ∷ 228 ∷ 145 ∷ 197 ∷ 177 ∷ 11 ∷ 114 ∷ 179 ∷ 254 ∷ 233 ∷ 35 ∷ 47 ∷ 138 ∷ 242 ∷ 33 ∷ 31 ∷ 158 ∷ 228 ∷ 145 ∷ 197 ∷ 177 ∷ 11 ∷ []
unfolding predict is_filtered angle inverse_angle u digits_up_to value_after read_u read_alignment
mode16_26 = refl

pub mode16_27 : predicted_by 27 0 4 line_16 ≡ 174 ∷ 184 ∷ 253 ∷ 221 ∷ 36 ∷ 53 ∷ 145 ∷ 229 ∷ 33 ∷ 39 ∷ 162 ∷ 223 ∷ 148 ∷ 196 ∷ 167 ∷ 25 ∷ 175 ∷ 188 ∷ 251 ∷ 208 ∷ 37 ∷ 58 ∷ 151 ∷ 216 ∷ 33 ∷ 47 ∷ 167 ∷ 218 ∷ 152 ∷ 195 ∷ 156 ∷ 39 ∷ 175 ∷ 193 ∷ 250 ∷ 196 ∷ 37 ∷ 64 ∷ 158 ∷ 203 ∷ 33 ∷ 55 ∷ 171 ∷ 212 ∷ 155 ∷ 193 ∷ 146 ∷ 53 ∷ 175 ∷ 198 ∷ 249 ∷ 184 ∷ 38 ∷ 70 ∷ 164 ∷ 190 ∷ 33 ∷ 63 ∷ 176 ∷ 207 ∷ 158 ∷ 192 ∷ 136 ∷ 67 ∷ 176 ∷ 202 ∷ 247 ∷ 171 ∷ 39 ∷ 75 ∷ 171 ∷ 177 ∷ 32 ∷ 71 ∷ 180 ∷ 202 ∷ 161 ∷ 191 ∷ 125 ∷ 81 ∷ 176 ∷ 207 ∷ 246 ∷ 159 ∷ 40 ∷ 81 ∷ 177 ∷ 164 ∷ 32 ∷ 79 ∷ 184 ∷ 197 ∷ 165 ∷ 190 ∷ 115 ∷ 95 ∷ 176 ∷ 212 ∷ 245 ∷ 146 ∷ 40 ∷ 87 ∷ 184 ∷ 151 ∷ 32 ∷ 87 ∷ 189 ∷ 192 ∷ 168 ∷ 188 ∷ 104 ∷ 109 ∷ 177 ∷ 217 ∷ 244 ∷ 134 ∷ 41 ∷ 93 ∷ 190 ∷ 138 ∷ 32 ∷ 95 ∷ 193 ∷ 187 ∷ 171 ∷ 187 ∷ 94 ∷ 124 ∷ 177 ∷ 221 ∷ 242 ∷ 122 ∷ 42 ∷ 98 ∷ 197 ∷ 124 ∷ 32 ∷ 102 ∷ 197 ∷ 181 ∷ 174 ∷ 186 ∷ 84 ∷ 138 ∷ 177 ∷ 226 ∷ 241 ∷ 109 ∷ 43 ∷ 104 ∷ 203 ∷ 111 ∷ 32 ∷ 110 ∷ 202 ∷ 176 ∷ 178 ∷ 185 ∷ 73 ∷ 152 ∷ 177 ∷ 231 ∷ 240 ∷ 97 ∷ 43 ∷ 110 ∷ 210 ∷ 98 ∷ 32 ∷ 118 ∷ 206 ∷ 171 ∷ 181 ∷ 183 ∷ 63 ∷ 166 ∷ 178 ∷ 235 ∷ 238 ∷ 85 ∷ 44 ∷ 115 ∷ 216 ∷ 85 ∷ 32 ∷ 126 ∷ 211 ∷ 166 ∷ 184 ∷ 182 ∷ 53 ∷ 180 ∷ 178 ∷ 240 ∷ 237 ∷ 72 ∷ 45 ∷ 121 ∷ 223 ∷ 72 ∷ 31 ∷ 134 ∷ 215 ∷ 161 ∷ 187 ∷ 181 ∷ 42 ∷ 194 ∷ 178 ∷ 245 ∷ 236 ∷ 60 ∷ 46 ∷ 127 ∷ 229 ∷ 59 ∷ 31 ∷ 142 ∷ 219 ∷ 155 ∷ 191 ∷ 180 ∷ 32 ∷ 208 ∷ 179 ∷ 249 ∷ 234 ∷ 47 ∷ 46 ∷ 132 ∷ 236 ∷ 46 ∷ 31 ∷ 150 ∷ 224 ∷ 150 ∷ 194 ∷ 178 ∷ 21 ∷ 222 ∷ 179 ∷ 254 ∷ 233 ∷ 35 ∷ 47 ∷ 138 ∷ 242 ∷ 33 ∷ 31 ∷ 158 ∷ 228 ∷ 145 ∷ 197 ∷ 177 ∷ 11 ∷ 236 ∷ []
unfolding predict is_filtered angle inverse_angle u digits_up_to value_after read_u read_alignment
mode16_27 = refl

pub mode16_34 : predicted_by 34 0 4 line_16 ≡ 197 ∷ 230 ∷ 189 ∷ 88 ∷ 67 ∷ 141 ∷ 164 ∷ 85 ∷ 63 ∷ 144 ∷ 190 ∷ 179 ∷ 179 ∷ 141 ∷ 109 ∷ 166 ∷ 230 ∷ 189 ∷ 88 ∷ 67 ∷ 141 ∷ 164 ∷ 85 ∷ 63 ∷ 144 ∷ 190 ∷ 179 ∷ 179 ∷ 141 ∷ 109 ∷ 166 ∷ 171 ∷ 189 ∷ 88 ∷ 67 ∷ 141 ∷ 164 ∷ 85 ∷ 63 ∷ 144 ∷ 190 ∷ 179 ∷ 179 ∷ 141 ∷ 109 ∷ 166 ∷ 171 ∷ 103 ∷ 88 ∷ 67 ∷ 141 ∷ 164 ∷ 85 ∷ 63 ∷ 144 ∷ 190 ∷ 179 ∷ 179 ∷ 141 ∷ 109 ∷ 166 ∷ 171 ∷ 103 ∷ 114 ∷ 67 ∷ 141 ∷ 164 ∷ 85 ∷ 63 ∷ 144 ∷ 190 ∷ 179 ∷ 179 ∷ 141 ∷ 109 ∷ 166 ∷ 171 ∷ 103 ∷ 114 ∷ 148 ∷ 141 ∷ 164 ∷ 85 ∷ 63 ∷ 144 ∷ 190 ∷ 179 ∷ 179 ∷ 141 ∷ 109 ∷ 166 ∷ 171 ∷ 103 ∷ 114 ∷ 148 ∷ 106 ∷ 164 ∷ 85 ∷ 63 ∷ 144 ∷ 190 ∷ 179 ∷ 179 ∷ 141 ∷ 109 ∷ 166 ∷ 171 ∷ 103 ∷ 114 ∷ 148 ∷ 106 ∷ 100 ∷ 85 ∷ 63 ∷ 144 ∷ 190 ∷ 179 ∷ 179 ∷ 141 ∷ 109 ∷ 166 ∷ 171 ∷ 103 ∷ 114 ∷ 148 ∷ 106 ∷ 100 ∷ 118 ∷ 63 ∷ 144 ∷ 190 ∷ 179 ∷ 179 ∷ 141 ∷ 109 ∷ 166 ∷ 171 ∷ 103 ∷ 114 ∷ 148 ∷ 106 ∷ 100 ∷ 118 ∷ 101 ∷ 144 ∷ 190 ∷ 179 ∷ 179 ∷ 141 ∷ 109 ∷ 166 ∷ 171 ∷ 103 ∷ 114 ∷ 148 ∷ 106 ∷ 100 ∷ 118 ∷ 101 ∷ 130 ∷ 190 ∷ 179 ∷ 179 ∷ 141 ∷ 109 ∷ 166 ∷ 171 ∷ 103 ∷ 114 ∷ 148 ∷ 106 ∷ 100 ∷ 118 ∷ 101 ∷ 130 ∷ 183 ∷ 179 ∷ 179 ∷ 141 ∷ 109 ∷ 166 ∷ 171 ∷ 103 ∷ 114 ∷ 148 ∷ 106 ∷ 100 ∷ 118 ∷ 101 ∷ 130 ∷ 183 ∷ 214 ∷ 179 ∷ 141 ∷ 109 ∷ 166 ∷ 171 ∷ 103 ∷ 114 ∷ 148 ∷ 106 ∷ 100 ∷ 118 ∷ 101 ∷ 130 ∷ 183 ∷ 214 ∷ 187 ∷ 141 ∷ 109 ∷ 166 ∷ 171 ∷ 103 ∷ 114 ∷ 148 ∷ 106 ∷ 100 ∷ 118 ∷ 101 ∷ 130 ∷ 183 ∷ 214 ∷ 187 ∷ 105 ∷ 109 ∷ 166 ∷ 171 ∷ 103 ∷ 114 ∷ 148 ∷ 106 ∷ 100 ∷ 118 ∷ 101 ∷ 130 ∷ 183 ∷ 214 ∷ 187 ∷ 105 ∷ 110 ∷ 166 ∷ 171 ∷ 103 ∷ 114 ∷ 148 ∷ 106 ∷ 100 ∷ 118 ∷ 101 ∷ 130 ∷ 183 ∷ 214 ∷ 187 ∷ 105 ∷ 110 ∷ 229 ∷ []
unfolding predict is_filtered angle inverse_angle u digits_up_to value_after read_u read_alignment
mode16_34 = refl

abbrev read_coded : {A : Type 0} → Engine.Reader A → List Item → Option A
read_coded read list =
    and_then (Engine.start (start I) (bits_of (code (list ++ terminate_bin true ∷ []) (start I)))) (λ e.
    and_then (read e) (λ found.
    and_then (bin Terminate found.1) (λ ended. Some found.0)))

-- 113 items
abbrev block_0 : List ℤ
block_0 = pos 0 ∷ pos 0 ∷ pos 0 ∷ pos 0 ∷ pos 5 ∷ pos 0 ∷ pos 1 ∷ pos 0 ∷ pos 0 ∷ negsuc 0 ∷ pos 0 ∷ pos 0 ∷ pos 0 ∷ pos 0 ∷ pos 0 ∷ pos 0 ∷ pos 0 ∷ pos 1 ∷ pos 0 ∷ pos 0 ∷ pos 0 ∷ pos 0 ∷ pos 0 ∷ negsuc 1 ∷ pos 0 ∷ pos 0 ∷ pos 0 ∷ pos 0 ∷ negsuc 1 ∷ pos 0 ∷ pos 0 ∷ pos 0 ∷ pos 0 ∷ pos 0 ∷ pos 0 ∷ negsuc 0 ∷ pos 0 ∷ pos 0 ∷ pos 0 ∷ pos 0 ∷ pos 0 ∷ negsuc 0 ∷ pos 0 ∷ pos 4 ∷ pos 0 ∷ pos 0 ∷ pos 0 ∷ pos 0 ∷ pos 0 ∷ pos 0 ∷ negsuc 0 ∷ pos 0 ∷ pos 0 ∷ pos 0 ∷ pos 0 ∷ pos 0 ∷ negsuc 0 ∷ pos 0 ∷ negsuc 0 ∷ pos 0 ∷ pos 0 ∷ pos 0 ∷ pos 0 ∷ negsuc 1 ∷ []

abbrev items_0 : List Item
items_0 = c 1 28 ∷ c 1 28 ∷ c 1 29 ∷ c 1 29 ∷ c 1 30 ∷ c 1 46 ∷ c 1 46 ∷ c 1 47 ∷ c 1 47 ∷ c 1 48 ∷ b 1 ∷ b 1 ∷ c 0 89 ∷ c 0 89 ∷ c 0 89 ∷ c 0 89 ∷ c 0 89 ∷ c 0 89 ∷ c 0 90 ∷ c 0 89 ∷ c 0 89 ∷ c 0 90 ∷ c 0 90 ∷ c 0 89 ∷ c 0 90 ∷ c 0 90 ∷ c 0 91 ∷ c 1 112 ∷ c 0 123 ∷ b 1 ∷ c 1 52 ∷ c 0 89 ∷ c 1 89 ∷ c 0 89 ∷ c 0 89 ∷ c 0 89 ∷ c 0 89 ∷ c 0 89 ∷ c 1 89 ∷ c 0 90 ∷ c 0 90 ∷ c 0 90 ∷ c 0 90 ∷ c 1 91 ∷ c 0 91 ∷ c 0 91 ∷ c 1 91 ∷ c 1 116 ∷ c 0 115 ∷ c 1 115 ∷ c 1 115 ∷ c 0 124 ∷ b 1 ∷ b 0 ∷ b 1 ∷ b 0 ∷ b 0 ∷ b 1 ∷ b 1 ∷ b 1 ∷ b 0 ∷ c 1 52 ∷ c 0 89 ∷ c 0 89 ∷ c 1 90 ∷ c 1 91 ∷ c 1 89 ∷ c 1 89 ∷ c 0 90 ∷ c 0 91 ∷ c 0 89 ∷ c 0 89 ∷ c 1 90 ∷ c 0 91 ∷ c 1 89 ∷ c 0 89 ∷ c 0 90 ∷ c 0 91 ∷ c 1 116 ∷ c 0 115 ∷ c 0 115 ∷ c 0 115 ∷ c 0 115 ∷ c 0 115 ∷ c 1 124 ∷ b 0 ∷ b 1 ∷ b 1 ∷ b 1 ∷ b 1 ∷ b 1 ∷ b 1 ∷ b 0 ∷ c 0 91 ∷ c 0 91 ∷ c 0 91 ∷ c 0 91 ∷ c 0 91 ∷ c 0 91 ∷ c 0 91 ∷ c 0 91 ∷ c 0 91 ∷ c 1 91 ∷ c 1 91 ∷ c 0 91 ∷ c 0 91 ∷ c 0 91 ∷ c 0 91 ∷ c 0 80 ∷ c 0 116 ∷ c 0 117 ∷ b 0 ∷ b 1 ∷ []

abbrev shape_0 : Shape
shape_0 = record { component = 1; log2 = 3; scan = 2 }

pub written_0 : residual_items shape_0 block_0 ≡ items_0
unfolding residual_items scan cbf in_coding_order last_context sig_context sub_block_context greater1_context greater2_context u digits_up_to value_after read_u read_alignment
written_0 = refl

pub read_0 : read_coded (residual_read shape_0) items_0 ≡ Some block_0
unfolding start Engine.start code closing put_bin lps_range doublings next renormalised context_read bypass_read terminate_read residual_read scan cbf in_rows last_context sig_context sub_block_context greater1_context greater2_context u digits_up_to value_after read_u read_alignment
read_0 = refl

-- 78 items
abbrev block_1 : List ℤ
block_1 = pos 0 ∷ pos 0 ∷ pos 0 ∷ pos 0 ∷ pos 0 ∷ pos 0 ∷ pos 0 ∷ pos 0 ∷ pos 0 ∷ pos 0 ∷ pos 0 ∷ pos 0 ∷ pos 0 ∷ negsuc 29 ∷ pos 0 ∷ pos 0 ∷ pos 0 ∷ pos 0 ∷ pos 0 ∷ pos 0 ∷ pos 0 ∷ pos 0 ∷ pos 0 ∷ pos 0 ∷ pos 0 ∷ pos 0 ∷ pos 0 ∷ pos 0 ∷ pos 0 ∷ pos 0 ∷ pos 0 ∷ pos 0 ∷ pos 0 ∷ pos 0 ∷ pos 0 ∷ pos 0 ∷ pos 0 ∷ pos 0 ∷ pos 0 ∷ pos 0 ∷ pos 0 ∷ pos 65 ∷ pos 0 ∷ pos 0 ∷ pos 0 ∷ pos 0 ∷ pos 0 ∷ pos 0 ∷ pos 0 ∷ pos 0 ∷ pos 0 ∷ pos 0 ∷ pos 0 ∷ pos 0 ∷ pos 0 ∷ pos 0 ∷ pos 0 ∷ pos 0 ∷ pos 0 ∷ pos 0 ∷ pos 0 ∷ pos 0 ∷ pos 0 ∷ pos 0 ∷ []

abbrev items_1 : List Item
items_1 = c 1 28 ∷ c 0 28 ∷ c 1 46 ∷ c 1 46 ∷ c 1 47 ∷ c 1 47 ∷ c 0 48 ∷ b 1 ∷ c 0 90 ∷ c 0 89 ∷ c 0 90 ∷ c 0 90 ∷ c 0 91 ∷ c 1 112 ∷ c 1 123 ∷ b 0 ∷ b 1 ∷ b 1 ∷ b 1 ∷ b 1 ∷ b 1 ∷ b 1 ∷ b 1 ∷ b 1 ∷ b 0 ∷ b 1 ∷ b 1 ∷ b 1 ∷ b 0 ∷ b 0 ∷ c 1 51 ∷ c 0 89 ∷ c 0 89 ∷ c 0 89 ∷ c 0 89 ∷ c 0 89 ∷ c 0 89 ∷ c 0 89 ∷ c 0 90 ∷ c 0 89 ∷ c 0 89 ∷ c 1 90 ∷ c 0 90 ∷ c 0 89 ∷ c 0 90 ∷ c 0 90 ∷ c 0 91 ∷ c 1 116 ∷ c 1 124 ∷ b 1 ∷ b 1 ∷ b 1 ∷ b 1 ∷ b 1 ∷ b 1 ∷ b 1 ∷ b 1 ∷ b 0 ∷ b 1 ∷ b 0 ∷ b 0 ∷ b 1 ∷ c 0 91 ∷ c 0 91 ∷ c 0 91 ∷ c 0 91 ∷ c 0 91 ∷ c 0 91 ∷ c 0 91 ∷ c 0 91 ∷ c 0 91 ∷ c 0 91 ∷ c 0 91 ∷ c 0 91 ∷ c 0 91 ∷ c 0 91 ∷ c 0 91 ∷ c 0 80 ∷ []

abbrev shape_1 : Shape
shape_1 = record { component = 1; log2 = 3; scan = 1 }

pub written_1 : residual_items shape_1 block_1 ≡ items_1
unfolding residual_items scan cbf in_coding_order last_context sig_context sub_block_context greater1_context greater2_context u digits_up_to value_after read_u read_alignment
written_1 = refl

pub read_1 : read_coded (residual_read shape_1) items_1 ≡ Some block_1
unfolding start Engine.start code closing put_bin lps_range doublings next renormalised context_read bypass_read terminate_read residual_read scan cbf in_rows last_context sig_context sub_block_context greater1_context greater2_context u digits_up_to value_after read_u read_alignment
read_1 = refl

-- 78 items
abbrev block_2 : List ℤ
block_2 = negsuc 7 ∷ pos 0 ∷ pos 0 ∷ pos 0 ∷ pos 0 ∷ pos 0 ∷ pos 0 ∷ pos 0 ∷ pos 0 ∷ pos 0 ∷ pos 0 ∷ pos 0 ∷ pos 0 ∷ pos 0 ∷ pos 0 ∷ pos 0 ∷ pos 0 ∷ pos 0 ∷ pos 0 ∷ pos 0 ∷ pos 0 ∷ pos 0 ∷ pos 0 ∷ pos 0 ∷ pos 0 ∷ pos 0 ∷ pos 0 ∷ pos 0 ∷ pos 0 ∷ pos 0 ∷ pos 0 ∷ pos 0 ∷ pos 0 ∷ pos 0 ∷ pos 0 ∷ pos 0 ∷ pos 0 ∷ pos 0 ∷ pos 0 ∷ pos 0 ∷ pos 0 ∷ pos 0 ∷ pos 0 ∷ pos 0 ∷ pos 0 ∷ pos 0 ∷ pos 0 ∷ pos 24 ∷ pos 0 ∷ pos 0 ∷ pos 0 ∷ pos 0 ∷ pos 0 ∷ pos 0 ∷ pos 0 ∷ pos 30 ∷ pos 0 ∷ pos 0 ∷ pos 0 ∷ pos 0 ∷ pos 0 ∷ pos 0 ∷ pos 0 ∷ pos 0 ∷ []

abbrev items_2 : List Item
items_2 = c 1 16 ∷ c 1 16 ∷ c 1 17 ∷ c 1 17 ∷ c 1 18 ∷ c 1 34 ∷ c 1 34 ∷ c 1 35 ∷ c 1 35 ∷ c 1 36 ∷ b 1 ∷ b 0 ∷ c 0 71 ∷ c 0 71 ∷ c 0 72 ∷ c 1 71 ∷ c 0 71 ∷ c 0 72 ∷ c 0 72 ∷ c 0 71 ∷ c 0 72 ∷ c 0 72 ∷ c 0 73 ∷ c 1 104 ∷ c 1 103 ∷ c 1 121 ∷ b 0 ∷ b 0 ∷ b 1 ∷ b 1 ∷ b 1 ∷ b 1 ∷ b 1 ∷ b 1 ∷ b 1 ∷ b 0 ∷ b 1 ∷ b 0 ∷ b 0 ∷ b 1 ∷ b 1 ∷ b 1 ∷ b 1 ∷ b 1 ∷ b 1 ∷ b 1 ∷ b 0 ∷ b 0 ∷ b 0 ∷ b 1 ∷ b 0 ∷ c 0 50 ∷ c 0 50 ∷ c 0 68 ∷ c 0 68 ∷ c 0 68 ∷ c 0 68 ∷ c 0 68 ∷ c 0 68 ∷ c 0 68 ∷ c 0 69 ∷ c 0 68 ∷ c 0 68 ∷ c 0 69 ∷ c 0 69 ∷ c 0 68 ∷ c 0 69 ∷ c 0 69 ∷ c 1 53 ∷ c 1 100 ∷ c 1 120 ∷ b 1 ∷ b 1 ∷ b 1 ∷ b 1 ∷ b 1 ∷ b 0 ∷ b 1 ∷ []

abbrev shape_2 : Shape
shape_2 = record { component = 0; log2 = 3; scan = 1 }

pub written_2 : residual_items shape_2 block_2 ≡ items_2
unfolding residual_items scan cbf in_coding_order last_context sig_context sub_block_context greater1_context greater2_context u digits_up_to value_after read_u read_alignment
written_2 = refl

pub read_2 : read_coded (residual_read shape_2) items_2 ≡ Some block_2
unfolding start Engine.start code closing put_bin lps_range doublings next renormalised context_read bypass_read terminate_read residual_read scan cbf in_rows last_context sig_context sub_block_context greater1_context greater2_context u digits_up_to value_after read_u read_alignment
read_2 = refl

-- 70 items
abbrev block_3 : List ℤ
block_3 = pos 0 ∷ pos 0 ∷ pos 0 ∷ pos 0 ∷ pos 0 ∷ pos 0 ∷ pos 0 ∷ pos 0 ∷ pos 0 ∷ pos 0 ∷ pos 0 ∷ pos 0 ∷ pos 0 ∷ pos 0 ∷ pos 0 ∷ pos 0 ∷ pos 0 ∷ pos 0 ∷ pos 0 ∷ pos 0 ∷ pos 0 ∷ pos 0 ∷ pos 0 ∷ pos 0 ∷ pos 0 ∷ pos 0 ∷ negsuc 1 ∷ pos 0 ∷ pos 0 ∷ pos 1 ∷ pos 0 ∷ pos 0 ∷ pos 0 ∷ pos 0 ∷ pos 0 ∷ pos 0 ∷ pos 0 ∷ negsuc 0 ∷ pos 0 ∷ pos 0 ∷ pos 0 ∷ pos 0 ∷ pos 0 ∷ pos 0 ∷ pos 0 ∷ pos 0 ∷ pos 0 ∷ pos 0 ∷ pos 0 ∷ pos 0 ∷ pos 0 ∷ pos 0 ∷ pos 0 ∷ pos 0 ∷ pos 0 ∷ pos 0 ∷ pos 0 ∷ pos 0 ∷ pos 0 ∷ pos 0 ∷ pos 0 ∷ pos 0 ∷ pos 0 ∷ pos 1 ∷ []

abbrev items_3 : List Item
items_3 = c 1 16 ∷ c 1 16 ∷ c 1 17 ∷ c 1 17 ∷ c 1 18 ∷ c 1 34 ∷ c 1 34 ∷ c 1 35 ∷ c 1 35 ∷ c 1 36 ∷ b 1 ∷ b 1 ∷ c 0 65 ∷ c 0 65 ∷ c 0 65 ∷ c 0 65 ∷ c 0 65 ∷ c 0 65 ∷ c 0 65 ∷ c 0 65 ∷ c 0 65 ∷ c 0 66 ∷ c 0 66 ∷ c 0 66 ∷ c 1 66 ∷ c 0 66 ∷ c 0 67 ∷ c 0 104 ∷ c 0 105 ∷ b 0 ∷ b 1 ∷ c 1 50 ∷ c 0 65 ∷ c 0 65 ∷ c 0 65 ∷ c 0 65 ∷ c 0 65 ∷ c 1 66 ∷ c 0 65 ∷ c 0 65 ∷ c 0 66 ∷ c 0 67 ∷ c 0 65 ∷ c 0 66 ∷ c 0 67 ∷ c 0 66 ∷ c 0 67 ∷ c 0 67 ∷ c 0 104 ∷ b 0 ∷ c 0 50 ∷ c 0 62 ∷ c 0 62 ∷ c 1 62 ∷ c 0 63 ∷ c 0 62 ∷ c 0 62 ∷ c 0 64 ∷ c 0 63 ∷ c 0 62 ∷ c 0 62 ∷ c 0 64 ∷ c 0 63 ∷ c 0 62 ∷ c 0 64 ∷ c 0 63 ∷ c 0 53 ∷ c 1 96 ∷ c 0 119 ∷ b 1 ∷ []

abbrev shape_3 : Shape
shape_3 = record { component = 0; log2 = 3; scan = 0 }

pub written_3 : residual_items shape_3 block_3 ≡ items_3
unfolding residual_items scan cbf in_coding_order last_context sig_context sub_block_context greater1_context greater2_context u digits_up_to value_after read_u read_alignment
written_3 = refl

pub read_3 : read_coded (residual_read shape_3) items_3 ≡ Some block_3
unfolding start Engine.start code closing put_bin lps_range doublings next renormalised context_read bypass_read terminate_read residual_read scan cbf in_rows last_context sig_context sub_block_context greater1_context greater2_context u digits_up_to value_after read_u read_alignment
read_3 = refl

-- 323 items
abbrev block_4 : List ℤ
block_4 = pos 0 ∷ pos 1 ∷ pos 0 ∷ pos 10 ∷ pos 3 ∷ pos 2 ∷ pos 2 ∷ negsuc 1 ∷ pos 3 ∷ negsuc 2 ∷ pos 4 ∷ pos 3 ∷ pos 8 ∷ negsuc 1 ∷ pos 4 ∷ pos 6 ∷ negsuc 1 ∷ pos 6 ∷ negsuc 5 ∷ negsuc 2 ∷ negsuc 2 ∷ pos 1 ∷ negsuc 1 ∷ negsuc 5 ∷ pos 1 ∷ negsuc 1 ∷ pos 0 ∷ negsuc 4 ∷ negsuc 2 ∷ pos 16 ∷ negsuc 5 ∷ negsuc 0 ∷ pos 11 ∷ negsuc 0 ∷ pos 4 ∷ negsuc 3 ∷ pos 3 ∷ negsuc 0 ∷ pos 6 ∷ pos 1 ∷ negsuc 0 ∷ pos 0 ∷ pos 0 ∷ pos 1 ∷ pos 1 ∷ pos 10 ∷ negsuc 3 ∷ pos 7 ∷ pos 0 ∷ pos 0 ∷ negsuc 5 ∷ pos 1 ∷ negsuc 3 ∷ pos 7 ∷ pos 0 ∷ pos 0 ∷ negsuc 0 ∷ pos 5 ∷ negsuc 0 ∷ pos 0 ∷ pos 4 ∷ pos 0 ∷ pos 1 ∷ negsuc 3 ∷ []

abbrev items_4 : List Item
items_4 = c 1 16 ∷ c 1 16 ∷ c 1 17 ∷ c 1 17 ∷ c 1 18 ∷ c 1 34 ∷ c 1 34 ∷ c 1 35 ∷ c 1 35 ∷ c 1 36 ∷ b 1 ∷ b 1 ∷ c 0 65 ∷ c 1 65 ∷ c 1 65 ∷ c 0 65 ∷ c 0 65 ∷ c 1 65 ∷ c 1 65 ∷ c 1 65 ∷ c 1 65 ∷ c 1 66 ∷ c 1 66 ∷ c 1 66 ∷ c 1 66 ∷ c 1 66 ∷ c 1 67 ∷ c 1 104 ∷ c 0 103 ∷ c 1 103 ∷ c 0 103 ∷ c 1 103 ∷ c 1 103 ∷ c 1 103 ∷ c 1 103 ∷ c 1 121 ∷ b 1 ∷ b 0 ∷ b 0 ∷ b 0 ∷ b 1 ∷ b 0 ∷ b 0 ∷ b 0 ∷ b 0 ∷ b 1 ∷ b 1 ∷ b 0 ∷ b 0 ∷ b 1 ∷ b 0 ∷ b 1 ∷ b 1 ∷ b 0 ∷ b 1 ∷ b 0 ∷ b 1 ∷ b 0 ∷ b 1 ∷ b 0 ∷ b 0 ∷ b 1 ∷ b 0 ∷ b 1 ∷ b 0 ∷ b 1 ∷ b 0 ∷ b 0 ∷ b 0 ∷ b 1 ∷ b 1 ∷ b 0 ∷ b 0 ∷ b 1 ∷ b 0 ∷ b 1 ∷ b 1 ∷ b 0 ∷ b 0 ∷ b 0 ∷ b 0 ∷ b 0 ∷ b 0 ∷ b 0 ∷ b 1 ∷ b 0 ∷ c 1 50 ∷ c 1 65 ∷ c 1 65 ∷ c 1 65 ∷ c 1 65 ∷ c 1 65 ∷ c 1 66 ∷ c 1 65 ∷ c 1 65 ∷ c 1 66 ∷ c 1 67 ∷ c 1 65 ∷ c 1 66 ∷ c 1 67 ∷ c 1 66 ∷ c 1 67 ∷ c 1 67 ∷ c 0 108 ∷ c 1 109 ∷ c 1 107 ∷ c 1 107 ∷ c 1 107 ∷ c 1 107 ∷ c 1 107 ∷ c 1 107 ∷ c 1 122 ∷ b 1 ∷ b 1 ∷ b 1 ∷ b 0 ∷ b 1 ∷ b 0 ∷ b 1 ∷ b 0 ∷ b 0 ∷ b 1 ∷ b 0 ∷ b 1 ∷ b 1 ∷ b 0 ∷ b 0 ∷ b 0 ∷ b 1 ∷ b 1 ∷ b 1 ∷ b 0 ∷ b 1 ∷ b 1 ∷ b 0 ∷ b 0 ∷ b 1 ∷ b 1 ∷ b 0 ∷ b 0 ∷ b 0 ∷ b 0 ∷ b 1 ∷ b 1 ∷ b 1 ∷ b 1 ∷ b 1 ∷ b 0 ∷ b 0 ∷ b 1 ∷ b 0 ∷ b 0 ∷ b 0 ∷ b 0 ∷ b 0 ∷ b 1 ∷ b 0 ∷ b 0 ∷ b 0 ∷ b 0 ∷ b 0 ∷ b 1 ∷ b 0 ∷ b 0 ∷ b 0 ∷ b 1 ∷ b 0 ∷ b 0 ∷ b 1 ∷ b 0 ∷ b 1 ∷ b 0 ∷ b 0 ∷ b 0 ∷ b 1 ∷ b 1 ∷ b 0 ∷ b 1 ∷ b 1 ∷ b 0 ∷ b 1 ∷ b 0 ∷ c 1 50 ∷ c 0 65 ∷ c 1 65 ∷ c 1 65 ∷ c 1 66 ∷ c 1 65 ∷ c 1 65 ∷ c 1 67 ∷ c 0 66 ∷ c 0 65 ∷ c 1 65 ∷ c 1 67 ∷ c 0 66 ∷ c 0 65 ∷ c 1 67 ∷ c 1 66 ∷ c 1 67 ∷ c 0 108 ∷ c 0 109 ∷ c 0 110 ∷ c 1 110 ∷ c 1 107 ∷ c 1 107 ∷ c 0 107 ∷ c 1 107 ∷ c 1 122 ∷ b 0 ∷ b 1 ∷ b 0 ∷ b 1 ∷ b 0 ∷ b 1 ∷ b 1 ∷ b 0 ∷ b 1 ∷ b 1 ∷ b 0 ∷ b 1 ∷ b 1 ∷ b 1 ∷ b 0 ∷ b 1 ∷ b 0 ∷ b 1 ∷ b 1 ∷ b 0 ∷ b 0 ∷ b 1 ∷ b 0 ∷ b 0 ∷ b 0 ∷ b 0 ∷ b 0 ∷ b 0 ∷ b 1 ∷ b 1 ∷ b 1 ∷ b 1 ∷ b 0 ∷ b 1 ∷ b 0 ∷ c 1 64 ∷ c 1 64 ∷ c 0 64 ∷ c 1 64 ∷ c 1 64 ∷ c 1 64 ∷ c 1 64 ∷ c 1 64 ∷ c 1 64 ∷ c 1 64 ∷ c 0 64 ∷ c 1 64 ∷ c 1 64 ∷ c 1 64 ∷ c 1 64 ∷ c 0 53 ∷ c 1 100 ∷ c 1 99 ∷ c 1 99 ∷ c 1 99 ∷ c 1 99 ∷ c 1 99 ∷ c 1 99 ∷ c 1 99 ∷ c 1 120 ∷ b 1 ∷ b 1 ∷ b 0 ∷ b 1 ∷ b 1 ∷ b 0 ∷ b 0 ∷ b 0 ∷ b 0 ∷ b 1 ∷ b 1 ∷ b 0 ∷ b 0 ∷ b 1 ∷ b 1 ∷ b 0 ∷ b 0 ∷ b 1 ∷ b 0 ∷ b 1 ∷ b 1 ∷ b 1 ∷ b 0 ∷ b 0 ∷ b 0 ∷ b 0 ∷ b 1 ∷ b 1 ∷ b 1 ∷ b 1 ∷ b 0 ∷ b 0 ∷ b 0 ∷ b 0 ∷ b 1 ∷ b 0 ∷ b 1 ∷ b 0 ∷ b 0 ∷ b 0 ∷ b 0 ∷ b 0 ∷ b 0 ∷ b 0 ∷ b 1 ∷ b 0 ∷ b 0 ∷ b 0 ∷ b 1 ∷ b 0 ∷ b 0 ∷ b 0 ∷ b 0 ∷ b 1 ∷ b 0 ∷ []

abbrev shape_4 : Shape
shape_4 = record { component = 0; log2 = 3; scan = 0 }

pub written_4 : residual_items shape_4 block_4 ≡ items_4
unfolding residual_items scan cbf in_coding_order last_context sig_context sub_block_context greater1_context greater2_context u digits_up_to value_after read_u read_alignment
written_4 = refl

pub read_4 : read_coded (residual_read shape_4) items_4 ≡ Some block_4
unfolding start Engine.start code closing put_bin lps_range doublings next renormalised context_read bypass_read terminate_read residual_read scan cbf in_rows last_context sig_context sub_block_context greater1_context greater2_context u digits_up_to value_after read_u read_alignment
read_4 = refl

-- 119 items
abbrev block_5 : List ℤ
block_5 = pos 0 ∷ pos 0 ∷ pos 0 ∷ pos 0 ∷ pos 0 ∷ pos 0 ∷ pos 0 ∷ negsuc 8 ∷ pos 2 ∷ pos 0 ∷ pos 0 ∷ pos 0 ∷ pos 0 ∷ pos 0 ∷ pos 8 ∷ pos 0 ∷ pos 0 ∷ pos 0 ∷ pos 0 ∷ pos 0 ∷ pos 0 ∷ pos 0 ∷ pos 0 ∷ pos 0 ∷ pos 0 ∷ pos 0 ∷ pos 0 ∷ pos 2 ∷ pos 0 ∷ pos 0 ∷ pos 0 ∷ pos 0 ∷ pos 2 ∷ pos 0 ∷ pos 0 ∷ pos 0 ∷ pos 0 ∷ pos 0 ∷ pos 0 ∷ pos 0 ∷ pos 0 ∷ negsuc 0 ∷ pos 0 ∷ pos 0 ∷ pos 0 ∷ pos 4 ∷ pos 0 ∷ pos 0 ∷ pos 0 ∷ pos 0 ∷ pos 0 ∷ pos 0 ∷ pos 0 ∷ pos 0 ∷ pos 0 ∷ negsuc 0 ∷ pos 0 ∷ pos 0 ∷ negsuc 1 ∷ pos 0 ∷ negsuc 1 ∷ pos 0 ∷ pos 0 ∷ pos 0 ∷ []

abbrev items_5 : List Item
items_5 = c 1 16 ∷ c 1 16 ∷ c 1 17 ∷ c 1 17 ∷ c 1 18 ∷ c 1 34 ∷ c 1 34 ∷ c 1 35 ∷ c 1 35 ∷ c 1 36 ∷ b 0 ∷ b 1 ∷ c 0 71 ∷ c 0 71 ∷ c 0 71 ∷ c 0 71 ∷ c 0 71 ∷ c 0 72 ∷ c 0 71 ∷ c 0 71 ∷ c 1 72 ∷ c 0 72 ∷ c 1 71 ∷ c 0 72 ∷ c 0 72 ∷ c 0 73 ∷ c 0 104 ∷ c 1 105 ∷ c 1 103 ∷ c 1 121 ∷ b 1 ∷ b 0 ∷ b 1 ∷ b 1 ∷ b 0 ∷ b 0 ∷ b 0 ∷ c 1 50 ∷ c 0 71 ∷ c 0 71 ∷ c 0 71 ∷ c 1 71 ∷ c 0 71 ∷ c 0 71 ∷ c 1 71 ∷ c 0 71 ∷ c 0 72 ∷ c 0 72 ∷ c 0 72 ∷ c 0 72 ∷ c 0 73 ∷ c 0 73 ∷ c 0 73 ∷ c 0 73 ∷ c 1 108 ∷ c 1 107 ∷ c 1 122 ∷ b 1 ∷ b 0 ∷ b 1 ∷ b 1 ∷ b 1 ∷ b 1 ∷ b 1 ∷ b 0 ∷ b 0 ∷ b 0 ∷ b 1 ∷ b 1 ∷ b 1 ∷ b 0 ∷ b 0 ∷ c 1 50 ∷ c 0 71 ∷ c 0 71 ∷ c 0 72 ∷ c 0 73 ∷ c 1 71 ∷ c 0 71 ∷ c 0 72 ∷ c 0 73 ∷ c 0 71 ∷ c 0 71 ∷ c 1 72 ∷ c 0 73 ∷ c 0 71 ∷ c 0 71 ∷ c 0 72 ∷ c 1 73 ∷ c 1 108 ∷ c 0 107 ∷ c 1 107 ∷ c 0 122 ∷ b 1 ∷ b 1 ∷ b 0 ∷ b 0 ∷ c 1 70 ∷ c 0 70 ∷ c 0 70 ∷ c 0 70 ∷ c 0 70 ∷ c 0 70 ∷ c 0 70 ∷ c 0 70 ∷ c 0 70 ∷ c 0 70 ∷ c 0 70 ∷ c 0 70 ∷ c 0 70 ∷ c 0 70 ∷ c 1 70 ∷ c 0 53 ∷ c 1 100 ∷ c 1 99 ∷ c 0 120 ∷ b 0 ∷ b 0 ∷ b 0 ∷ []

abbrev shape_5 : Shape
shape_5 = record { component = 0; log2 = 3; scan = 2 }

pub written_5 : residual_items shape_5 block_5 ≡ items_5
unfolding residual_items scan cbf in_coding_order last_context sig_context sub_block_context greater1_context greater2_context u digits_up_to value_after read_u read_alignment
written_5 = refl

pub read_5 : read_coded (residual_read shape_5) items_5 ≡ Some block_5
unfolding start Engine.start code closing put_bin lps_range doublings next renormalised context_read bypass_read terminate_read residual_read scan cbf in_rows last_context sig_context sub_block_context greater1_context greater2_context u digits_up_to value_after read_u read_alignment
read_5 = refl

-- 456 items
abbrev block_6 : List ℤ
block_6 = pos 0 ∷ pos 2 ∷ pos 0 ∷ pos 0 ∷ pos 0 ∷ pos 0 ∷ pos 0 ∷ pos 0 ∷ pos 0 ∷ negsuc 8 ∷ pos 1 ∷ negsuc 0 ∷ pos 0 ∷ pos 0 ∷ pos 0 ∷ pos 0 ∷ pos 0 ∷ pos 0 ∷ pos 0 ∷ pos 1 ∷ pos 0 ∷ pos 0 ∷ pos 0 ∷ pos 0 ∷ pos 3 ∷ negsuc 1 ∷ pos 2 ∷ pos 0 ∷ negsuc 3 ∷ pos 0 ∷ pos 0 ∷ pos 0 ∷ pos 0 ∷ pos 3 ∷ pos 0 ∷ pos 0 ∷ pos 0 ∷ pos 0 ∷ pos 0 ∷ pos 1 ∷ pos 0 ∷ pos 0 ∷ pos 0 ∷ pos 0 ∷ pos 0 ∷ pos 0 ∷ pos 1 ∷ pos 0 ∷ pos 0 ∷ pos 0 ∷ pos 0 ∷ pos 0 ∷ pos 0 ∷ negsuc 0 ∷ pos 0 ∷ pos 0 ∷ pos 0 ∷ pos 0 ∷ pos 0 ∷ pos 0 ∷ negsuc 1 ∷ pos 0 ∷ pos 0 ∷ pos 0 ∷ pos 1 ∷ negsuc 1 ∷ pos 0 ∷ pos 0 ∷ pos 0 ∷ pos 0 ∷ negsuc 0 ∷ pos 0 ∷ pos 0 ∷ pos 0 ∷ pos 0 ∷ negsuc 1 ∷ pos 0 ∷ pos 0 ∷ pos 0 ∷ pos 0 ∷ pos 0 ∷ pos 0 ∷ pos 0 ∷ pos 0 ∷ pos 0 ∷ pos 0 ∷ pos 1 ∷ pos 0 ∷ pos 0 ∷ pos 0 ∷ pos 0 ∷ pos 1 ∷ pos 0 ∷ pos 1 ∷ pos 0 ∷ pos 0 ∷ pos 0 ∷ pos 0 ∷ negsuc 0 ∷ negsuc 0 ∷ pos 0 ∷ pos 0 ∷ pos 1 ∷ negsuc 0 ∷ pos 0 ∷ negsuc 1 ∷ negsuc 1 ∷ pos 0 ∷ pos 0 ∷ pos 1 ∷ pos 0 ∷ pos 1 ∷ pos 0 ∷ pos 2 ∷ pos 0 ∷ pos 4 ∷ pos 0 ∷ pos 0 ∷ pos 0 ∷ pos 0 ∷ negsuc 2 ∷ pos 0 ∷ pos 0 ∷ pos 0 ∷ pos 0 ∷ pos 1 ∷ pos 0 ∷ pos 0 ∷ pos 0 ∷ pos 0 ∷ negsuc 2 ∷ negsuc 0 ∷ pos 0 ∷ pos 0 ∷ negsuc 0 ∷ pos 0 ∷ pos 0 ∷ negsuc 1 ∷ pos 0 ∷ negsuc 1 ∷ pos 0 ∷ pos 0 ∷ pos 0 ∷ pos 0 ∷ pos 6 ∷ pos 0 ∷ negsuc 3 ∷ pos 0 ∷ negsuc 1 ∷ pos 0 ∷ negsuc 0 ∷ pos 0 ∷ pos 0 ∷ pos 0 ∷ pos 0 ∷ pos 0 ∷ pos 0 ∷ negsuc 0 ∷ pos 0 ∷ pos 0 ∷ pos 0 ∷ pos 2 ∷ negsuc 1 ∷ pos 0 ∷ pos 0 ∷ pos 0 ∷ pos 0 ∷ negsuc 0 ∷ pos 0 ∷ negsuc 1 ∷ negsuc 0 ∷ pos 0 ∷ pos 0 ∷ pos 0 ∷ pos 0 ∷ pos 1 ∷ pos 0 ∷ pos 0 ∷ pos 3 ∷ pos 0 ∷ pos 0 ∷ pos 0 ∷ pos 0 ∷ pos 0 ∷ pos 0 ∷ pos 0 ∷ pos 1 ∷ pos 0 ∷ pos 0 ∷ pos 0 ∷ pos 0 ∷ pos 0 ∷ pos 0 ∷ pos 0 ∷ pos 0 ∷ pos 1 ∷ pos 0 ∷ pos 0 ∷ negsuc 0 ∷ pos 0 ∷ pos 0 ∷ pos 0 ∷ pos 0 ∷ pos 1 ∷ pos 0 ∷ pos 0 ∷ pos 0 ∷ pos 0 ∷ pos 0 ∷ pos 0 ∷ pos 0 ∷ pos 0 ∷ pos 0 ∷ pos 2 ∷ pos 0 ∷ pos 0 ∷ pos 0 ∷ pos 0 ∷ pos 0 ∷ pos 0 ∷ pos 0 ∷ pos 2 ∷ pos 0 ∷ pos 0 ∷ pos 0 ∷ pos 0 ∷ pos 0 ∷ pos 0 ∷ pos 0 ∷ pos 0 ∷ pos 0 ∷ pos 0 ∷ pos 1 ∷ pos 0 ∷ pos 0 ∷ pos 0 ∷ pos 0 ∷ pos 0 ∷ pos 0 ∷ pos 0 ∷ pos 0 ∷ pos 0 ∷ pos 0 ∷ pos 0 ∷ pos 0 ∷ pos 0 ∷ pos 0 ∷ pos 0 ∷ pos 0 ∷ pos 0 ∷ pos 1 ∷ pos 0 ∷ negsuc 0 ∷ negsuc 5 ∷ pos 0 ∷ pos 0 ∷ []

abbrev items_6 : List Item
items_6 = c 1 28 ∷ c 1 28 ∷ c 1 28 ∷ c 1 28 ∷ c 1 29 ∷ c 1 29 ∷ c 1 29 ∷ c 1 46 ∷ c 1 46 ∷ c 1 46 ∷ c 1 46 ∷ c 1 47 ∷ c 1 47 ∷ c 1 47 ∷ b 1 ∷ b 1 ∷ b 0 ∷ b 1 ∷ c 0 92 ∷ c 1 93 ∷ c 0 93 ∷ c 1 92 ∷ c 0 93 ∷ c 0 93 ∷ c 0 94 ∷ c 1 112 ∷ c 1 111 ∷ c 0 111 ∷ c 1 123 ∷ b 1 ∷ b 0 ∷ b 1 ∷ b 1 ∷ b 1 ∷ b 1 ∷ b 0 ∷ b 0 ∷ b 0 ∷ c 1 52 ∷ c 0 92 ∷ c 1 92 ∷ c 0 92 ∷ c 0 92 ∷ c 0 92 ∷ c 0 92 ∷ c 0 92 ∷ c 0 92 ∷ c 0 93 ∷ c 0 93 ∷ c 1 93 ∷ c 0 93 ∷ c 0 94 ∷ c 0 94 ∷ c 0 94 ∷ c 0 94 ∷ c 0 116 ∷ c 0 117 ∷ b 0 ∷ b 1 ∷ c 1 52 ∷ c 0 92 ∷ c 1 92 ∷ c 0 92 ∷ c 0 92 ∷ c 0 92 ∷ c 0 92 ∷ c 0 92 ∷ c 0 92 ∷ c 1 93 ∷ c 1 93 ∷ c 1 93 ∷ c 0 93 ∷ c 0 94 ∷ c 0 94 ∷ c 0 94 ∷ c 0 94 ∷ c 0 112 ∷ c 0 113 ∷ c 0 114 ∷ c 0 114 ∷ b 0 ∷ b 0 ∷ b 0 ∷ b 0 ∷ c 1 52 ∷ c 0 92 ∷ c 0 92 ∷ c 0 92 ∷ c 0 92 ∷ c 0 92 ∷ c 1 92 ∷ c 0 92 ∷ c 0 92 ∷ c 0 93 ∷ c 0 93 ∷ c 0 93 ∷ c 0 93 ∷ c 1 94 ∷ c 0 94 ∷ c 1 94 ∷ c 0 94 ∷ c 0 112 ∷ c 1 113 ∷ c 1 111 ∷ c 0 123 ∷ b 0 ∷ b 1 ∷ b 1 ∷ b 1 ∷ b 1 ∷ b 0 ∷ c 1 52 ∷ c 0 92 ∷ c 0 92 ∷ c 0 93 ∷ c 1 94 ∷ c 1 92 ∷ c 0 92 ∷ c 0 93 ∷ c 0 94 ∷ c 0 92 ∷ c 0 92 ∷ c 0 93 ∷ c 0 94 ∷ c 0 92 ∷ c 1 92 ∷ c 0 93 ∷ c 0 94 ∷ c 0 116 ∷ c 0 117 ∷ c 0 118 ∷ b 0 ∷ b 0 ∷ b 0 ∷ c 1 52 ∷ c 0 94 ∷ c 0 94 ∷ c 0 94 ∷ c 1 94 ∷ c 1 94 ∷ c 1 94 ∷ c 0 94 ∷ c 0 94 ∷ c 0 94 ∷ c 1 94 ∷ c 0 94 ∷ c 1 94 ∷ c 0 94 ∷ c 0 94 ∷ c 0 94 ∷ c 0 94 ∷ c 1 112 ∷ c 0 111 ∷ c 0 111 ∷ c 1 111 ∷ c 1 111 ∷ c 0 123 ∷ b 1 ∷ b 0 ∷ b 1 ∷ b 1 ∷ b 1 ∷ b 0 ∷ b 0 ∷ c 1 52 ∷ c 0 94 ∷ c 0 94 ∷ c 1 94 ∷ c 1 94 ∷ c 0 94 ∷ c 1 94 ∷ c 0 94 ∷ c 0 94 ∷ c 0 94 ∷ c 1 94 ∷ c 0 94 ∷ c 0 94 ∷ c 1 94 ∷ c 0 94 ∷ c 0 94 ∷ c 0 94 ∷ c 0 116 ∷ c 1 117 ∷ c 1 115 ∷ c 1 115 ∷ c 1 115 ∷ c 0 124 ∷ b 0 ∷ b 1 ∷ b 1 ∷ b 1 ∷ b 1 ∷ b 0 ∷ b 0 ∷ b 1 ∷ b 0 ∷ c 1 52 ∷ c 0 94 ∷ c 0 94 ∷ c 0 94 ∷ c 1 94 ∷ c 0 94 ∷ c 0 94 ∷ c 1 94 ∷ c 1 94 ∷ c 0 94 ∷ c 0 94 ∷ c 1 94 ∷ c 1 94 ∷ c 0 94 ∷ c 0 94 ∷ c 1 94 ∷ c 0 94 ∷ c 0 116 ∷ c 1 117 ∷ c 0 115 ∷ c 1 115 ∷ c 1 115 ∷ c 1 115 ∷ c 0 124 ∷ b 1 ∷ b 0 ∷ b 0 ∷ b 1 ∷ b 1 ∷ b 0 ∷ b 0 ∷ b 1 ∷ b 1 ∷ b 1 ∷ b 1 ∷ b 1 ∷ b 0 ∷ b 0 ∷ b 1 ∷ b 0 ∷ b 1 ∷ c 1 52 ∷ c 0 92 ∷ c 0 92 ∷ c 0 93 ∷ c 0 94 ∷ c 0 92 ∷ c 0 92 ∷ c 0 93 ∷ c 1 94 ∷ c 0 92 ∷ c 0 92 ∷ c 1 93 ∷ c 0 94 ∷ c 0 92 ∷ c 0 92 ∷ c 0 93 ∷ c 0 94 ∷ c 0 116 ∷ c 1 117 ∷ c 0 124 ∷ b 1 ∷ b 0 ∷ c 1 52 ∷ c 0 94 ∷ c 1 94 ∷ c 0 94 ∷ c 0 94 ∷ c 0 94 ∷ c 0 94 ∷ c 1 94 ∷ c 1 94 ∷ c 0 94 ∷ c 0 94 ∷ c 0 94 ∷ c 0 94 ∷ c 0 94 ∷ c 0 94 ∷ c 1 94 ∷ c 0 94 ∷ c 0 116 ∷ c 0 117 ∷ c 0 118 ∷ c 1 118 ∷ c 0 124 ∷ b 1 ∷ b 1 ∷ b 1 ∷ b 1 ∷ c 1 52 ∷ c 0 94 ∷ c 1 94 ∷ c 0 94 ∷ c 0 94 ∷ c 0 94 ∷ c 1 94 ∷ c 1 94 ∷ c 1 94 ∷ c 0 94 ∷ c 0 94 ∷ c 0 94 ∷ c 0 94 ∷ c 0 94 ∷ c 0 94 ∷ c 0 94 ∷ c 0 94 ∷ c 0 116 ∷ c 0 117 ∷ c 0 118 ∷ c 0 118 ∷ b 1 ∷ b 0 ∷ b 0 ∷ b 1 ∷ c 1 52 ∷ c 0 94 ∷ c 1 94 ∷ c 0 94 ∷ c 0 94 ∷ c 0 94 ∷ c 0 94 ∷ c 0 94 ∷ c 0 94 ∷ c 1 94 ∷ c 0 94 ∷ c 0 94 ∷ c 0 94 ∷ c 0 94 ∷ c 0 94 ∷ c 0 94 ∷ c 0 94 ∷ c 0 112 ∷ c 0 113 ∷ b 0 ∷ b 1 ∷ c 1 52 ∷ c 0 92 ∷ c 0 92 ∷ c 0 93 ∷ c 1 94 ∷ c 0 92 ∷ c 0 92 ∷ c 0 93 ∷ c 0 94 ∷ c 0 92 ∷ c 0 92 ∷ c 0 93 ∷ c 0 94 ∷ c 0 92 ∷ c 0 92 ∷ c 0 93 ∷ c 0 94 ∷ c 0 112 ∷ b 0 ∷ c 1 52 ∷ c 0 94 ∷ c 0 94 ∷ c 0 94 ∷ c 1 94 ∷ c 1 94 ∷ c 1 94 ∷ c 1 94 ∷ c 1 94 ∷ c 0 94 ∷ c 1 94 ∷ c 0 94 ∷ c 0 94 ∷ c 0 94 ∷ c 0 94 ∷ c 1 94 ∷ c 0 94 ∷ c 0 112 ∷ c 1 113 ∷ c 1 111 ∷ c 1 111 ∷ c 1 111 ∷ c 1 111 ∷ c 1 111 ∷ c 1 123 ∷ b 1 ∷ b 0 ∷ b 1 ∷ b 1 ∷ b 1 ∷ b 0 ∷ b 0 ∷ b 0 ∷ b 0 ∷ b 1 ∷ b 1 ∷ b 0 ∷ b 0 ∷ b 1 ∷ b 0 ∷ b 0 ∷ b 1 ∷ b 1 ∷ b 0 ∷ b 0 ∷ c 1 52 ∷ c 1 94 ∷ c 1 94 ∷ c 0 94 ∷ c 0 94 ∷ c 0 94 ∷ c 1 94 ∷ c 0 94 ∷ c 0 94 ∷ c 1 94 ∷ c 0 94 ∷ c 0 94 ∷ c 1 94 ∷ c 0 94 ∷ c 0 94 ∷ c 0 94 ∷ c 1 94 ∷ c 1 116 ∷ c 0 115 ∷ c 0 115 ∷ c 1 115 ∷ c 1 115 ∷ c 0 115 ∷ c 1 124 ∷ b 0 ∷ b 1 ∷ b 1 ∷ b 0 ∷ b 1 ∷ b 0 ∷ b 1 ∷ b 0 ∷ b 0 ∷ b 0 ∷ b 0 ∷ b 0 ∷ c 0 94 ∷ c 0 94 ∷ c 1 94 ∷ c 0 94 ∷ c 0 94 ∷ c 0 94 ∷ c 0 94 ∷ c 0 94 ∷ c 0 94 ∷ c 1 94 ∷ c 0 94 ∷ c 1 94 ∷ c 0 94 ∷ c 0 94 ∷ c 0 94 ∷ c 0 80 ∷ c 0 116 ∷ c 1 117 ∷ c 1 115 ∷ c 1 124 ∷ b 0 ∷ b 0 ∷ b 0 ∷ b 0 ∷ b 0 ∷ []

abbrev shape_6 : Shape
shape_6 = record { component = 2; log2 = 4; scan = 2 }

pub written_6 : residual_items shape_6 block_6 ≡ items_6
unfolding residual_items scan cbf in_coding_order last_context sig_context sub_block_context greater1_context greater2_context u digits_up_to value_after read_u read_alignment
written_6 = refl

pub read_6 : read_coded (residual_read shape_6) items_6 ≡ Some block_6
unfolding start Engine.start code closing put_bin lps_range doublings next renormalised context_read bypass_read terminate_read residual_read scan cbf in_rows last_context sig_context sub_block_context greater1_context greater2_context u digits_up_to value_after read_u read_alignment
read_6 = refl

-- 152 items
abbrev block_7 : List ℤ
block_7 = pos 0 ∷ pos 0 ∷ pos 0 ∷ pos 0 ∷ pos 0 ∷ pos 0 ∷ pos 0 ∷ pos 0 ∷ pos 0 ∷ pos 0 ∷ pos 0 ∷ pos 0 ∷ pos 0 ∷ pos 0 ∷ pos 0 ∷ pos 0 ∷ pos 0 ∷ pos 0 ∷ pos 0 ∷ pos 0 ∷ pos 0 ∷ pos 0 ∷ pos 0 ∷ pos 0 ∷ pos 0 ∷ pos 0 ∷ pos 0 ∷ pos 0 ∷ pos 0 ∷ pos 0 ∷ pos 0 ∷ pos 0 ∷ pos 0 ∷ pos 0 ∷ pos 0 ∷ pos 0 ∷ pos 0 ∷ pos 0 ∷ pos 8 ∷ negsuc 1 ∷ pos 0 ∷ pos 0 ∷ pos 0 ∷ pos 0 ∷ pos 0 ∷ pos 0 ∷ pos 0 ∷ pos 0 ∷ pos 0 ∷ pos 0 ∷ pos 0 ∷ pos 0 ∷ pos 0 ∷ pos 0 ∷ pos 0 ∷ pos 0 ∷ pos 0 ∷ pos 0 ∷ pos 0 ∷ pos 0 ∷ pos 0 ∷ pos 0 ∷ pos 0 ∷ pos 0 ∷ pos 0 ∷ negsuc 0 ∷ pos 0 ∷ pos 0 ∷ pos 0 ∷ pos 0 ∷ pos 0 ∷ pos 0 ∷ pos 0 ∷ pos 0 ∷ pos 0 ∷ pos 0 ∷ pos 0 ∷ pos 0 ∷ pos 0 ∷ pos 0 ∷ pos 0 ∷ pos 0 ∷ pos 0 ∷ pos 0 ∷ pos 0 ∷ pos 0 ∷ pos 0 ∷ pos 0 ∷ pos 0 ∷ pos 0 ∷ pos 0 ∷ pos 0 ∷ pos 0 ∷ pos 0 ∷ pos 0 ∷ pos 0 ∷ pos 0 ∷ pos 0 ∷ pos 0 ∷ pos 0 ∷ pos 0 ∷ pos 0 ∷ pos 0 ∷ pos 0 ∷ pos 0 ∷ pos 0 ∷ pos 0 ∷ pos 0 ∷ pos 0 ∷ pos 0 ∷ pos 0 ∷ pos 0 ∷ pos 0 ∷ pos 0 ∷ pos 0 ∷ pos 0 ∷ pos 0 ∷ pos 0 ∷ pos 0 ∷ pos 0 ∷ pos 0 ∷ pos 0 ∷ pos 0 ∷ pos 0 ∷ pos 0 ∷ pos 0 ∷ pos 0 ∷ pos 0 ∷ pos 0 ∷ pos 0 ∷ negsuc 3 ∷ pos 0 ∷ pos 0 ∷ pos 0 ∷ pos 0 ∷ pos 0 ∷ pos 0 ∷ pos 0 ∷ pos 0 ∷ pos 0 ∷ pos 0 ∷ pos 0 ∷ pos 0 ∷ pos 0 ∷ pos 0 ∷ pos 0 ∷ pos 0 ∷ negsuc 2 ∷ pos 0 ∷ pos 0 ∷ pos 0 ∷ pos 0 ∷ pos 0 ∷ pos 0 ∷ pos 0 ∷ pos 0 ∷ pos 0 ∷ pos 0 ∷ pos 0 ∷ pos 0 ∷ pos 0 ∷ pos 0 ∷ pos 0 ∷ pos 0 ∷ pos 0 ∷ pos 0 ∷ pos 0 ∷ pos 0 ∷ pos 0 ∷ pos 0 ∷ pos 0 ∷ pos 0 ∷ pos 0 ∷ pos 0 ∷ pos 0 ∷ pos 0 ∷ pos 0 ∷ pos 0 ∷ pos 0 ∷ pos 0 ∷ pos 5 ∷ pos 0 ∷ pos 0 ∷ negsuc 2 ∷ pos 0 ∷ pos 0 ∷ pos 0 ∷ pos 0 ∷ pos 0 ∷ pos 0 ∷ pos 0 ∷ pos 0 ∷ pos 0 ∷ pos 0 ∷ pos 0 ∷ pos 0 ∷ pos 0 ∷ pos 0 ∷ pos 0 ∷ pos 0 ∷ pos 0 ∷ pos 0 ∷ pos 0 ∷ pos 0 ∷ pos 0 ∷ pos 0 ∷ pos 0 ∷ pos 0 ∷ pos 0 ∷ pos 0 ∷ pos 0 ∷ pos 0 ∷ pos 0 ∷ pos 0 ∷ pos 0 ∷ pos 0 ∷ pos 0 ∷ pos 0 ∷ pos 0 ∷ pos 0 ∷ pos 0 ∷ pos 0 ∷ pos 0 ∷ pos 0 ∷ pos 0 ∷ pos 0 ∷ pos 0 ∷ negsuc 0 ∷ pos 0 ∷ pos 0 ∷ pos 0 ∷ pos 0 ∷ pos 0 ∷ pos 0 ∷ pos 0 ∷ pos 0 ∷ pos 0 ∷ pos 0 ∷ pos 0 ∷ pos 0 ∷ pos 0 ∷ pos 0 ∷ pos 0 ∷ pos 0 ∷ pos 0 ∷ pos 0 ∷ pos 0 ∷ pos 0 ∷ pos 0 ∷ pos 0 ∷ pos 0 ∷ pos 0 ∷ pos 0 ∷ pos 0 ∷ pos 0 ∷ pos 0 ∷ []

abbrev items_7 : List Item
items_7 = c 1 28 ∷ c 1 28 ∷ c 1 28 ∷ c 1 28 ∷ c 1 29 ∷ c 1 29 ∷ c 0 29 ∷ c 1 46 ∷ c 1 46 ∷ c 1 46 ∷ c 1 46 ∷ c 1 47 ∷ c 0 47 ∷ b 1 ∷ b 1 ∷ b 1 ∷ c 0 92 ∷ c 0 92 ∷ c 0 92 ∷ c 0 92 ∷ c 0 92 ∷ c 0 92 ∷ c 0 93 ∷ c 0 92 ∷ c 0 92 ∷ c 0 93 ∷ c 0 93 ∷ c 1 92 ∷ c 0 93 ∷ c 0 93 ∷ c 0 94 ∷ c 1 112 ∷ c 1 111 ∷ c 1 123 ∷ b 1 ∷ b 0 ∷ b 0 ∷ b 1 ∷ b 1 ∷ b 1 ∷ b 0 ∷ c 0 52 ∷ c 1 51 ∷ c 0 92 ∷ c 1 92 ∷ c 0 92 ∷ c 0 92 ∷ c 0 92 ∷ c 1 92 ∷ c 0 92 ∷ c 0 93 ∷ c 0 92 ∷ c 0 92 ∷ c 0 93 ∷ c 0 93 ∷ c 0 92 ∷ c 0 93 ∷ c 0 93 ∷ c 0 94 ∷ c 1 116 ∷ c 1 115 ∷ c 0 124 ∷ b 1 ∷ b 0 ∷ b 1 ∷ b 1 ∷ b 1 ∷ b 1 ∷ b 1 ∷ b 0 ∷ b 0 ∷ b 0 ∷ c 1 51 ∷ c 0 92 ∷ c 1 92 ∷ c 0 92 ∷ c 0 92 ∷ c 0 92 ∷ c 0 92 ∷ c 0 92 ∷ c 0 93 ∷ c 0 92 ∷ c 0 92 ∷ c 0 93 ∷ c 0 93 ∷ c 0 92 ∷ c 0 93 ∷ c 0 93 ∷ c 0 94 ∷ c 0 116 ∷ b 1 ∷ c 1 52 ∷ c 0 94 ∷ c 0 94 ∷ c 1 94 ∷ c 0 94 ∷ c 0 94 ∷ c 0 94 ∷ c 0 94 ∷ c 1 94 ∷ c 0 94 ∷ c 0 94 ∷ c 0 94 ∷ c 0 94 ∷ c 0 94 ∷ c 0 94 ∷ c 0 94 ∷ c 0 94 ∷ c 1 112 ∷ c 1 111 ∷ c 1 123 ∷ b 1 ∷ b 1 ∷ b 0 ∷ b 1 ∷ b 1 ∷ b 0 ∷ c 1 52 ∷ c 0 92 ∷ c 0 92 ∷ c 0 92 ∷ c 0 92 ∷ c 0 92 ∷ c 0 92 ∷ c 0 92 ∷ c 0 92 ∷ c 0 93 ∷ c 0 93 ∷ c 0 93 ∷ c 1 93 ∷ c 0 94 ∷ c 0 94 ∷ c 0 94 ∷ c 0 94 ∷ c 0 116 ∷ b 1 ∷ c 0 94 ∷ c 0 94 ∷ c 0 94 ∷ c 0 94 ∷ c 0 94 ∷ c 0 94 ∷ c 0 94 ∷ c 0 94 ∷ c 0 94 ∷ c 0 94 ∷ c 0 94 ∷ c 0 94 ∷ c 0 94 ∷ c 0 94 ∷ c 0 94 ∷ c 0 80 ∷ []

abbrev shape_7 : Shape
shape_7 = record { component = 2; log2 = 4; scan = 2 }

pub written_7 : residual_items shape_7 block_7 ≡ items_7
unfolding residual_items scan cbf in_coding_order last_context sig_context sub_block_context greater1_context greater2_context u digits_up_to value_after read_u read_alignment
written_7 = refl

pub read_7 : read_coded (residual_read shape_7) items_7 ≡ Some block_7
unfolding start Engine.start code closing put_bin lps_range doublings next renormalised context_read bypass_read terminate_read residual_read scan cbf in_rows last_context sig_context sub_block_context greater1_context greater2_context u digits_up_to value_after read_u read_alignment
read_7 = refl

-- 888 items
abbrev block_8 : List ℤ
block_8 = pos 0 ∷ pos 0 ∷ pos 0 ∷ pos 0 ∷ pos 0 ∷ pos 0 ∷ negsuc 9 ∷ pos 33 ∷ pos 0 ∷ pos 0 ∷ pos 0 ∷ pos 0 ∷ pos 0 ∷ negsuc 18 ∷ pos 0 ∷ negsuc 36 ∷ pos 0 ∷ pos 0 ∷ pos 0 ∷ pos 41 ∷ negsuc 66 ∷ pos 0 ∷ pos 12 ∷ pos 0 ∷ pos 0 ∷ pos 0 ∷ pos 32 ∷ negsuc 81 ∷ pos 0 ∷ pos 0 ∷ pos 0 ∷ pos 0 ∷ negsuc 13 ∷ pos 0 ∷ pos 96 ∷ pos 0 ∷ pos 0 ∷ pos 0 ∷ negsuc 77 ∷ pos 0 ∷ pos 0 ∷ pos 0 ∷ pos 5 ∷ pos 0 ∷ pos 0 ∷ pos 0 ∷ pos 0 ∷ pos 0 ∷ pos 0 ∷ pos 0 ∷ pos 32 ∷ pos 0 ∷ pos 0 ∷ pos 0 ∷ pos 18 ∷ pos 0 ∷ pos 0 ∷ pos 0 ∷ pos 38 ∷ negsuc 18 ∷ pos 37 ∷ negsuc 13 ∷ pos 0 ∷ pos 0 ∷ pos 0 ∷ pos 0 ∷ negsuc 29 ∷ negsuc 21 ∷ pos 0 ∷ negsuc 65 ∷ pos 63 ∷ pos 0 ∷ pos 0 ∷ pos 0 ∷ pos 0 ∷ pos 0 ∷ pos 0 ∷ pos 0 ∷ negsuc 18 ∷ pos 0 ∷ pos 48 ∷ pos 0 ∷ pos 32 ∷ pos 0 ∷ pos 0 ∷ pos 0 ∷ negsuc 44 ∷ negsuc 6 ∷ pos 0 ∷ pos 0 ∷ pos 0 ∷ pos 0 ∷ pos 0 ∷ pos 0 ∷ pos 0 ∷ pos 0 ∷ pos 0 ∷ negsuc 24 ∷ pos 0 ∷ pos 0 ∷ pos 0 ∷ pos 0 ∷ pos 0 ∷ pos 0 ∷ pos 40 ∷ pos 0 ∷ pos 0 ∷ pos 0 ∷ pos 32 ∷ pos 0 ∷ pos 0 ∷ pos 0 ∷ pos 0 ∷ pos 0 ∷ pos 0 ∷ pos 0 ∷ pos 0 ∷ pos 0 ∷ pos 0 ∷ pos 0 ∷ pos 0 ∷ pos 0 ∷ pos 0 ∷ pos 0 ∷ pos 10 ∷ pos 0 ∷ pos 0 ∷ pos 0 ∷ pos 0 ∷ pos 0 ∷ pos 0 ∷ pos 0 ∷ pos 0 ∷ pos 0 ∷ pos 0 ∷ pos 0 ∷ pos 0 ∷ pos 0 ∷ pos 0 ∷ pos 0 ∷ negsuc 22 ∷ pos 0 ∷ pos 0 ∷ pos 0 ∷ pos 1 ∷ pos 12 ∷ pos 0 ∷ pos 0 ∷ pos 0 ∷ pos 0 ∷ negsuc 30 ∷ pos 0 ∷ pos 0 ∷ pos 0 ∷ pos 0 ∷ pos 0 ∷ negsuc 172 ∷ negsuc 0 ∷ pos 0 ∷ pos 0 ∷ pos 0 ∷ pos 0 ∷ pos 0 ∷ pos 0 ∷ pos 0 ∷ pos 0 ∷ pos 0 ∷ pos 0 ∷ pos 0 ∷ pos 0 ∷ pos 0 ∷ pos 0 ∷ pos 0 ∷ negsuc 19 ∷ pos 0 ∷ pos 13 ∷ pos 0 ∷ pos 0 ∷ pos 0 ∷ pos 0 ∷ pos 0 ∷ pos 7 ∷ pos 0 ∷ pos 0 ∷ pos 0 ∷ pos 0 ∷ pos 0 ∷ pos 0 ∷ pos 0 ∷ pos 0 ∷ pos 0 ∷ negsuc 13 ∷ pos 0 ∷ pos 27 ∷ pos 0 ∷ pos 0 ∷ pos 0 ∷ pos 0 ∷ pos 0 ∷ pos 0 ∷ pos 0 ∷ pos 0 ∷ pos 0 ∷ pos 0 ∷ pos 1 ∷ pos 0 ∷ pos 0 ∷ negsuc 12 ∷ pos 0 ∷ pos 30 ∷ pos 0 ∷ pos 0 ∷ pos 0 ∷ pos 0 ∷ pos 0 ∷ pos 0 ∷ pos 0 ∷ pos 0 ∷ pos 0 ∷ pos 0 ∷ pos 0 ∷ pos 0 ∷ pos 0 ∷ pos 0 ∷ pos 0 ∷ pos 0 ∷ pos 0 ∷ pos 0 ∷ pos 18 ∷ pos 62 ∷ pos 0 ∷ pos 41 ∷ pos 0 ∷ pos 0 ∷ pos 0 ∷ negsuc 69 ∷ pos 0 ∷ pos 0 ∷ pos 82 ∷ pos 0 ∷ pos 0 ∷ pos 0 ∷ pos 0 ∷ pos 0 ∷ pos 0 ∷ pos 41 ∷ pos 0 ∷ negsuc 45 ∷ pos 0 ∷ pos 0 ∷ pos 0 ∷ pos 0 ∷ pos 0 ∷ pos 0 ∷ pos 0 ∷ pos 0 ∷ []

abbrev items_8 : List Item
items_8 = c 1 19 ∷ c 1 19 ∷ c 1 20 ∷ c 1 20 ∷ c 1 21 ∷ c 1 21 ∷ c 1 22 ∷ c 1 37 ∷ c 1 37 ∷ c 1 38 ∷ c 1 38 ∷ c 1 39 ∷ c 1 39 ∷ c 1 40 ∷ b 1 ∷ b 0 ∷ b 1 ∷ b 0 ∷ c 0 77 ∷ c 1 77 ∷ c 0 77 ∷ c 0 77 ∷ c 0 77 ∷ c 0 78 ∷ c 0 78 ∷ c 0 78 ∷ c 0 78 ∷ c 0 78 ∷ c 1 79 ∷ c 1 104 ∷ c 1 103 ∷ c 0 103 ∷ c 1 121 ∷ b 0 ∷ b 1 ∷ b 0 ∷ b 1 ∷ b 1 ∷ b 1 ∷ b 1 ∷ b 1 ∷ b 1 ∷ b 1 ∷ b 1 ∷ b 1 ∷ b 0 ∷ b 0 ∷ b 0 ∷ b 1 ∷ b 1 ∷ b 0 ∷ b 1 ∷ b 1 ∷ b 1 ∷ b 1 ∷ b 1 ∷ b 0 ∷ b 1 ∷ b 1 ∷ c 1 50 ∷ c 1 77 ∷ c 1 77 ∷ c 0 77 ∷ c 0 77 ∷ c 0 77 ∷ c 0 78 ∷ c 0 77 ∷ c 0 77 ∷ c 1 78 ∷ c 0 79 ∷ c 0 77 ∷ c 1 78 ∷ c 0 79 ∷ c 0 78 ∷ c 1 79 ∷ c 1 79 ∷ c 1 108 ∷ c 1 107 ∷ c 1 107 ∷ c 0 107 ∷ c 1 107 ∷ c 1 107 ∷ c 1 122 ∷ b 1 ∷ b 0 ∷ b 1 ∷ b 1 ∷ b 1 ∷ b 1 ∷ b 1 ∷ b 1 ∷ b 1 ∷ b 1 ∷ b 1 ∷ b 1 ∷ b 0 ∷ b 0 ∷ b 0 ∷ b 1 ∷ b 1 ∷ b 1 ∷ b 1 ∷ b 1 ∷ b 0 ∷ b 1 ∷ b 1 ∷ b 1 ∷ b 1 ∷ b 1 ∷ b 1 ∷ b 0 ∷ b 0 ∷ b 1 ∷ b 0 ∷ b 1 ∷ b 1 ∷ b 1 ∷ b 1 ∷ b 1 ∷ b 1 ∷ b 1 ∷ b 0 ∷ b 0 ∷ b 0 ∷ b 1 ∷ b 1 ∷ b 0 ∷ b 1 ∷ b 1 ∷ b 1 ∷ b 0 ∷ b 0 ∷ b 1 ∷ b 0 ∷ b 1 ∷ c 1 50 ∷ c 0 77 ∷ c 1 77 ∷ c 0 77 ∷ c 0 78 ∷ c 0 77 ∷ c 0 77 ∷ c 0 79 ∷ c 0 78 ∷ c 0 77 ∷ c 0 77 ∷ c 0 79 ∷ c 0 78 ∷ c 0 77 ∷ c 0 79 ∷ c 0 78 ∷ c 0 79 ∷ c 1 108 ∷ c 1 122 ∷ b 1 ∷ b 1 ∷ b 1 ∷ b 1 ∷ b 1 ∷ b 1 ∷ b 1 ∷ b 1 ∷ b 1 ∷ b 1 ∷ b 0 ∷ b 0 ∷ b 0 ∷ b 0 ∷ b 0 ∷ b 0 ∷ b 1 ∷ c 1 50 ∷ c 0 77 ∷ c 0 77 ∷ c 0 77 ∷ c 0 77 ∷ c 0 77 ∷ c 0 78 ∷ c 0 77 ∷ c 0 77 ∷ c 0 78 ∷ c 1 79 ∷ c 1 77 ∷ c 0 78 ∷ c 1 79 ∷ c 0 78 ∷ c 0 79 ∷ c 0 79 ∷ c 1 108 ∷ c 1 107 ∷ c 1 107 ∷ c 1 122 ∷ b 0 ∷ b 1 ∷ b 0 ∷ b 1 ∷ b 1 ∷ b 1 ∷ b 1 ∷ b 1 ∷ b 0 ∷ b 0 ∷ b 1 ∷ b 1 ∷ b 1 ∷ b 1 ∷ b 1 ∷ b 1 ∷ b 0 ∷ b 1 ∷ b 0 ∷ b 1 ∷ b 1 ∷ b 1 ∷ b 1 ∷ b 1 ∷ b 1 ∷ b 0 ∷ b 0 ∷ b 1 ∷ b 1 ∷ b 0 ∷ c 0 50 ∷ c 1 50 ∷ c 1 77 ∷ c 1 77 ∷ c 0 77 ∷ c 0 78 ∷ c 0 77 ∷ c 1 77 ∷ c 0 79 ∷ c 0 78 ∷ c 1 77 ∷ c 0 77 ∷ c 0 79 ∷ c 0 78 ∷ c 1 77 ∷ c 0 79 ∷ c 0 78 ∷ c 0 79 ∷ c 1 108 ∷ c 1 107 ∷ c 1 107 ∷ c 1 107 ∷ c 1 107 ∷ c 1 122 ∷ b 1 ∷ b 0 ∷ b 0 ∷ b 0 ∷ b 0 ∷ b 1 ∷ b 1 ∷ b 1 ∷ b 1 ∷ b 1 ∷ b 1 ∷ b 1 ∷ b 1 ∷ b 0 ∷ b 0 ∷ b 1 ∷ b 0 ∷ b 0 ∷ b 1 ∷ b 1 ∷ b 1 ∷ b 1 ∷ b 1 ∷ b 1 ∷ b 1 ∷ b 1 ∷ b 0 ∷ b 0 ∷ b 0 ∷ b 0 ∷ b 1 ∷ b 1 ∷ b 1 ∷ b 1 ∷ b 1 ∷ b 1 ∷ b 1 ∷ b 0 ∷ b 1 ∷ b 1 ∷ b 1 ∷ b 1 ∷ b 1 ∷ b 1 ∷ b 1 ∷ b 1 ∷ b 1 ∷ b 0 ∷ b 0 ∷ b 1 ∷ b 1 ∷ b 0 ∷ b 0 ∷ b 1 ∷ b 0 ∷ b 0 ∷ b 0 ∷ b 0 ∷ b 0 ∷ c 1 50 ∷ c 0 77 ∷ c 0 77 ∷ c 0 77 ∷ c 0 77 ∷ c 0 77 ∷ c 1 78 ∷ c 1 77 ∷ c 0 77 ∷ c 0 78 ∷ c 1 79 ∷ c 0 77 ∷ c 0 78 ∷ c 0 79 ∷ c 1 78 ∷ c 0 79 ∷ c 0 79 ∷ c 1 108 ∷ c 1 107 ∷ c 1 107 ∷ c 1 107 ∷ c 1 122 ∷ b 1 ∷ b 1 ∷ b 0 ∷ b 1 ∷ b 1 ∷ b 1 ∷ b 1 ∷ b 1 ∷ b 1 ∷ b 1 ∷ b 0 ∷ b 0 ∷ b 0 ∷ b 1 ∷ b 1 ∷ b 1 ∷ b 1 ∷ b 1 ∷ b 1 ∷ b 1 ∷ b 0 ∷ b 1 ∷ b 1 ∷ b 1 ∷ b 1 ∷ b 1 ∷ b 1 ∷ b 1 ∷ b 1 ∷ b 1 ∷ b 0 ∷ b 1 ∷ b 0 ∷ b 1 ∷ b 1 ∷ b 1 ∷ b 1 ∷ b 0 ∷ b 0 ∷ b 0 ∷ b 1 ∷ c 1 50 ∷ c 0 77 ∷ c 0 77 ∷ c 0 77 ∷ c 0 78 ∷ c 0 77 ∷ c 0 77 ∷ c 0 79 ∷ c 0 78 ∷ c 0 77 ∷ c 0 77 ∷ c 0 79 ∷ c 0 78 ∷ c 1 77 ∷ c 0 79 ∷ c 0 78 ∷ c 0 79 ∷ c 1 108 ∷ c 1 122 ∷ b 0 ∷ b 1 ∷ b 1 ∷ b 1 ∷ b 1 ∷ b 1 ∷ b 1 ∷ b 1 ∷ b 1 ∷ b 0 ∷ b 0 ∷ b 0 ∷ b 0 ∷ b 1 ∷ b 1 ∷ c 1 50 ∷ c 0 77 ∷ c 0 77 ∷ c 0 77 ∷ c 0 77 ∷ c 0 77 ∷ c 1 78 ∷ c 0 77 ∷ c 1 77 ∷ c 0 78 ∷ c 0 79 ∷ c 0 77 ∷ c 0 78 ∷ c 0 79 ∷ c 0 78 ∷ c 0 79 ∷ c 0 79 ∷ c 1 108 ∷ c 1 107 ∷ c 1 122 ∷ b 0 ∷ b 1 ∷ b 1 ∷ b 1 ∷ b 1 ∷ b 1 ∷ b 0 ∷ b 0 ∷ b 1 ∷ b 1 ∷ b 1 ∷ b 1 ∷ b 1 ∷ b 1 ∷ b 0 ∷ b 1 ∷ b 0 ∷ b 0 ∷ b 1 ∷ c 1 50 ∷ c 0 77 ∷ c 0 77 ∷ c 0 77 ∷ c 0 78 ∷ c 0 77 ∷ c 0 77 ∷ c 0 79 ∷ c 0 78 ∷ c 0 77 ∷ c 0 77 ∷ c 0 79 ∷ c 1 78 ∷ c 0 77 ∷ c 1 79 ∷ c 0 78 ∷ c 0 79 ∷ c 1 108 ∷ c 1 107 ∷ c 1 122 ∷ b 0 ∷ b 0 ∷ b 1 ∷ b 1 ∷ b 1 ∷ b 1 ∷ b 1 ∷ b 1 ∷ b 1 ∷ b 0 ∷ b 1 ∷ b 0 ∷ b 0 ∷ b 1 ∷ b 1 ∷ b 1 ∷ b 1 ∷ b 1 ∷ b 1 ∷ b 1 ∷ b 0 ∷ b 0 ∷ b 1 ∷ b 0 ∷ b 1 ∷ c 1 50 ∷ c 1 79 ∷ c 0 79 ∷ c 1 79 ∷ c 1 79 ∷ c 1 79 ∷ c 0 79 ∷ c 0 79 ∷ c 1 79 ∷ c 0 79 ∷ c 0 79 ∷ c 0 79 ∷ c 0 79 ∷ c 0 79 ∷ c 0 79 ∷ c 0 79 ∷ c 0 79 ∷ c 1 108 ∷ c 1 107 ∷ c 1 107 ∷ c 1 107 ∷ c 1 107 ∷ c 1 122 ∷ b 1 ∷ b 0 ∷ b 1 ∷ b 0 ∷ b 0 ∷ b 1 ∷ b 1 ∷ b 1 ∷ b 1 ∷ b 1 ∷ b 1 ∷ b 0 ∷ b 1 ∷ b 1 ∷ b 0 ∷ b 1 ∷ b 1 ∷ b 1 ∷ b 1 ∷ b 1 ∷ b 1 ∷ b 1 ∷ b 0 ∷ b 0 ∷ b 0 ∷ b 0 ∷ b 0 ∷ b 0 ∷ b 1 ∷ b 1 ∷ b 1 ∷ b 1 ∷ b 1 ∷ b 1 ∷ b 1 ∷ b 0 ∷ b 0 ∷ b 0 ∷ b 1 ∷ b 0 ∷ b 0 ∷ b 0 ∷ b 0 ∷ b 0 ∷ b 1 ∷ b 1 ∷ b 1 ∷ b 1 ∷ b 1 ∷ b 0 ∷ b 1 ∷ b 1 ∷ b 0 ∷ c 1 50 ∷ c 0 79 ∷ c 0 79 ∷ c 0 79 ∷ c 1 79 ∷ c 0 79 ∷ c 0 79 ∷ c 0 79 ∷ c 1 79 ∷ c 0 79 ∷ c 0 79 ∷ c 1 79 ∷ c 0 79 ∷ c 0 79 ∷ c 1 79 ∷ c 0 79 ∷ c 0 79 ∷ c 1 108 ∷ c 1 107 ∷ c 1 107 ∷ c 1 107 ∷ c 1 122 ∷ b 1 ∷ b 1 ∷ b 0 ∷ b 1 ∷ b 1 ∷ b 1 ∷ b 1 ∷ b 1 ∷ b 0 ∷ b 0 ∷ b 1 ∷ b 1 ∷ b 1 ∷ b 1 ∷ b 1 ∷ b 1 ∷ b 1 ∷ b 0 ∷ b 0 ∷ b 0 ∷ b 1 ∷ b 1 ∷ b 1 ∷ b 1 ∷ b 1 ∷ b 1 ∷ b 1 ∷ b 1 ∷ b 1 ∷ b 0 ∷ b 1 ∷ b 0 ∷ b 1 ∷ b 0 ∷ b 1 ∷ b 1 ∷ b 1 ∷ b 1 ∷ b 1 ∷ b 1 ∷ b 0 ∷ b 1 ∷ b 0 ∷ b 0 ∷ b 0 ∷ b 0 ∷ c 1 50 ∷ c 0 79 ∷ c 0 79 ∷ c 0 79 ∷ c 0 79 ∷ c 0 79 ∷ c 0 79 ∷ c 0 79 ∷ c 0 79 ∷ c 0 79 ∷ c 0 79 ∷ c 0 79 ∷ c 1 79 ∷ c 0 79 ∷ c 0 79 ∷ c 1 79 ∷ c 0 79 ∷ c 1 108 ∷ c 0 107 ∷ c 1 122 ∷ b 0 ∷ b 0 ∷ b 1 ∷ b 1 ∷ b 1 ∷ b 1 ∷ b 1 ∷ b 0 ∷ b 1 ∷ b 1 ∷ c 1 50 ∷ c 0 79 ∷ c 0 79 ∷ c 1 79 ∷ c 0 79 ∷ c 1 79 ∷ c 0 79 ∷ c 1 79 ∷ c 1 79 ∷ c 0 79 ∷ c 0 79 ∷ c 1 79 ∷ c 0 79 ∷ c 0 79 ∷ c 0 79 ∷ c 1 79 ∷ c 0 79 ∷ c 1 108 ∷ c 1 107 ∷ c 1 107 ∷ c 1 107 ∷ c 1 107 ∷ c 1 107 ∷ c 1 122 ∷ b 0 ∷ b 1 ∷ b 0 ∷ b 0 ∷ b 1 ∷ b 1 ∷ b 1 ∷ b 1 ∷ b 1 ∷ b 1 ∷ b 1 ∷ b 1 ∷ b 0 ∷ b 1 ∷ b 0 ∷ b 1 ∷ b 1 ∷ b 1 ∷ b 1 ∷ b 1 ∷ b 1 ∷ b 1 ∷ b 1 ∷ b 1 ∷ b 0 ∷ b 0 ∷ b 0 ∷ b 1 ∷ b 0 ∷ b 0 ∷ b 0 ∷ b 1 ∷ b 1 ∷ b 1 ∷ b 1 ∷ b 1 ∷ b 0 ∷ b 0 ∷ b 1 ∷ b 1 ∷ b 1 ∷ b 1 ∷ b 0 ∷ b 0 ∷ b 1 ∷ b 0 ∷ b 1 ∷ b 0 ∷ b 0 ∷ b 0 ∷ b 0 ∷ b 1 ∷ b 1 ∷ b 1 ∷ b 1 ∷ b 1 ∷ b 0 ∷ b 1 ∷ b 0 ∷ b 0 ∷ b 0 ∷ b 1 ∷ c 1 50 ∷ c 0 79 ∷ c 0 79 ∷ c 0 79 ∷ c 0 79 ∷ c 0 79 ∷ c 0 79 ∷ c 1 79 ∷ c 1 79 ∷ c 1 79 ∷ c 0 79 ∷ c 1 79 ∷ c 0 79 ∷ c 0 79 ∷ c 0 79 ∷ c 1 79 ∷ c 0 79 ∷ c 1 108 ∷ c 1 107 ∷ c 1 107 ∷ c 1 107 ∷ c 1 107 ∷ c 1 122 ∷ b 1 ∷ b 0 ∷ b 1 ∷ b 1 ∷ b 0 ∷ b 1 ∷ b 1 ∷ b 1 ∷ b 1 ∷ b 1 ∷ b 1 ∷ b 1 ∷ b 0 ∷ b 0 ∷ b 0 ∷ b 0 ∷ b 1 ∷ b 1 ∷ b 1 ∷ b 1 ∷ b 1 ∷ b 1 ∷ b 1 ∷ b 0 ∷ b 1 ∷ b 0 ∷ b 1 ∷ b 0 ∷ b 1 ∷ b 1 ∷ b 1 ∷ b 1 ∷ b 0 ∷ b 1 ∷ b 1 ∷ b 1 ∷ b 1 ∷ b 1 ∷ b 1 ∷ b 0 ∷ b 1 ∷ b 0 ∷ b 0 ∷ b 1 ∷ b 1 ∷ b 0 ∷ b 1 ∷ b 1 ∷ b 1 ∷ b 0 ∷ c 0 76 ∷ c 0 76 ∷ c 1 76 ∷ c 1 76 ∷ c 1 76 ∷ c 0 76 ∷ c 0 76 ∷ c 0 76 ∷ c 0 76 ∷ c 0 76 ∷ c 0 76 ∷ c 0 76 ∷ c 1 76 ∷ c 0 76 ∷ c 0 76 ∷ c 0 53 ∷ c 1 100 ∷ c 1 99 ∷ c 1 99 ∷ c 1 99 ∷ c 1 120 ∷ b 0 ∷ b 0 ∷ b 0 ∷ b 1 ∷ b 1 ∷ b 1 ∷ b 1 ∷ b 1 ∷ b 1 ∷ b 1 ∷ b 1 ∷ b 0 ∷ b 1 ∷ b 0 ∷ b 1 ∷ b 1 ∷ b 1 ∷ b 1 ∷ b 1 ∷ b 1 ∷ b 1 ∷ b 1 ∷ b 1 ∷ b 0 ∷ b 0 ∷ b 0 ∷ b 0 ∷ b 1 ∷ b 1 ∷ b 1 ∷ b 1 ∷ b 1 ∷ b 1 ∷ b 1 ∷ b 1 ∷ b 1 ∷ b 0 ∷ b 0 ∷ b 1 ∷ b 0 ∷ b 1 ∷ b 1 ∷ b 0 ∷ b 1 ∷ b 0 ∷ b 1 ∷ b 0 ∷ b 0 ∷ []

abbrev shape_8 : Shape
shape_8 = record { component = 0; log2 = 4; scan = 0 }

pub written_8 : residual_items shape_8 block_8 ≡ items_8
unfolding residual_items scan cbf in_coding_order last_context sig_context sub_block_context greater1_context greater2_context u digits_up_to value_after read_u read_alignment
written_8 = refl

pub read_8 : read_coded (residual_read shape_8) items_8 ≡ Some block_8
unfolding start Engine.start code closing put_bin lps_range doublings next renormalised context_read bypass_read terminate_read residual_read scan cbf in_rows last_context sig_context sub_block_context greater1_context greater2_context u digits_up_to value_after read_u read_alignment
read_8 = refl

-- 2965 items
abbrev block_9 : List ℤ
block_9 = pos 2 ∷ pos 0 ∷ negsuc 3 ∷ pos 0 ∷ pos 0 ∷ pos 0 ∷ pos 1 ∷ pos 0 ∷ pos 1 ∷ negsuc 1 ∷ pos 1 ∷ pos 1 ∷ pos 1 ∷ negsuc 4 ∷ negsuc 0 ∷ pos 0 ∷ pos 1 ∷ pos 1 ∷ pos 1 ∷ negsuc 0 ∷ pos 1 ∷ negsuc 1 ∷ pos 1 ∷ pos 0 ∷ pos 0 ∷ pos 0 ∷ pos 0 ∷ negsuc 0 ∷ negsuc 0 ∷ pos 0 ∷ negsuc 0 ∷ pos 0 ∷ negsuc 0 ∷ negsuc 4 ∷ pos 7 ∷ pos 0 ∷ negsuc 3 ∷ negsuc 0 ∷ negsuc 0 ∷ negsuc 0 ∷ negsuc 0 ∷ pos 2 ∷ pos 0 ∷ pos 3 ∷ pos 2 ∷ negsuc 2 ∷ pos 0 ∷ pos 0 ∷ pos 0 ∷ negsuc 0 ∷ pos 1 ∷ negsuc 0 ∷ pos 0 ∷ pos 1 ∷ pos 3 ∷ pos 0 ∷ negsuc 2 ∷ pos 3 ∷ pos 0 ∷ pos 0 ∷ pos 1 ∷ pos 0 ∷ pos 0 ∷ pos 1 ∷ pos 1 ∷ negsuc 2 ∷ pos 0 ∷ pos 2 ∷ pos 0 ∷ negsuc 0 ∷ pos 1 ∷ negsuc 0 ∷ negsuc 2 ∷ pos 7 ∷ pos 2 ∷ negsuc 1 ∷ pos 1 ∷ pos 0 ∷ pos 0 ∷ negsuc 0 ∷ pos 0 ∷ pos 2 ∷ pos 1 ∷ negsuc 1 ∷ negsuc 0 ∷ pos 2 ∷ pos 1 ∷ pos 2 ∷ pos 0 ∷ pos 1 ∷ pos 1 ∷ pos 0 ∷ pos 0 ∷ negsuc 0 ∷ pos 2 ∷ pos 0 ∷ pos 1 ∷ pos 0 ∷ pos 1 ∷ pos 0 ∷ pos 2 ∷ pos 0 ∷ negsuc 2 ∷ negsuc 0 ∷ negsuc 0 ∷ negsuc 0 ∷ negsuc 0 ∷ pos 2 ∷ negsuc 0 ∷ negsuc 0 ∷ negsuc 0 ∷ negsuc 0 ∷ negsuc 1 ∷ pos 0 ∷ negsuc 0 ∷ negsuc 0 ∷ pos 2 ∷ pos 2 ∷ pos 0 ∷ negsuc 0 ∷ negsuc 0 ∷ pos 1 ∷ pos 0 ∷ negsuc 0 ∷ pos 0 ∷ pos 0 ∷ pos 0 ∷ negsuc 0 ∷ pos 1 ∷ negsuc 1 ∷ pos 1 ∷ pos 0 ∷ negsuc 0 ∷ negsuc 0 ∷ pos 0 ∷ negsuc 0 ∷ pos 1 ∷ pos 1 ∷ negsuc 0 ∷ pos 1 ∷ pos 0 ∷ negsuc 2 ∷ pos 0 ∷ negsuc 2 ∷ negsuc 0 ∷ negsuc 0 ∷ negsuc 1 ∷ pos 0 ∷ negsuc 0 ∷ pos 0 ∷ negsuc 0 ∷ pos 2 ∷ pos 4 ∷ pos 1 ∷ pos 0 ∷ pos 1 ∷ negsuc 0 ∷ negsuc 1 ∷ pos 0 ∷ pos 2 ∷ pos 2 ∷ pos 1 ∷ pos 2 ∷ pos 1 ∷ pos 1 ∷ pos 0 ∷ pos 2 ∷ negsuc 0 ∷ pos 0 ∷ pos 1 ∷ negsuc 0 ∷ pos 0 ∷ pos 1 ∷ pos 0 ∷ negsuc 0 ∷ pos 0 ∷ pos 1 ∷ pos 0 ∷ negsuc 0 ∷ pos 0 ∷ pos 0 ∷ negsuc 1 ∷ negsuc 0 ∷ pos 0 ∷ pos 3 ∷ negsuc 1 ∷ pos 2 ∷ pos 0 ∷ negsuc 1 ∷ pos 1 ∷ pos 0 ∷ negsuc 1 ∷ pos 3 ∷ negsuc 2 ∷ negsuc 0 ∷ pos 0 ∷ negsuc 0 ∷ negsuc 0 ∷ pos 0 ∷ pos 0 ∷ negsuc 0 ∷ negsuc 0 ∷ pos 0 ∷ negsuc 0 ∷ pos 1 ∷ pos 4 ∷ negsuc 1 ∷ pos 0 ∷ pos 1 ∷ pos 5 ∷ negsuc 0 ∷ pos 2 ∷ negsuc 0 ∷ pos 1 ∷ pos 0 ∷ pos 1 ∷ pos 0 ∷ negsuc 0 ∷ pos 0 ∷ negsuc 0 ∷ pos 1 ∷ negsuc 0 ∷ negsuc 0 ∷ negsuc 0 ∷ pos 1 ∷ pos 1 ∷ pos 0 ∷ negsuc 3 ∷ pos 0 ∷ negsuc 1 ∷ negsuc 0 ∷ pos 0 ∷ negsuc 1 ∷ negsuc 0 ∷ pos 1 ∷ negsuc 0 ∷ negsuc 0 ∷ pos 1 ∷ pos 0 ∷ pos 0 ∷ pos 3 ∷ pos 0 ∷ pos 1 ∷ pos 0 ∷ negsuc 3 ∷ negsuc 0 ∷ negsuc 5 ∷ negsuc 3 ∷ pos 1 ∷ pos 2 ∷ pos 1 ∷ negsuc 1 ∷ negsuc 0 ∷ pos 0 ∷ pos 1 ∷ pos 2 ∷ negsuc 0 ∷ negsuc 0 ∷ pos 0 ∷ negsuc 0 ∷ pos 0 ∷ pos 2 ∷ negsuc 1 ∷ pos 4 ∷ negsuc 1 ∷ pos 1 ∷ pos 1 ∷ pos 0 ∷ negsuc 0 ∷ pos 3 ∷ pos 3 ∷ pos 2 ∷ pos 0 ∷ negsuc 1 ∷ negsuc 0 ∷ pos 1 ∷ pos 2 ∷ pos 1 ∷ pos 0 ∷ pos 0 ∷ negsuc 0 ∷ pos 2 ∷ pos 0 ∷ pos 2 ∷ pos 1 ∷ pos 0 ∷ pos 0 ∷ negsuc 0 ∷ pos 1 ∷ pos 1 ∷ pos 1 ∷ negsuc 0 ∷ pos 0 ∷ pos 1 ∷ negsuc 1 ∷ negsuc 0 ∷ pos 2 ∷ negsuc 0 ∷ pos 2 ∷ negsuc 0 ∷ pos 2 ∷ pos 0 ∷ pos 1 ∷ pos 1 ∷ negsuc 0 ∷ pos 0 ∷ negsuc 0 ∷ pos 0 ∷ pos 1 ∷ pos 2 ∷ pos 1 ∷ pos 1 ∷ pos 0 ∷ pos 2 ∷ pos 2 ∷ pos 0 ∷ negsuc 2 ∷ negsuc 1 ∷ pos 0 ∷ pos 0 ∷ pos 2 ∷ negsuc 0 ∷ pos 0 ∷ negsuc 0 ∷ negsuc 0 ∷ negsuc 0 ∷ pos 2 ∷ negsuc 0 ∷ pos 0 ∷ negsuc 0 ∷ negsuc 0 ∷ pos 0 ∷ pos 1 ∷ pos 2 ∷ pos 1 ∷ pos 0 ∷ negsuc 0 ∷ pos 0 ∷ pos 1 ∷ pos 1 ∷ negsuc 0 ∷ pos 0 ∷ negsuc 1 ∷ pos 1 ∷ pos 1 ∷ pos 2 ∷ pos 0 ∷ pos 0 ∷ pos 2 ∷ pos 0 ∷ negsuc 2 ∷ pos 2 ∷ pos 0 ∷ pos 0 ∷ negsuc 0 ∷ negsuc 0 ∷ pos 3 ∷ pos 2 ∷ pos 0 ∷ pos 1 ∷ pos 1 ∷ negsuc 0 ∷ pos 3 ∷ negsuc 0 ∷ pos 3 ∷ pos 0 ∷ pos 0 ∷ pos 0 ∷ negsuc 0 ∷ pos 2 ∷ pos 1 ∷ pos 1 ∷ pos 0 ∷ negsuc 0 ∷ negsuc 2 ∷ pos 2 ∷ pos 0 ∷ pos 1 ∷ pos 0 ∷ pos 0 ∷ negsuc 1 ∷ negsuc 0 ∷ pos 0 ∷ negsuc 0 ∷ pos 1 ∷ pos 0 ∷ negsuc 1 ∷ pos 0 ∷ negsuc 0 ∷ pos 1 ∷ pos 0 ∷ pos 0 ∷ pos 1 ∷ negsuc 1 ∷ pos 0 ∷ pos 1 ∷ pos 6 ∷ pos 0 ∷ pos 0 ∷ negsuc 0 ∷ negsuc 0 ∷ pos 1 ∷ negsuc 0 ∷ pos 0 ∷ negsuc 2 ∷ pos 0 ∷ pos 2 ∷ pos 1 ∷ pos 0 ∷ pos 0 ∷ negsuc 0 ∷ pos 0 ∷ negsuc 1 ∷ pos 2 ∷ negsuc 0 ∷ pos 2 ∷ pos 2 ∷ pos 0 ∷ negsuc 1 ∷ pos 0 ∷ negsuc 0 ∷ pos 0 ∷ negsuc 0 ∷ negsuc 0 ∷ pos 2 ∷ pos 1 ∷ pos 2 ∷ negsuc 1 ∷ pos 3 ∷ negsuc 1 ∷ pos 2 ∷ pos 0 ∷ pos 0 ∷ pos 2 ∷ pos 1 ∷ pos 2 ∷ pos 0 ∷ pos 0 ∷ pos 1 ∷ pos 0 ∷ pos 0 ∷ negsuc 2 ∷ pos 0 ∷ negsuc 0 ∷ pos 1 ∷ negsuc 1 ∷ pos 0 ∷ pos 1 ∷ negsuc 0 ∷ negsuc 1 ∷ pos 0 ∷ pos 1 ∷ pos 0 ∷ pos 3 ∷ pos 0 ∷ pos 1 ∷ pos 0 ∷ pos 1 ∷ pos 0 ∷ pos 0 ∷ pos 0 ∷ pos 0 ∷ pos 0 ∷ negsuc 0 ∷ negsuc 0 ∷ pos 0 ∷ negsuc 1 ∷ negsuc 2 ∷ pos 0 ∷ negsuc 0 ∷ pos 0 ∷ pos 1 ∷ pos 0 ∷ pos 0 ∷ pos 1 ∷ pos 0 ∷ pos 1 ∷ pos 0 ∷ pos 1 ∷ pos 0 ∷ negsuc 0 ∷ negsuc 0 ∷ pos 0 ∷ pos 0 ∷ pos 1 ∷ pos 2 ∷ negsuc 0 ∷ pos 1 ∷ pos 0 ∷ pos 1 ∷ negsuc 0 ∷ pos 2 ∷ negsuc 0 ∷ negsuc 0 ∷ pos 3 ∷ pos 2 ∷ negsuc 0 ∷ pos 1 ∷ negsuc 1 ∷ pos 0 ∷ pos 0 ∷ negsuc 0 ∷ pos 1 ∷ negsuc 0 ∷ pos 1 ∷ pos 2 ∷ pos 1 ∷ pos 1 ∷ negsuc 1 ∷ pos 1 ∷ pos 1 ∷ pos 1 ∷ pos 1 ∷ pos 3 ∷ pos 0 ∷ negsuc 1 ∷ negsuc 0 ∷ pos 2 ∷ negsuc 0 ∷ pos 2 ∷ pos 1 ∷ pos 0 ∷ negsuc 0 ∷ pos 0 ∷ pos 2 ∷ pos 0 ∷ pos 1 ∷ negsuc 0 ∷ negsuc 1 ∷ pos 1 ∷ pos 1 ∷ pos 0 ∷ pos 1 ∷ negsuc 0 ∷ pos 0 ∷ negsuc 0 ∷ pos 1 ∷ pos 0 ∷ pos 0 ∷ pos 5 ∷ pos 0 ∷ pos 1 ∷ negsuc 2 ∷ negsuc 2 ∷ pos 1 ∷ pos 4 ∷ negsuc 0 ∷ negsuc 0 ∷ pos 0 ∷ pos 1 ∷ pos 0 ∷ pos 0 ∷ pos 3 ∷ negsuc 0 ∷ pos 0 ∷ negsuc 0 ∷ pos 0 ∷ pos 1 ∷ pos 0 ∷ pos 3 ∷ negsuc 0 ∷ pos 1 ∷ pos 1 ∷ negsuc 0 ∷ pos 0 ∷ negsuc 0 ∷ pos 0 ∷ pos 0 ∷ negsuc 6 ∷ pos 0 ∷ negsuc 0 ∷ negsuc 1 ∷ negsuc 1 ∷ pos 2 ∷ negsuc 1 ∷ pos 0 ∷ pos 0 ∷ pos 0 ∷ pos 0 ∷ pos 1 ∷ pos 1 ∷ pos 1 ∷ negsuc 1 ∷ pos 1 ∷ pos 1 ∷ pos 0 ∷ negsuc 1 ∷ pos 0 ∷ pos 1 ∷ pos 0 ∷ pos 1 ∷ negsuc 0 ∷ pos 0 ∷ pos 1 ∷ negsuc 2 ∷ pos 3 ∷ negsuc 0 ∷ negsuc 0 ∷ pos 0 ∷ pos 4 ∷ pos 1 ∷ negsuc 3 ∷ pos 0 ∷ pos 3 ∷ pos 0 ∷ negsuc 0 ∷ negsuc 1 ∷ pos 3 ∷ pos 0 ∷ negsuc 0 ∷ pos 0 ∷ negsuc 0 ∷ negsuc 0 ∷ pos 0 ∷ negsuc 0 ∷ pos 1 ∷ pos 0 ∷ negsuc 1 ∷ negsuc 1 ∷ pos 2 ∷ pos 0 ∷ pos 0 ∷ negsuc 0 ∷ pos 1 ∷ pos 0 ∷ pos 0 ∷ pos 1 ∷ negsuc 0 ∷ pos 1 ∷ negsuc 2 ∷ pos 0 ∷ negsuc 0 ∷ negsuc 0 ∷ negsuc 1 ∷ negsuc 0 ∷ pos 0 ∷ negsuc 2 ∷ negsuc 0 ∷ negsuc 4 ∷ negsuc 2 ∷ pos 0 ∷ pos 1 ∷ negsuc 0 ∷ negsuc 0 ∷ pos 3 ∷ pos 0 ∷ negsuc 2 ∷ negsuc 0 ∷ negsuc 0 ∷ pos 2 ∷ pos 1 ∷ negsuc 3 ∷ negsuc 0 ∷ negsuc 0 ∷ pos 0 ∷ pos 2 ∷ negsuc 1 ∷ pos 1 ∷ negsuc 0 ∷ pos 0 ∷ negsuc 0 ∷ pos 0 ∷ pos 0 ∷ pos 0 ∷ pos 0 ∷ pos 1 ∷ pos 0 ∷ negsuc 0 ∷ negsuc 0 ∷ pos 3 ∷ pos 1 ∷ pos 0 ∷ pos 0 ∷ negsuc 0 ∷ pos 2 ∷ pos 1 ∷ pos 1 ∷ pos 1 ∷ negsuc 0 ∷ negsuc 0 ∷ negsuc 1 ∷ negsuc 0 ∷ negsuc 0 ∷ pos 2 ∷ pos 3 ∷ pos 1 ∷ pos 1 ∷ pos 3 ∷ pos 0 ∷ pos 0 ∷ pos 1 ∷ negsuc 1 ∷ negsuc 0 ∷ negsuc 2 ∷ pos 0 ∷ pos 0 ∷ pos 1 ∷ pos 1 ∷ pos 0 ∷ pos 0 ∷ negsuc 2 ∷ negsuc 2 ∷ pos 2 ∷ pos 0 ∷ negsuc 0 ∷ negsuc 1 ∷ pos 0 ∷ pos 0 ∷ pos 2 ∷ negsuc 0 ∷ negsuc 0 ∷ negsuc 0 ∷ negsuc 0 ∷ pos 1 ∷ pos 1 ∷ negsuc 0 ∷ negsuc 0 ∷ negsuc 0 ∷ negsuc 1 ∷ negsuc 0 ∷ negsuc 0 ∷ pos 0 ∷ negsuc 0 ∷ negsuc 0 ∷ negsuc 0 ∷ negsuc 0 ∷ pos 1 ∷ pos 0 ∷ pos 0 ∷ negsuc 0 ∷ negsuc 0 ∷ pos 1 ∷ pos 0 ∷ pos 0 ∷ pos 4 ∷ pos 1 ∷ pos 0 ∷ pos 1 ∷ pos 1 ∷ pos 0 ∷ negsuc 1 ∷ negsuc 0 ∷ pos 0 ∷ pos 0 ∷ pos 1 ∷ pos 1 ∷ negsuc 2 ∷ negsuc 0 ∷ pos 0 ∷ pos 5 ∷ pos 1 ∷ pos 0 ∷ pos 1 ∷ pos 1 ∷ pos 2 ∷ pos 1 ∷ negsuc 5 ∷ pos 0 ∷ pos 2 ∷ pos 4 ∷ pos 1 ∷ pos 1 ∷ pos 0 ∷ pos 2 ∷ pos 0 ∷ pos 0 ∷ negsuc 1 ∷ negsuc 1 ∷ negsuc 0 ∷ negsuc 0 ∷ pos 0 ∷ pos 1 ∷ pos 1 ∷ pos 0 ∷ negsuc 0 ∷ pos 1 ∷ pos 0 ∷ pos 1 ∷ pos 1 ∷ negsuc 0 ∷ pos 0 ∷ pos 2 ∷ pos 2 ∷ pos 0 ∷ pos 0 ∷ pos 0 ∷ pos 1 ∷ pos 1 ∷ pos 0 ∷ negsuc 0 ∷ negsuc 0 ∷ negsuc 1 ∷ pos 0 ∷ negsuc 2 ∷ negsuc 0 ∷ negsuc 1 ∷ pos 1 ∷ pos 0 ∷ negsuc 1 ∷ pos 0 ∷ pos 1 ∷ negsuc 0 ∷ pos 0 ∷ negsuc 0 ∷ pos 1 ∷ negsuc 3 ∷ negsuc 0 ∷ pos 0 ∷ negsuc 0 ∷ pos 1 ∷ pos 0 ∷ negsuc 0 ∷ pos 1 ∷ pos 0 ∷ pos 0 ∷ pos 0 ∷ negsuc 0 ∷ pos 1 ∷ pos 1 ∷ pos 0 ∷ pos 1 ∷ pos 7 ∷ pos 0 ∷ pos 0 ∷ negsuc 1 ∷ negsuc 1 ∷ pos 1 ∷ pos 1 ∷ negsuc 0 ∷ pos 0 ∷ pos 1 ∷ negsuc 0 ∷ pos 0 ∷ pos 1 ∷ negsuc 0 ∷ pos 0 ∷ negsuc 0 ∷ pos 3 ∷ negsuc 0 ∷ pos 1 ∷ pos 2 ∷ pos 1 ∷ negsuc 0 ∷ pos 0 ∷ negsuc 0 ∷ pos 0 ∷ pos 1 ∷ pos 1 ∷ pos 1 ∷ pos 1 ∷ negsuc 1 ∷ pos 0 ∷ pos 3 ∷ negsuc 0 ∷ pos 0 ∷ negsuc 0 ∷ negsuc 0 ∷ pos 1 ∷ pos 2 ∷ pos 2 ∷ pos 0 ∷ pos 0 ∷ negsuc 0 ∷ negsuc 0 ∷ pos 0 ∷ pos 1 ∷ pos 0 ∷ pos 0 ∷ pos 4 ∷ pos 0 ∷ pos 2 ∷ pos 0 ∷ pos 2 ∷ negsuc 0 ∷ pos 1 ∷ negsuc 0 ∷ negsuc 0 ∷ negsuc 0 ∷ pos 1 ∷ pos 3 ∷ negsuc 1 ∷ pos 1 ∷ pos 0 ∷ pos 1 ∷ pos 0 ∷ pos 0 ∷ pos 0 ∷ negsuc 0 ∷ pos 0 ∷ pos 2 ∷ pos 1 ∷ pos 0 ∷ pos 0 ∷ negsuc 1 ∷ negsuc 0 ∷ pos 0 ∷ pos 0 ∷ pos 1 ∷ pos 1 ∷ negsuc 1 ∷ pos 1 ∷ pos 1 ∷ negsuc 1 ∷ negsuc 0 ∷ negsuc 0 ∷ pos 0 ∷ negsuc 3 ∷ pos 0 ∷ negsuc 0 ∷ negsuc 1 ∷ pos 1 ∷ pos 2 ∷ pos 2 ∷ pos 0 ∷ negsuc 2 ∷ pos 0 ∷ pos 2 ∷ negsuc 0 ∷ pos 0 ∷ pos 0 ∷ pos 2 ∷ negsuc 0 ∷ pos 0 ∷ pos 3 ∷ pos 0 ∷ negsuc 0 ∷ pos 2 ∷ negsuc 0 ∷ negsuc 1 ∷ pos 0 ∷ pos 1 ∷ pos 0 ∷ pos 0 ∷ pos 1 ∷ pos 1 ∷ negsuc 0 ∷ pos 0 ∷ pos 4 ∷ pos 0 ∷ pos 0 ∷ pos 0 ∷ negsuc 1 ∷ pos 0 ∷ pos 1 ∷ pos 0 ∷ pos 0 ∷ pos 2 ∷ negsuc 0 ∷ negsuc 0 ∷ negsuc 1 ∷ pos 1 ∷ pos 2 ∷ pos 3 ∷ negsuc 0 ∷ negsuc 1 ∷ pos 0 ∷ negsuc 1 ∷ pos 0 ∷ pos 3 ∷ pos 0 ∷ pos 1 ∷ negsuc 0 ∷ pos 0 ∷ pos 0 ∷ pos 1 ∷ pos 0 ∷ pos 1 ∷ negsuc 2 ∷ negsuc 2 ∷ negsuc 1 ∷ negsuc 1 ∷ pos 2 ∷ pos 1 ∷ pos 1 ∷ pos 0 ∷ negsuc 1 ∷ pos 0 ∷ negsuc 0 ∷ pos 0 ∷ negsuc 0 ∷ negsuc 0 ∷ pos 5 ∷ pos 0 ∷ pos 0 ∷ pos 2 ∷ pos 0 ∷ pos 0 ∷ pos 1 ∷ pos 1 ∷ negsuc 0 ∷ negsuc 0 ∷ pos 0 ∷ pos 1 ∷ pos 0 ∷ negsuc 0 ∷ pos 2 ∷ negsuc 0 ∷ pos 1 ∷ negsuc 1 ∷ pos 0 ∷ negsuc 3 ∷ pos 0 ∷ pos 1 ∷ pos 0 ∷ pos 1 ∷ pos 0 ∷ negsuc 0 ∷ pos 0 ∷ pos 0 ∷ pos 1 ∷ negsuc 1 ∷ pos 0 ∷ negsuc 3 ∷ negsuc 1 ∷ negsuc 0 ∷ pos 0 ∷ negsuc 0 ∷ pos 0 ∷ pos 1 ∷ pos 0 ∷ pos 0 ∷ pos 1 ∷ negsuc 0 ∷ negsuc 0 ∷ []

abbrev items_9 : List Item
items_9 = c 1 28 ∷ c 1 28 ∷ c 1 28 ∷ c 1 28 ∷ c 1 28 ∷ c 1 28 ∷ c 1 28 ∷ c 1 28 ∷ c 1 29 ∷ c 1 46 ∷ c 1 46 ∷ c 1 46 ∷ c 1 46 ∷ c 1 46 ∷ c 1 46 ∷ c 1 46 ∷ c 1 46 ∷ c 1 47 ∷ b 1 ∷ b 1 ∷ b 1 ∷ b 1 ∷ b 1 ∷ b 1 ∷ c 1 92 ∷ c 1 92 ∷ c 0 92 ∷ c 0 92 ∷ c 1 92 ∷ c 1 92 ∷ c 1 93 ∷ c 0 92 ∷ c 1 92 ∷ c 0 93 ∷ c 1 93 ∷ c 1 92 ∷ c 1 93 ∷ c 1 93 ∷ c 0 94 ∷ c 0 112 ∷ c 0 113 ∷ c 0 114 ∷ c 0 114 ∷ c 0 114 ∷ c 0 114 ∷ c 1 114 ∷ c 1 111 ∷ c 1 123 ∷ b 1 ∷ b 1 ∷ b 0 ∷ b 1 ∷ b 1 ∷ b 0 ∷ b 0 ∷ b 1 ∷ b 1 ∷ b 0 ∷ b 1 ∷ b 0 ∷ b 0 ∷ b 0 ∷ b 1 ∷ b 0 ∷ b 0 ∷ c 1 52 ∷ c 0 92 ∷ c 1 92 ∷ c 0 92 ∷ c 1 92 ∷ c 1 92 ∷ c 0 92 ∷ c 0 92 ∷ c 1 92 ∷ c 0 93 ∷ c 1 93 ∷ c 1 93 ∷ c 1 93 ∷ c 1 94 ∷ c 0 94 ∷ c 1 94 ∷ c 1 94 ∷ c 0 116 ∷ c 0 117 ∷ c 0 118 ∷ c 1 118 ∷ c 1 115 ∷ c 0 115 ∷ c 1 115 ∷ c 1 115 ∷ c 0 124 ∷ b 0 ∷ b 1 ∷ b 0 ∷ b 0 ∷ b 1 ∷ b 1 ∷ b 0 ∷ b 0 ∷ b 1 ∷ b 0 ∷ b 0 ∷ b 1 ∷ b 0 ∷ b 1 ∷ b 0 ∷ b 0 ∷ b 1 ∷ b 0 ∷ c 1 52 ∷ c 0 92 ∷ c 1 92 ∷ c 1 92 ∷ c 1 92 ∷ c 0 92 ∷ c 0 92 ∷ c 1 92 ∷ c 1 92 ∷ c 1 93 ∷ c 1 93 ∷ c 1 93 ∷ c 1 93 ∷ c 0 94 ∷ c 0 94 ∷ c 1 94 ∷ c 1 94 ∷ c 0 116 ∷ c 1 117 ∷ c 1 115 ∷ c 1 115 ∷ c 0 115 ∷ c 1 115 ∷ c 0 115 ∷ c 1 115 ∷ c 0 124 ∷ b 1 ∷ b 1 ∷ b 1 ∷ b 0 ∷ b 1 ∷ b 0 ∷ b 0 ∷ b 1 ∷ b 1 ∷ b 1 ∷ b 0 ∷ b 1 ∷ b 1 ∷ b 0 ∷ b 1 ∷ b 0 ∷ b 1 ∷ b 0 ∷ b 0 ∷ b 0 ∷ b 0 ∷ b 0 ∷ b 0 ∷ b 0 ∷ b 0 ∷ b 0 ∷ b 1 ∷ c 1 52 ∷ c 0 92 ∷ c 1 92 ∷ c 1 92 ∷ c 0 92 ∷ c 1 92 ∷ c 0 92 ∷ c 1 92 ∷ c 0 92 ∷ c 1 93 ∷ c 1 93 ∷ c 0 93 ∷ c 0 93 ∷ c 0 94 ∷ c 1 94 ∷ c 0 94 ∷ c 1 94 ∷ c 1 116 ∷ c 0 115 ∷ c 0 115 ∷ c 0 115 ∷ c 0 115 ∷ c 1 115 ∷ c 1 115 ∷ c 1 115 ∷ c 0 124 ∷ b 1 ∷ b 0 ∷ b 1 ∷ b 1 ∷ b 1 ∷ b 0 ∷ b 1 ∷ b 0 ∷ b 0 ∷ b 1 ∷ b 0 ∷ b 0 ∷ c 1 52 ∷ c 0 92 ∷ c 1 92 ∷ c 0 92 ∷ c 1 92 ∷ c 1 92 ∷ c 0 92 ∷ c 1 92 ∷ c 1 92 ∷ c 1 93 ∷ c 0 93 ∷ c 1 93 ∷ c 0 93 ∷ c 1 94 ∷ c 1 94 ∷ c 1 94 ∷ c 1 94 ∷ c 0 116 ∷ c 0 117 ∷ c 1 118 ∷ c 0 115 ∷ c 0 115 ∷ c 0 115 ∷ c 1 115 ∷ c 1 115 ∷ c 0 124 ∷ b 1 ∷ b 0 ∷ b 1 ∷ b 0 ∷ b 0 ∷ b 0 ∷ b 1 ∷ b 0 ∷ b 0 ∷ b 1 ∷ b 1 ∷ b 0 ∷ b 0 ∷ b 0 ∷ b 1 ∷ b 0 ∷ b 0 ∷ c 1 52 ∷ c 0 92 ∷ c 1 92 ∷ c 0 92 ∷ c 1 92 ∷ c 1 92 ∷ c 1 92 ∷ c 1 92 ∷ c 1 92 ∷ c 0 93 ∷ c 0 93 ∷ c 1 93 ∷ c 0 93 ∷ c 0 94 ∷ c 1 94 ∷ c 0 94 ∷ c 1 94 ∷ c 0 116 ∷ c 1 117 ∷ c 1 115 ∷ c 1 115 ∷ c 1 115 ∷ c 1 115 ∷ c 1 115 ∷ c 1 115 ∷ c 1 124 ∷ b 0 ∷ b 1 ∷ b 0 ∷ b 1 ∷ b 1 ∷ b 1 ∷ b 0 ∷ b 1 ∷ b 1 ∷ b 1 ∷ b 0 ∷ b 0 ∷ b 0 ∷ b 0 ∷ b 0 ∷ b 0 ∷ b 0 ∷ b 0 ∷ b 1 ∷ b 1 ∷ b 0 ∷ b 0 ∷ b 1 ∷ b 0 ∷ b 0 ∷ b 0 ∷ b 0 ∷ c 1 52 ∷ c 0 92 ∷ c 1 92 ∷ c 1 92 ∷ c 1 92 ∷ c 1 92 ∷ c 1 92 ∷ c 0 92 ∷ c 1 92 ∷ c 1 93 ∷ c 1 93 ∷ c 1 93 ∷ c 0 93 ∷ c 1 94 ∷ c 1 94 ∷ c 1 94 ∷ c 1 94 ∷ c 1 116 ∷ c 0 115 ∷ c 0 115 ∷ c 1 115 ∷ c 0 115 ∷ c 0 115 ∷ c 0 115 ∷ c 0 115 ∷ c 0 124 ∷ b 1 ∷ b 0 ∷ b 1 ∷ b 1 ∷ b 0 ∷ b 0 ∷ b 1 ∷ b 0 ∷ b 0 ∷ b 1 ∷ b 1 ∷ b 0 ∷ b 0 ∷ b 1 ∷ b 0 ∷ b 0 ∷ b 0 ∷ b 1 ∷ b 0 ∷ b 0 ∷ b 0 ∷ c 1 52 ∷ c 1 92 ∷ c 1 92 ∷ c 0 92 ∷ c 1 92 ∷ c 0 92 ∷ c 0 92 ∷ c 1 92 ∷ c 1 92 ∷ c 0 93 ∷ c 1 93 ∷ c 0 93 ∷ c 1 93 ∷ c 1 94 ∷ c 1 94 ∷ c 1 94 ∷ c 0 94 ∷ c 1 116 ∷ c 0 115 ∷ c 0 115 ∷ c 0 115 ∷ c 0 115 ∷ c 0 115 ∷ c 1 115 ∷ c 1 115 ∷ c 0 124 ∷ b 0 ∷ b 1 ∷ b 0 ∷ b 1 ∷ b 0 ∷ b 0 ∷ b 1 ∷ b 1 ∷ b 0 ∷ b 0 ∷ b 0 ∷ b 0 ∷ b 0 ∷ b 0 ∷ c 1 52 ∷ c 0 92 ∷ c 1 92 ∷ c 1 93 ∷ c 0 94 ∷ c 1 92 ∷ c 1 92 ∷ c 0 93 ∷ c 0 94 ∷ c 1 92 ∷ c 1 92 ∷ c 0 93 ∷ c 1 94 ∷ c 0 92 ∷ c 1 92 ∷ c 0 93 ∷ c 1 94 ∷ c 0 116 ∷ c 1 117 ∷ c 0 115 ∷ c 0 115 ∷ c 0 115 ∷ c 0 115 ∷ c 0 115 ∷ c 1 115 ∷ c 0 124 ∷ b 1 ∷ b 1 ∷ b 1 ∷ b 1 ∷ b 1 ∷ b 0 ∷ b 1 ∷ b 1 ∷ b 0 ∷ b 0 ∷ b 0 ∷ c 1 52 ∷ c 0 94 ∷ c 1 94 ∷ c 1 94 ∷ c 0 94 ∷ c 1 94 ∷ c 1 94 ∷ c 1 94 ∷ c 1 94 ∷ c 1 94 ∷ c 1 94 ∷ c 1 94 ∷ c 1 94 ∷ c 1 94 ∷ c 1 94 ∷ c 1 94 ∷ c 0 94 ∷ c 0 116 ∷ c 1 117 ∷ c 1 115 ∷ c 1 115 ∷ c 0 115 ∷ c 0 115 ∷ c 0 115 ∷ c 0 115 ∷ c 0 124 ∷ b 0 ∷ b 0 ∷ b 0 ∷ b 0 ∷ b 0 ∷ b 1 ∷ b 0 ∷ b 0 ∷ b 1 ∷ b 1 ∷ b 1 ∷ b 1 ∷ b 1 ∷ b 0 ∷ b 0 ∷ b 1 ∷ b 0 ∷ b 1 ∷ b 0 ∷ b 1 ∷ b 0 ∷ b 0 ∷ b 1 ∷ b 1 ∷ b 0 ∷ c 1 52 ∷ c 1 94 ∷ c 0 94 ∷ c 0 94 ∷ c 0 94 ∷ c 1 94 ∷ c 0 94 ∷ c 1 94 ∷ c 1 94 ∷ c 0 94 ∷ c 0 94 ∷ c 1 94 ∷ c 1 94 ∷ c 1 94 ∷ c 1 94 ∷ c 1 94 ∷ c 0 94 ∷ c 0 116 ∷ c 0 117 ∷ c 0 118 ∷ c 1 118 ∷ c 1 115 ∷ c 0 115 ∷ c 1 115 ∷ c 0 115 ∷ c 1 124 ∷ b 1 ∷ b 1 ∷ b 1 ∷ b 0 ∷ b 0 ∷ b 0 ∷ b 1 ∷ b 1 ∷ b 1 ∷ b 0 ∷ b 1 ∷ b 1 ∷ b 1 ∷ b 1 ∷ b 0 ∷ b 1 ∷ b 0 ∷ b 0 ∷ b 0 ∷ b 0 ∷ c 1 52 ∷ c 1 94 ∷ c 0 94 ∷ c 1 94 ∷ c 1 94 ∷ c 0 94 ∷ c 1 94 ∷ c 1 94 ∷ c 1 94 ∷ c 0 94 ∷ c 1 94 ∷ c 1 94 ∷ c 1 94 ∷ c 1 94 ∷ c 1 94 ∷ c 0 94 ∷ c 0 94 ∷ c 0 116 ∷ c 0 117 ∷ c 1 118 ∷ c 1 115 ∷ c 0 115 ∷ c 0 115 ∷ c 0 115 ∷ c 0 115 ∷ c 0 124 ∷ b 0 ∷ b 0 ∷ b 1 ∷ b 1 ∷ b 0 ∷ b 0 ∷ b 0 ∷ b 0 ∷ b 1 ∷ b 0 ∷ b 0 ∷ b 0 ∷ b 0 ∷ b 0 ∷ b 0 ∷ c 1 52 ∷ c 1 94 ∷ c 1 94 ∷ c 1 94 ∷ c 1 94 ∷ c 1 94 ∷ c 1 94 ∷ c 0 94 ∷ c 1 94 ∷ c 0 94 ∷ c 0 94 ∷ c 0 94 ∷ c 1 94 ∷ c 0 94 ∷ c 1 94 ∷ c 1 94 ∷ c 0 94 ∷ c 1 116 ∷ c 0 115 ∷ c 0 115 ∷ c 0 115 ∷ c 0 115 ∷ c 0 115 ∷ c 0 115 ∷ c 0 115 ∷ c 1 124 ∷ b 0 ∷ b 0 ∷ b 1 ∷ b 1 ∷ b 0 ∷ b 0 ∷ b 1 ∷ b 0 ∷ b 0 ∷ b 0 ∷ b 0 ∷ b 1 ∷ b 0 ∷ b 1 ∷ b 0 ∷ c 1 52 ∷ c 1 94 ∷ c 1 94 ∷ c 1 94 ∷ c 1 94 ∷ c 0 94 ∷ c 1 94 ∷ c 1 94 ∷ c 1 94 ∷ c 1 94 ∷ c 0 94 ∷ c 1 94 ∷ c 1 94 ∷ c 1 94 ∷ c 1 94 ∷ c 1 94 ∷ c 0 94 ∷ c 0 116 ∷ c 0 117 ∷ c 0 118 ∷ c 1 118 ∷ c 0 115 ∷ c 0 115 ∷ c 1 115 ∷ c 0 115 ∷ c 0 124 ∷ b 1 ∷ b 0 ∷ b 1 ∷ b 0 ∷ b 1 ∷ b 0 ∷ b 0 ∷ b 1 ∷ b 0 ∷ b 1 ∷ b 1 ∷ b 0 ∷ b 0 ∷ b 0 ∷ b 0 ∷ b 0 ∷ b 0 ∷ b 0 ∷ b 0 ∷ c 1 52 ∷ c 0 94 ∷ c 1 94 ∷ c 0 94 ∷ c 1 94 ∷ c 1 94 ∷ c 1 94 ∷ c 1 94 ∷ c 1 94 ∷ c 0 94 ∷ c 1 94 ∷ c 1 94 ∷ c 1 94 ∷ c 1 94 ∷ c 1 94 ∷ c 0 94 ∷ c 1 94 ∷ c 1 116 ∷ c 1 115 ∷ c 0 115 ∷ c 0 115 ∷ c 1 115 ∷ c 0 115 ∷ c 0 115 ∷ c 1 115 ∷ c 0 124 ∷ b 0 ∷ b 0 ∷ b 0 ∷ b 1 ∷ b 0 ∷ b 1 ∷ b 1 ∷ b 1 ∷ b 0 ∷ b 0 ∷ b 1 ∷ b 0 ∷ b 1 ∷ b 1 ∷ b 0 ∷ b 0 ∷ b 1 ∷ b 1 ∷ b 0 ∷ b 0 ∷ b 0 ∷ b 0 ∷ b 0 ∷ b 0 ∷ b 0 ∷ b 0 ∷ b 0 ∷ b 0 ∷ c 1 52 ∷ c 0 94 ∷ c 0 94 ∷ c 1 94 ∷ c 0 94 ∷ c 0 94 ∷ c 1 94 ∷ c 1 94 ∷ c 0 94 ∷ c 1 94 ∷ c 0 94 ∷ c 1 94 ∷ c 1 94 ∷ c 1 94 ∷ c 0 94 ∷ c 1 94 ∷ c 1 94 ∷ c 0 116 ∷ c 0 117 ∷ c 0 118 ∷ c 0 118 ∷ c 0 118 ∷ c 0 118 ∷ c 0 118 ∷ c 0 118 ∷ b 0 ∷ b 1 ∷ b 0 ∷ b 1 ∷ b 1 ∷ b 0 ∷ b 0 ∷ b 1 ∷ b 1 ∷ b 0 ∷ c 1 52 ∷ c 1 92 ∷ c 1 92 ∷ c 0 93 ∷ c 0 94 ∷ c 1 92 ∷ c 1 92 ∷ c 0 93 ∷ c 0 94 ∷ c 0 92 ∷ c 1 92 ∷ c 1 93 ∷ c 1 94 ∷ c 0 92 ∷ c 1 92 ∷ c 1 93 ∷ c 1 94 ∷ c 1 112 ∷ c 1 111 ∷ c 0 111 ∷ c 1 111 ∷ c 1 111 ∷ c 1 111 ∷ c 1 111 ∷ c 0 111 ∷ c 0 123 ∷ b 1 ∷ b 1 ∷ b 0 ∷ b 0 ∷ b 0 ∷ b 1 ∷ b 1 ∷ b 0 ∷ b 0 ∷ b 1 ∷ b 0 ∷ b 1 ∷ b 1 ∷ b 0 ∷ b 0 ∷ b 0 ∷ b 0 ∷ b 1 ∷ b 0 ∷ b 1 ∷ b 1 ∷ b 0 ∷ b 0 ∷ b 0 ∷ b 0 ∷ c 1 52 ∷ c 1 94 ∷ c 0 94 ∷ c 1 94 ∷ c 1 94 ∷ c 1 94 ∷ c 1 94 ∷ c 1 94 ∷ c 0 94 ∷ c 0 94 ∷ c 0 94 ∷ c 1 94 ∷ c 1 94 ∷ c 1 94 ∷ c 0 94 ∷ c 1 94 ∷ c 0 94 ∷ c 1 116 ∷ c 0 115 ∷ c 0 115 ∷ c 0 115 ∷ c 0 115 ∷ c 0 115 ∷ c 0 115 ∷ c 0 115 ∷ c 0 124 ∷ b 0 ∷ b 0 ∷ b 0 ∷ b 0 ∷ b 1 ∷ b 1 ∷ b 0 ∷ b 0 ∷ b 1 ∷ b 0 ∷ b 0 ∷ b 0 ∷ c 1 52 ∷ c 1 94 ∷ c 1 94 ∷ c 0 94 ∷ c 1 94 ∷ c 0 94 ∷ c 1 94 ∷ c 1 94 ∷ c 1 94 ∷ c 0 94 ∷ c 0 94 ∷ c 1 94 ∷ c 1 94 ∷ c 0 94 ∷ c 0 94 ∷ c 0 94 ∷ c 1 94 ∷ c 1 116 ∷ c 1 115 ∷ c 1 115 ∷ c 0 115 ∷ c 0 115 ∷ c 0 115 ∷ c 1 115 ∷ c 0 115 ∷ c 1 124 ∷ b 0 ∷ b 0 ∷ b 1 ∷ b 0 ∷ b 1 ∷ b 1 ∷ b 1 ∷ b 1 ∷ b 1 ∷ b 1 ∷ b 0 ∷ b 0 ∷ b 0 ∷ b 1 ∷ b 1 ∷ b 0 ∷ b 0 ∷ b 0 ∷ b 1 ∷ b 0 ∷ b 0 ∷ c 1 52 ∷ c 1 94 ∷ c 1 94 ∷ c 1 94 ∷ c 1 94 ∷ c 1 94 ∷ c 1 94 ∷ c 0 94 ∷ c 1 94 ∷ c 1 94 ∷ c 1 94 ∷ c 0 94 ∷ c 0 94 ∷ c 0 94 ∷ c 1 94 ∷ c 1 94 ∷ c 1 94 ∷ c 0 116 ∷ c 1 117 ∷ c 0 115 ∷ c 0 115 ∷ c 0 115 ∷ c 0 115 ∷ c 0 115 ∷ c 1 115 ∷ c 0 124 ∷ b 0 ∷ b 0 ∷ b 0 ∷ b 0 ∷ b 1 ∷ b 1 ∷ b 1 ∷ b 1 ∷ b 0 ∷ b 1 ∷ b 0 ∷ b 1 ∷ b 0 ∷ b 0 ∷ b 0 ∷ b 0 ∷ b 1 ∷ b 0 ∷ c 1 52 ∷ c 0 94 ∷ c 1 94 ∷ c 1 94 ∷ c 0 94 ∷ c 1 94 ∷ c 1 94 ∷ c 1 94 ∷ c 1 94 ∷ c 1 94 ∷ c 1 94 ∷ c 1 94 ∷ c 1 94 ∷ c 1 94 ∷ c 0 94 ∷ c 1 94 ∷ c 1 94 ∷ c 0 116 ∷ c 1 117 ∷ c 0 115 ∷ c 1 115 ∷ c 0 115 ∷ c 0 115 ∷ c 1 115 ∷ c 0 115 ∷ c 1 124 ∷ b 0 ∷ b 0 ∷ b 1 ∷ b 1 ∷ b 1 ∷ b 1 ∷ b 0 ∷ b 0 ∷ b 0 ∷ b 0 ∷ b 0 ∷ b 1 ∷ b 1 ∷ b 1 ∷ b 1 ∷ b 0 ∷ b 0 ∷ b 0 ∷ b 0 ∷ b 1 ∷ b 0 ∷ b 0 ∷ b 1 ∷ b 0 ∷ b 0 ∷ b 0 ∷ b 1 ∷ b 0 ∷ b 0 ∷ b 0 ∷ b 0 ∷ c 1 52 ∷ c 1 94 ∷ c 1 94 ∷ c 1 94 ∷ c 1 94 ∷ c 1 94 ∷ c 1 94 ∷ c 1 94 ∷ c 1 94 ∷ c 1 94 ∷ c 1 94 ∷ c 1 94 ∷ c 1 94 ∷ c 1 94 ∷ c 1 94 ∷ c 1 94 ∷ c 1 94 ∷ c 0 116 ∷ c 1 117 ∷ c 0 115 ∷ c 0 115 ∷ c 0 115 ∷ c 0 115 ∷ c 0 115 ∷ c 0 115 ∷ c 1 124 ∷ b 1 ∷ b 1 ∷ b 0 ∷ b 0 ∷ b 1 ∷ b 0 ∷ b 0 ∷ b 1 ∷ b 0 ∷ b 1 ∷ b 1 ∷ b 1 ∷ b 1 ∷ b 0 ∷ b 0 ∷ b 1 ∷ b 0 ∷ b 1 ∷ b 0 ∷ b 0 ∷ b 0 ∷ b 1 ∷ b 0 ∷ b 1 ∷ b 1 ∷ b 1 ∷ b 0 ∷ b 0 ∷ b 0 ∷ b 0 ∷ b 1 ∷ b 0 ∷ b 0 ∷ c 1 52 ∷ c 0 94 ∷ c 0 94 ∷ c 1 94 ∷ c 1 94 ∷ c 1 94 ∷ c 1 94 ∷ c 1 94 ∷ c 1 94 ∷ c 1 94 ∷ c 1 94 ∷ c 1 94 ∷ c 1 94 ∷ c 1 94 ∷ c 1 94 ∷ c 0 94 ∷ c 1 94 ∷ c 0 116 ∷ c 1 117 ∷ c 0 115 ∷ c 0 115 ∷ c 0 115 ∷ c 1 115 ∷ c 0 115 ∷ c 0 115 ∷ c 0 124 ∷ b 1 ∷ b 1 ∷ b 1 ∷ b 1 ∷ b 1 ∷ b 0 ∷ b 1 ∷ b 1 ∷ b 0 ∷ b 0 ∷ b 1 ∷ b 1 ∷ b 0 ∷ b 0 ∷ b 0 ∷ b 0 ∷ b 0 ∷ b 1 ∷ b 1 ∷ b 0 ∷ b 1 ∷ b 1 ∷ b 0 ∷ c 1 52 ∷ c 0 94 ∷ c 1 94 ∷ c 1 94 ∷ c 0 94 ∷ c 0 94 ∷ c 0 94 ∷ c 1 94 ∷ c 1 94 ∷ c 1 94 ∷ c 1 94 ∷ c 1 94 ∷ c 0 94 ∷ c 1 94 ∷ c 1 94 ∷ c 1 94 ∷ c 0 94 ∷ c 0 116 ∷ c 0 117 ∷ c 1 118 ∷ c 0 115 ∷ c 0 115 ∷ c 1 115 ∷ c 0 115 ∷ c 0 115 ∷ c 0 124 ∷ b 0 ∷ b 0 ∷ b 1 ∷ b 1 ∷ b 0 ∷ b 0 ∷ b 1 ∷ b 1 ∷ b 1 ∷ b 0 ∷ b 0 ∷ b 0 ∷ b 0 ∷ c 1 52 ∷ c 1 92 ∷ c 1 92 ∷ c 1 93 ∷ c 1 94 ∷ c 1 92 ∷ c 1 92 ∷ c 1 93 ∷ c 0 94 ∷ c 0 92 ∷ c 1 92 ∷ c 1 93 ∷ c 1 94 ∷ c 1 92 ∷ c 1 92 ∷ c 1 93 ∷ c 0 94 ∷ c 1 116 ∷ c 1 115 ∷ c 0 115 ∷ c 1 115 ∷ c 1 115 ∷ c 1 115 ∷ c 0 115 ∷ c 1 115 ∷ c 1 124 ∷ b 1 ∷ b 1 ∷ b 1 ∷ b 1 ∷ b 0 ∷ b 1 ∷ b 1 ∷ b 1 ∷ b 0 ∷ b 1 ∷ b 1 ∷ b 1 ∷ b 0 ∷ b 0 ∷ b 1 ∷ b 1 ∷ b 1 ∷ b 0 ∷ b 0 ∷ b 1 ∷ b 0 ∷ b 1 ∷ b 0 ∷ b 0 ∷ b 0 ∷ b 0 ∷ b 0 ∷ b 1 ∷ b 0 ∷ b 1 ∷ b 1 ∷ b 0 ∷ b 0 ∷ b 1 ∷ b 0 ∷ b 0 ∷ b 0 ∷ b 0 ∷ c 1 52 ∷ c 0 94 ∷ c 1 94 ∷ c 1 94 ∷ c 1 94 ∷ c 1 94 ∷ c 0 94 ∷ c 1 94 ∷ c 1 94 ∷ c 1 94 ∷ c 1 94 ∷ c 0 94 ∷ c 1 94 ∷ c 1 94 ∷ c 0 94 ∷ c 0 94 ∷ c 1 94 ∷ c 0 116 ∷ c 1 117 ∷ c 0 115 ∷ c 1 115 ∷ c 1 115 ∷ c 0 115 ∷ c 1 115 ∷ c 0 115 ∷ c 0 124 ∷ b 1 ∷ b 1 ∷ b 1 ∷ b 0 ∷ b 1 ∷ b 0 ∷ b 1 ∷ b 1 ∷ b 1 ∷ b 0 ∷ b 0 ∷ b 1 ∷ b 0 ∷ b 1 ∷ b 1 ∷ b 0 ∷ b 0 ∷ b 0 ∷ b 1 ∷ b 1 ∷ b 1 ∷ b 0 ∷ b 0 ∷ b 1 ∷ b 0 ∷ b 0 ∷ b 0 ∷ b 0 ∷ b 0 ∷ b 0 ∷ c 1 52 ∷ c 1 94 ∷ c 0 94 ∷ c 1 94 ∷ c 1 94 ∷ c 1 94 ∷ c 0 94 ∷ c 1 94 ∷ c 1 94 ∷ c 0 94 ∷ c 0 94 ∷ c 1 94 ∷ c 0 94 ∷ c 1 94 ∷ c 0 94 ∷ c 1 94 ∷ c 1 94 ∷ c 0 116 ∷ c 1 117 ∷ c 0 115 ∷ c 1 115 ∷ c 0 115 ∷ c 0 115 ∷ c 0 115 ∷ c 0 115 ∷ c 1 124 ∷ b 1 ∷ b 1 ∷ b 0 ∷ b 0 ∷ b 1 ∷ b 1 ∷ b 1 ∷ b 1 ∷ b 1 ∷ b 0 ∷ b 0 ∷ b 1 ∷ b 1 ∷ b 0 ∷ b 0 ∷ b 0 ∷ b 0 ∷ b 0 ∷ c 1 52 ∷ c 1 94 ∷ c 1 94 ∷ c 0 94 ∷ c 0 94 ∷ c 1 94 ∷ c 1 94 ∷ c 1 94 ∷ c 0 94 ∷ c 1 94 ∷ c 1 94 ∷ c 1 94 ∷ c 1 94 ∷ c 0 94 ∷ c 1 94 ∷ c 1 94 ∷ c 1 94 ∷ c 0 116 ∷ c 0 117 ∷ c 1 118 ∷ c 1 115 ∷ c 0 115 ∷ c 0 115 ∷ c 0 115 ∷ c 0 115 ∷ c 1 124 ∷ b 1 ∷ b 0 ∷ b 0 ∷ b 1 ∷ b 0 ∷ b 1 ∷ b 0 ∷ b 0 ∷ b 1 ∷ b 0 ∷ b 0 ∷ b 1 ∷ b 0 ∷ b 1 ∷ b 0 ∷ b 0 ∷ b 0 ∷ b 0 ∷ b 1 ∷ b 0 ∷ c 1 52 ∷ c 1 94 ∷ c 1 94 ∷ c 0 94 ∷ c 0 94 ∷ c 1 94 ∷ c 1 94 ∷ c 0 94 ∷ c 1 94 ∷ c 1 94 ∷ c 0 94 ∷ c 1 94 ∷ c 0 94 ∷ c 1 94 ∷ c 1 94 ∷ c 0 94 ∷ c 1 94 ∷ c 0 116 ∷ c 0 117 ∷ c 0 118 ∷ c 0 118 ∷ c 0 118 ∷ c 1 118 ∷ c 0 115 ∷ c 0 115 ∷ c 1 124 ∷ b 0 ∷ b 1 ∷ b 1 ∷ b 0 ∷ b 0 ∷ b 0 ∷ b 0 ∷ b 1 ∷ b 0 ∷ b 0 ∷ b 0 ∷ b 0 ∷ b 1 ∷ b 0 ∷ c 1 52 ∷ c 1 94 ∷ c 1 94 ∷ c 1 94 ∷ c 0 94 ∷ c 0 94 ∷ c 1 94 ∷ c 0 94 ∷ c 1 94 ∷ c 1 94 ∷ c 0 94 ∷ c 1 94 ∷ c 1 94 ∷ c 0 94 ∷ c 1 94 ∷ c 0 94 ∷ c 1 94 ∷ c 1 116 ∷ c 1 115 ∷ c 1 115 ∷ c 1 115 ∷ c 0 115 ∷ c 0 115 ∷ c 0 115 ∷ c 1 115 ∷ c 0 124 ∷ b 0 ∷ b 1 ∷ b 1 ∷ b 1 ∷ b 0 ∷ b 1 ∷ b 1 ∷ b 0 ∷ b 1 ∷ b 0 ∷ b 0 ∷ b 0 ∷ b 0 ∷ b 1 ∷ b 0 ∷ b 0 ∷ b 0 ∷ c 1 52 ∷ c 1 94 ∷ c 1 94 ∷ c 0 94 ∷ c 1 94 ∷ c 1 94 ∷ c 1 94 ∷ c 1 94 ∷ c 1 94 ∷ c 0 94 ∷ c 0 94 ∷ c 1 94 ∷ c 0 94 ∷ c 1 94 ∷ c 1 94 ∷ c 1 94 ∷ c 1 94 ∷ c 0 116 ∷ c 0 117 ∷ c 0 118 ∷ c 0 118 ∷ c 1 118 ∷ c 0 115 ∷ c 0 115 ∷ c 0 115 ∷ c 0 124 ∷ b 0 ∷ b 1 ∷ b 1 ∷ b 0 ∷ b 1 ∷ b 0 ∷ b 0 ∷ b 0 ∷ b 0 ∷ b 1 ∷ b 0 ∷ b 1 ∷ b 1 ∷ b 0 ∷ b 0 ∷ b 1 ∷ b 0 ∷ b 0 ∷ c 1 52 ∷ c 1 94 ∷ c 0 94 ∷ c 1 94 ∷ c 0 94 ∷ c 1 94 ∷ c 0 94 ∷ c 0 94 ∷ c 0 94 ∷ c 1 94 ∷ c 1 94 ∷ c 1 94 ∷ c 1 94 ∷ c 1 94 ∷ c 0 94 ∷ c 1 94 ∷ c 1 94 ∷ c 0 116 ∷ c 0 117 ∷ c 0 118 ∷ c 0 118 ∷ c 0 118 ∷ c 1 118 ∷ c 0 115 ∷ c 1 115 ∷ c 1 124 ∷ b 1 ∷ b 1 ∷ b 0 ∷ b 1 ∷ b 1 ∷ b 0 ∷ b 0 ∷ b 1 ∷ b 0 ∷ b 0 ∷ b 1 ∷ b 0 ∷ b 0 ∷ b 0 ∷ b 1 ∷ b 0 ∷ b 0 ∷ b 0 ∷ b 0 ∷ c 1 52 ∷ c 1 92 ∷ c 1 92 ∷ c 1 93 ∷ c 1 94 ∷ c 0 92 ∷ c 1 92 ∷ c 0 93 ∷ c 1 94 ∷ c 1 92 ∷ c 0 92 ∷ c 1 93 ∷ c 1 94 ∷ c 1 92 ∷ c 1 92 ∷ c 1 93 ∷ c 1 94 ∷ c 0 116 ∷ c 0 117 ∷ c 0 118 ∷ c 1 118 ∷ c 0 115 ∷ c 0 115 ∷ c 0 115 ∷ c 1 115 ∷ c 0 124 ∷ b 0 ∷ b 0 ∷ b 0 ∷ b 1 ∷ b 0 ∷ b 0 ∷ b 0 ∷ b 1 ∷ b 0 ∷ b 0 ∷ b 1 ∷ b 0 ∷ b 1 ∷ b 0 ∷ b 0 ∷ b 1 ∷ b 0 ∷ b 0 ∷ b 1 ∷ b 0 ∷ b 1 ∷ b 0 ∷ c 1 52 ∷ c 1 94 ∷ c 1 94 ∷ c 1 94 ∷ c 1 94 ∷ c 0 94 ∷ c 1 94 ∷ c 0 94 ∷ c 0 94 ∷ c 1 94 ∷ c 0 94 ∷ c 1 94 ∷ c 0 94 ∷ c 0 94 ∷ c 1 94 ∷ c 0 94 ∷ c 0 94 ∷ c 0 116 ∷ c 0 117 ∷ c 1 118 ∷ c 0 115 ∷ c 0 115 ∷ c 0 115 ∷ c 1 115 ∷ c 0 115 ∷ c 0 124 ∷ b 0 ∷ b 0 ∷ b 0 ∷ b 0 ∷ b 0 ∷ b 1 ∷ b 1 ∷ b 1 ∷ b 1 ∷ b 0 ∷ c 1 52 ∷ c 1 94 ∷ c 1 94 ∷ c 1 94 ∷ c 0 94 ∷ c 1 94 ∷ c 0 94 ∷ c 1 94 ∷ c 0 94 ∷ c 0 94 ∷ c 1 94 ∷ c 0 94 ∷ c 0 94 ∷ c 1 94 ∷ c 1 94 ∷ c 0 94 ∷ c 1 94 ∷ c 0 116 ∷ c 0 117 ∷ c 0 118 ∷ c 0 118 ∷ c 0 118 ∷ c 0 118 ∷ c 0 118 ∷ c 1 118 ∷ c 0 124 ∷ b 1 ∷ b 0 ∷ b 1 ∷ b 0 ∷ b 1 ∷ b 0 ∷ b 0 ∷ b 0 ∷ b 1 ∷ b 1 ∷ b 1 ∷ b 0 ∷ c 1 52 ∷ c 0 94 ∷ c 1 94 ∷ c 1 94 ∷ c 1 94 ∷ c 1 94 ∷ c 1 94 ∷ c 0 94 ∷ c 1 94 ∷ c 1 94 ∷ c 1 94 ∷ c 1 94 ∷ c 0 94 ∷ c 0 94 ∷ c 1 94 ∷ c 1 94 ∷ c 1 94 ∷ c 1 116 ∷ c 0 115 ∷ c 0 115 ∷ c 1 115 ∷ c 1 115 ∷ c 0 115 ∷ c 1 115 ∷ c 0 115 ∷ c 0 124 ∷ b 1 ∷ b 0 ∷ b 1 ∷ b 1 ∷ b 1 ∷ b 1 ∷ b 0 ∷ b 0 ∷ b 0 ∷ b 1 ∷ b 0 ∷ b 1 ∷ b 1 ∷ b 0 ∷ b 0 ∷ b 0 ∷ b 1 ∷ b 0 ∷ b 0 ∷ b 0 ∷ b 0 ∷ c 1 52 ∷ c 1 94 ∷ c 1 94 ∷ c 1 94 ∷ c 1 94 ∷ c 1 94 ∷ c 0 94 ∷ c 0 94 ∷ c 0 94 ∷ c 0 94 ∷ c 1 94 ∷ c 1 94 ∷ c 1 94 ∷ c 1 94 ∷ c 0 94 ∷ c 0 94 ∷ c 1 94 ∷ c 1 116 ∷ c 1 115 ∷ c 0 115 ∷ c 0 115 ∷ c 0 115 ∷ c 1 115 ∷ c 1 115 ∷ c 1 115 ∷ c 0 124 ∷ b 0 ∷ b 0 ∷ b 1 ∷ b 1 ∷ b 1 ∷ b 0 ∷ b 1 ∷ b 0 ∷ b 1 ∷ b 0 ∷ b 1 ∷ b 0 ∷ b 0 ∷ b 0 ∷ b 1 ∷ b 0 ∷ b 0 ∷ b 1 ∷ b 1 ∷ b 1 ∷ b 1 ∷ b 0 ∷ b 1 ∷ c 1 52 ∷ c 1 94 ∷ c 1 94 ∷ c 1 94 ∷ c 0 94 ∷ c 0 94 ∷ c 0 94 ∷ c 1 94 ∷ c 0 94 ∷ c 1 94 ∷ c 1 94 ∷ c 1 94 ∷ c 1 94 ∷ c 1 94 ∷ c 0 94 ∷ c 1 94 ∷ c 1 94 ∷ c 1 116 ∷ c 0 115 ∷ c 0 115 ∷ c 0 115 ∷ c 1 115 ∷ c 1 115 ∷ c 0 115 ∷ c 1 115 ∷ c 0 124 ∷ b 0 ∷ b 1 ∷ b 0 ∷ b 0 ∷ b 1 ∷ b 0 ∷ b 0 ∷ b 0 ∷ b 0 ∷ b 1 ∷ b 0 ∷ b 0 ∷ b 0 ∷ b 0 ∷ b 0 ∷ b 1 ∷ b 0 ∷ b 0 ∷ c 1 52 ∷ c 1 94 ∷ c 1 94 ∷ c 1 94 ∷ c 1 94 ∷ c 1 94 ∷ c 0 94 ∷ c 1 94 ∷ c 0 94 ∷ c 1 94 ∷ c 1 94 ∷ c 0 94 ∷ c 1 94 ∷ c 0 94 ∷ c 0 94 ∷ c 1 94 ∷ c 1 94 ∷ c 0 116 ∷ c 0 117 ∷ c 1 118 ∷ c 0 115 ∷ c 0 115 ∷ c 1 115 ∷ c 0 115 ∷ c 0 115 ∷ c 0 124 ∷ b 0 ∷ b 1 ∷ b 0 ∷ b 0 ∷ b 0 ∷ b 0 ∷ b 1 ∷ b 1 ∷ b 1 ∷ b 0 ∷ b 1 ∷ b 1 ∷ b 0 ∷ b 0 ∷ b 0 ∷ b 0 ∷ c 1 52 ∷ c 0 94 ∷ c 0 94 ∷ c 1 94 ∷ c 1 94 ∷ c 1 94 ∷ c 0 94 ∷ c 1 94 ∷ c 1 94 ∷ c 0 94 ∷ c 1 94 ∷ c 0 94 ∷ c 1 94 ∷ c 0 94 ∷ c 1 94 ∷ c 0 94 ∷ c 1 94 ∷ c 0 116 ∷ c 0 117 ∷ c 0 118 ∷ c 1 118 ∷ c 0 115 ∷ c 1 115 ∷ c 1 115 ∷ c 1 115 ∷ c 0 124 ∷ b 1 ∷ b 1 ∷ b 0 ∷ b 1 ∷ b 1 ∷ b 1 ∷ b 0 ∷ b 1 ∷ b 0 ∷ b 0 ∷ b 0 ∷ b 0 ∷ b 0 ∷ c 1 52 ∷ c 1 92 ∷ c 0 92 ∷ c 1 93 ∷ c 1 94 ∷ c 1 92 ∷ c 1 92 ∷ c 0 93 ∷ c 1 94 ∷ c 0 92 ∷ c 0 92 ∷ c 1 93 ∷ c 1 94 ∷ c 1 92 ∷ c 0 92 ∷ c 0 93 ∷ c 1 94 ∷ c 0 116 ∷ c 0 117 ∷ c 1 118 ∷ c 1 115 ∷ c 1 115 ∷ c 1 115 ∷ c 1 115 ∷ c 1 115 ∷ c 0 124 ∷ b 1 ∷ b 1 ∷ b 1 ∷ b 0 ∷ b 1 ∷ b 0 ∷ b 1 ∷ b 1 ∷ b 1 ∷ b 0 ∷ b 0 ∷ b 1 ∷ b 0 ∷ b 0 ∷ b 0 ∷ b 1 ∷ b 0 ∷ b 0 ∷ b 0 ∷ c 1 52 ∷ c 0 94 ∷ c 0 94 ∷ c 1 94 ∷ c 0 94 ∷ c 0 94 ∷ c 0 94 ∷ c 1 94 ∷ c 1 94 ∷ c 0 94 ∷ c 1 94 ∷ c 1 94 ∷ c 0 94 ∷ c 1 94 ∷ c 0 94 ∷ c 1 94 ∷ c 1 94 ∷ c 0 116 ∷ c 1 117 ∷ c 0 115 ∷ c 1 115 ∷ c 1 115 ∷ c 1 115 ∷ c 1 115 ∷ c 0 115 ∷ c 0 124 ∷ b 0 ∷ b 0 ∷ b 0 ∷ b 0 ∷ b 0 ∷ b 0 ∷ b 0 ∷ b 1 ∷ b 0 ∷ b 0 ∷ b 0 ∷ b 0 ∷ c 1 52 ∷ c 1 94 ∷ c 1 94 ∷ c 1 94 ∷ c 0 94 ∷ c 1 94 ∷ c 1 94 ∷ c 0 94 ∷ c 1 94 ∷ c 1 94 ∷ c 1 94 ∷ c 1 94 ∷ c 1 94 ∷ c 0 94 ∷ c 0 94 ∷ c 1 94 ∷ c 1 94 ∷ c 1 116 ∷ c 1 115 ∷ c 0 115 ∷ c 0 115 ∷ c 1 115 ∷ c 0 115 ∷ c 0 115 ∷ c 0 115 ∷ c 0 124 ∷ b 0 ∷ b 1 ∷ b 1 ∷ b 0 ∷ b 1 ∷ b 1 ∷ b 0 ∷ b 0 ∷ b 0 ∷ b 0 ∷ b 0 ∷ b 0 ∷ b 1 ∷ b 0 ∷ b 0 ∷ b 1 ∷ b 0 ∷ b 0 ∷ b 0 ∷ b 1 ∷ b 0 ∷ c 1 52 ∷ c 1 94 ∷ c 1 94 ∷ c 1 94 ∷ c 1 94 ∷ c 1 94 ∷ c 1 94 ∷ c 0 94 ∷ c 1 94 ∷ c 0 94 ∷ c 1 94 ∷ c 0 94 ∷ c 1 94 ∷ c 1 94 ∷ c 1 94 ∷ c 1 94 ∷ c 0 94 ∷ c 0 116 ∷ c 0 117 ∷ c 1 118 ∷ c 0 115 ∷ c 0 115 ∷ c 0 115 ∷ c 0 115 ∷ c 0 115 ∷ c 0 124 ∷ b 0 ∷ b 0 ∷ b 0 ∷ b 1 ∷ b 0 ∷ b 0 ∷ b 1 ∷ b 1 ∷ b 1 ∷ b 0 ∷ b 1 ∷ b 1 ∷ b 0 ∷ b 0 ∷ b 0 ∷ b 1 ∷ b 0 ∷ c 1 52 ∷ c 0 94 ∷ c 0 94 ∷ c 0 94 ∷ c 1 94 ∷ c 0 94 ∷ c 1 94 ∷ c 1 94 ∷ c 1 94 ∷ c 1 94 ∷ c 1 94 ∷ c 0 94 ∷ c 1 94 ∷ c 1 94 ∷ c 1 94 ∷ c 1 94 ∷ c 1 94 ∷ c 1 116 ∷ c 0 115 ∷ c 1 115 ∷ c 0 115 ∷ c 0 115 ∷ c 0 115 ∷ c 1 115 ∷ c 1 115 ∷ c 1 124 ∷ b 0 ∷ b 0 ∷ b 0 ∷ b 0 ∷ b 0 ∷ b 0 ∷ b 0 ∷ b 0 ∷ b 0 ∷ b 0 ∷ b 1 ∷ b 0 ∷ b 0 ∷ b 0 ∷ b 0 ∷ b 1 ∷ b 1 ∷ b 0 ∷ b 1 ∷ b 1 ∷ b 0 ∷ b 0 ∷ c 1 52 ∷ c 1 94 ∷ c 1 94 ∷ c 1 94 ∷ c 1 94 ∷ c 0 94 ∷ c 1 94 ∷ c 1 94 ∷ c 0 94 ∷ c 1 94 ∷ c 1 94 ∷ c 1 94 ∷ c 1 94 ∷ c 0 94 ∷ c 1 94 ∷ c 1 94 ∷ c 1 94 ∷ c 0 116 ∷ c 1 117 ∷ c 0 115 ∷ c 0 115 ∷ c 0 115 ∷ c 0 115 ∷ c 0 115 ∷ c 1 115 ∷ c 1 124 ∷ b 1 ∷ b 0 ∷ b 1 ∷ b 0 ∷ b 1 ∷ b 1 ∷ b 1 ∷ b 0 ∷ b 1 ∷ b 0 ∷ b 0 ∷ b 0 ∷ b 1 ∷ b 0 ∷ b 0 ∷ b 0 ∷ b 1 ∷ b 0 ∷ b 0 ∷ b 0 ∷ b 1 ∷ b 0 ∷ c 1 52 ∷ c 1 94 ∷ c 0 94 ∷ c 1 94 ∷ c 1 94 ∷ c 1 94 ∷ c 1 94 ∷ c 1 94 ∷ c 1 94 ∷ c 1 94 ∷ c 1 94 ∷ c 1 94 ∷ c 0 94 ∷ c 1 94 ∷ c 1 94 ∷ c 1 94 ∷ c 0 94 ∷ c 0 116 ∷ c 1 117 ∷ c 1 115 ∷ c 0 115 ∷ c 1 115 ∷ c 0 115 ∷ c 0 115 ∷ c 0 115 ∷ c 0 124 ∷ b 0 ∷ b 0 ∷ b 0 ∷ b 1 ∷ b 0 ∷ b 1 ∷ b 1 ∷ b 1 ∷ b 1 ∷ b 0 ∷ b 0 ∷ b 1 ∷ b 0 ∷ b 1 ∷ b 0 ∷ b 0 ∷ b 1 ∷ b 0 ∷ b 0 ∷ b 1 ∷ b 1 ∷ b 1 ∷ b 0 ∷ b 0 ∷ b 1 ∷ b 0 ∷ b 1 ∷ c 1 52 ∷ c 1 94 ∷ c 1 94 ∷ c 0 94 ∷ c 0 94 ∷ c 1 94 ∷ c 0 94 ∷ c 1 94 ∷ c 1 94 ∷ c 1 94 ∷ c 1 94 ∷ c 1 94 ∷ c 1 94 ∷ c 1 94 ∷ c 0 94 ∷ c 1 94 ∷ c 1 94 ∷ c 0 116 ∷ c 0 117 ∷ c 0 118 ∷ c 0 118 ∷ c 1 118 ∷ c 0 115 ∷ c 0 115 ∷ c 0 115 ∷ c 0 124 ∷ b 1 ∷ b 1 ∷ b 1 ∷ b 1 ∷ b 0 ∷ b 1 ∷ b 0 ∷ b 0 ∷ b 0 ∷ b 1 ∷ b 1 ∷ b 1 ∷ b 0 ∷ b 0 ∷ b 0 ∷ b 0 ∷ c 1 52 ∷ c 1 92 ∷ c 1 92 ∷ c 0 93 ∷ c 1 94 ∷ c 1 92 ∷ c 1 92 ∷ c 1 93 ∷ c 1 94 ∷ c 1 92 ∷ c 0 92 ∷ c 1 93 ∷ c 1 94 ∷ c 1 92 ∷ c 0 92 ∷ c 1 93 ∷ c 1 94 ∷ c 1 116 ∷ c 0 115 ∷ c 0 115 ∷ c 0 115 ∷ c 0 115 ∷ c 0 115 ∷ c 0 115 ∷ c 1 115 ∷ c 0 124 ∷ b 0 ∷ b 0 ∷ b 1 ∷ b 1 ∷ b 1 ∷ b 1 ∷ b 0 ∷ b 1 ∷ b 0 ∷ b 1 ∷ b 0 ∷ b 1 ∷ b 1 ∷ b 0 ∷ b 0 ∷ b 1 ∷ b 0 ∷ b 1 ∷ b 0 ∷ b 1 ∷ b 0 ∷ b 0 ∷ c 1 52 ∷ c 1 94 ∷ c 1 94 ∷ c 1 94 ∷ c 1 94 ∷ c 1 94 ∷ c 0 94 ∷ c 1 94 ∷ c 0 94 ∷ c 0 94 ∷ c 1 94 ∷ c 1 94 ∷ c 1 94 ∷ c 1 94 ∷ c 0 94 ∷ c 1 94 ∷ c 1 94 ∷ c 1 116 ∷ c 0 115 ∷ c 1 115 ∷ c 0 115 ∷ c 0 115 ∷ c 0 115 ∷ c 1 115 ∷ c 1 115 ∷ c 0 124 ∷ b 1 ∷ b 0 ∷ b 0 ∷ b 0 ∷ b 1 ∷ b 1 ∷ b 0 ∷ b 1 ∷ b 0 ∷ b 0 ∷ b 0 ∷ b 0 ∷ b 0 ∷ b 0 ∷ b 0 ∷ b 1 ∷ b 1 ∷ b 0 ∷ b 0 ∷ b 0 ∷ b 1 ∷ b 1 ∷ b 1 ∷ b 0 ∷ c 1 52 ∷ c 1 94 ∷ c 1 94 ∷ c 1 94 ∷ c 1 94 ∷ c 1 94 ∷ c 0 94 ∷ c 1 94 ∷ c 1 94 ∷ c 0 94 ∷ c 1 94 ∷ c 1 94 ∷ c 0 94 ∷ c 1 94 ∷ c 1 94 ∷ c 0 94 ∷ c 1 94 ∷ c 1 116 ∷ c 1 115 ∷ c 0 115 ∷ c 1 115 ∷ c 0 115 ∷ c 0 115 ∷ c 0 115 ∷ c 0 115 ∷ c 1 124 ∷ b 1 ∷ b 1 ∷ b 1 ∷ b 1 ∷ b 0 ∷ b 0 ∷ b 1 ∷ b 1 ∷ b 1 ∷ b 0 ∷ b 1 ∷ b 1 ∷ b 1 ∷ b 0 ∷ b 1 ∷ b 1 ∷ b 0 ∷ b 0 ∷ b 1 ∷ b 0 ∷ b 0 ∷ b 0 ∷ b 1 ∷ b 0 ∷ b 1 ∷ b 0 ∷ b 0 ∷ b 0 ∷ b 0 ∷ c 1 52 ∷ c 0 94 ∷ c 1 94 ∷ c 0 94 ∷ c 1 94 ∷ c 1 94 ∷ c 1 94 ∷ c 1 94 ∷ c 1 94 ∷ c 0 94 ∷ c 1 94 ∷ c 0 94 ∷ c 1 94 ∷ c 0 94 ∷ c 1 94 ∷ c 1 94 ∷ c 1 94 ∷ c 0 116 ∷ c 1 117 ∷ c 1 115 ∷ c 0 115 ∷ c 1 115 ∷ c 0 115 ∷ c 0 115 ∷ c 0 115 ∷ c 1 124 ∷ b 0 ∷ b 0 ∷ b 0 ∷ b 1 ∷ b 0 ∷ b 0 ∷ b 1 ∷ b 0 ∷ b 1 ∷ b 1 ∷ b 1 ∷ b 0 ∷ b 0 ∷ b 1 ∷ b 1 ∷ b 1 ∷ b 0 ∷ b 0 ∷ b 1 ∷ b 0 ∷ b 0 ∷ b 0 ∷ b 0 ∷ c 1 52 ∷ c 0 94 ∷ c 0 94 ∷ c 1 94 ∷ c 1 94 ∷ c 0 94 ∷ c 1 94 ∷ c 1 94 ∷ c 1 94 ∷ c 0 94 ∷ c 1 94 ∷ c 0 94 ∷ c 1 94 ∷ c 1 94 ∷ c 0 94 ∷ c 1 94 ∷ c 0 94 ∷ c 0 116 ∷ c 0 117 ∷ c 1 118 ∷ c 1 115 ∷ c 0 115 ∷ c 0 115 ∷ c 0 115 ∷ c 1 115 ∷ c 0 124 ∷ b 0 ∷ b 1 ∷ b 1 ∷ b 0 ∷ b 0 ∷ b 1 ∷ b 0 ∷ b 1 ∷ b 1 ∷ b 1 ∷ b 1 ∷ b 0 ∷ b 0 ∷ b 1 ∷ b 1 ∷ b 0 ∷ b 0 ∷ c 1 52 ∷ c 1 94 ∷ c 1 94 ∷ c 1 94 ∷ c 1 94 ∷ c 1 94 ∷ c 0 94 ∷ c 1 94 ∷ c 1 94 ∷ c 0 94 ∷ c 1 94 ∷ c 1 94 ∷ c 0 94 ∷ c 1 94 ∷ c 1 94 ∷ c 1 94 ∷ c 1 94 ∷ c 0 116 ∷ c 0 117 ∷ c 0 118 ∷ c 1 118 ∷ c 0 115 ∷ c 0 115 ∷ c 0 115 ∷ c 0 115 ∷ c 0 124 ∷ b 1 ∷ b 0 ∷ b 1 ∷ b 1 ∷ b 1 ∷ b 1 ∷ b 1 ∷ b 1 ∷ b 0 ∷ b 0 ∷ b 1 ∷ b 0 ∷ b 0 ∷ b 0 ∷ b 0 ∷ b 0 ∷ b 0 ∷ b 0 ∷ c 1 52 ∷ c 0 94 ∷ c 1 94 ∷ c 1 94 ∷ c 0 94 ∷ c 0 94 ∷ c 0 94 ∷ c 1 94 ∷ c 1 94 ∷ c 1 94 ∷ c 1 94 ∷ c 0 94 ∷ c 1 94 ∷ c 1 94 ∷ c 0 94 ∷ c 1 94 ∷ c 1 94 ∷ c 0 116 ∷ c 1 117 ∷ c 0 115 ∷ c 0 115 ∷ c 0 115 ∷ c 1 115 ∷ c 0 115 ∷ c 0 115 ∷ c 0 124 ∷ b 1 ∷ b 1 ∷ b 1 ∷ b 1 ∷ b 1 ∷ b 0 ∷ b 0 ∷ b 1 ∷ b 1 ∷ b 1 ∷ b 0 ∷ b 0 ∷ b 0 ∷ c 1 52 ∷ c 1 94 ∷ c 0 94 ∷ c 1 94 ∷ c 1 94 ∷ c 0 94 ∷ c 1 94 ∷ c 1 94 ∷ c 1 94 ∷ c 1 94 ∷ c 1 94 ∷ c 1 94 ∷ c 1 94 ∷ c 0 94 ∷ c 1 94 ∷ c 1 94 ∷ c 1 94 ∷ c 1 116 ∷ c 0 115 ∷ c 0 115 ∷ c 0 115 ∷ c 1 115 ∷ c 1 115 ∷ c 0 115 ∷ c 1 115 ∷ c 1 124 ∷ b 1 ∷ b 0 ∷ b 0 ∷ b 1 ∷ b 1 ∷ b 0 ∷ b 0 ∷ b 0 ∷ b 0 ∷ b 0 ∷ b 0 ∷ b 1 ∷ b 0 ∷ b 1 ∷ b 0 ∷ b 0 ∷ b 1 ∷ b 0 ∷ b 1 ∷ b 0 ∷ b 0 ∷ b 0 ∷ b 0 ∷ b 0 ∷ b 1 ∷ b 0 ∷ b 0 ∷ b 0 ∷ b 1 ∷ b 0 ∷ b 0 ∷ c 1 52 ∷ c 1 92 ∷ c 0 92 ∷ c 0 93 ∷ c 0 94 ∷ c 0 92 ∷ c 1 92 ∷ c 1 93 ∷ c 0 94 ∷ c 1 92 ∷ c 0 92 ∷ c 0 93 ∷ c 1 94 ∷ c 0 92 ∷ c 1 92 ∷ c 0 93 ∷ c 1 94 ∷ c 0 116 ∷ c 1 117 ∷ c 0 115 ∷ c 0 115 ∷ c 0 115 ∷ c 0 115 ∷ c 0 115 ∷ c 0 124 ∷ b 1 ∷ b 0 ∷ b 1 ∷ b 0 ∷ b 0 ∷ b 1 ∷ b 1 ∷ c 1 52 ∷ c 1 94 ∷ c 0 94 ∷ c 1 94 ∷ c 1 94 ∷ c 0 94 ∷ c 1 94 ∷ c 1 94 ∷ c 0 94 ∷ c 0 94 ∷ c 0 94 ∷ c 1 94 ∷ c 1 94 ∷ c 1 94 ∷ c 0 94 ∷ c 0 94 ∷ c 0 94 ∷ c 0 116 ∷ c 0 117 ∷ c 0 118 ∷ c 0 118 ∷ c 0 118 ∷ c 1 118 ∷ c 1 115 ∷ c 0 115 ∷ c 1 124 ∷ b 1 ∷ b 0 ∷ b 1 ∷ b 0 ∷ b 0 ∷ b 0 ∷ b 1 ∷ b 1 ∷ b 0 ∷ b 1 ∷ b 0 ∷ c 1 52 ∷ c 1 94 ∷ c 0 94 ∷ c 1 94 ∷ c 1 94 ∷ c 1 94 ∷ c 1 94 ∷ c 1 94 ∷ c 1 94 ∷ c 0 94 ∷ c 1 94 ∷ c 1 94 ∷ c 0 94 ∷ c 0 94 ∷ c 1 94 ∷ c 1 94 ∷ c 1 94 ∷ c 0 116 ∷ c 1 117 ∷ c 1 115 ∷ c 1 115 ∷ c 0 115 ∷ c 1 115 ∷ c 0 115 ∷ c 1 115 ∷ c 0 124 ∷ b 1 ∷ b 0 ∷ b 0 ∷ b 0 ∷ b 0 ∷ b 0 ∷ b 1 ∷ b 0 ∷ b 0 ∷ b 0 ∷ b 1 ∷ b 0 ∷ b 0 ∷ b 0 ∷ b 0 ∷ b 1 ∷ b 0 ∷ b 0 ∷ b 0 ∷ b 1 ∷ b 0 ∷ b 0 ∷ c 1 52 ∷ c 1 94 ∷ c 1 94 ∷ c 0 94 ∷ c 1 94 ∷ c 1 94 ∷ c 1 94 ∷ c 1 94 ∷ c 0 94 ∷ c 1 94 ∷ c 1 94 ∷ c 1 94 ∷ c 0 94 ∷ c 1 94 ∷ c 1 94 ∷ c 1 94 ∷ c 1 94 ∷ c 0 116 ∷ c 0 117 ∷ c 1 118 ∷ c 1 115 ∷ c 0 115 ∷ c 1 115 ∷ c 0 115 ∷ c 0 115 ∷ c 0 124 ∷ b 1 ∷ b 1 ∷ b 1 ∷ b 1 ∷ b 0 ∷ b 0 ∷ b 1 ∷ b 0 ∷ b 1 ∷ b 1 ∷ b 0 ∷ b 0 ∷ b 0 ∷ b 0 ∷ b 0 ∷ b 0 ∷ b 0 ∷ b 0 ∷ b 0 ∷ b 0 ∷ c 1 52 ∷ c 1 94 ∷ c 1 94 ∷ c 1 94 ∷ c 1 94 ∷ c 1 94 ∷ c 0 94 ∷ c 0 94 ∷ c 1 94 ∷ c 0 94 ∷ c 0 94 ∷ c 1 94 ∷ c 1 94 ∷ c 0 94 ∷ c 1 94 ∷ c 1 94 ∷ c 1 94 ∷ c 0 116 ∷ c 0 117 ∷ c 0 118 ∷ c 0 118 ∷ c 0 118 ∷ c 0 118 ∷ c 1 118 ∷ c 1 115 ∷ c 1 124 ∷ b 1 ∷ b 1 ∷ b 1 ∷ b 1 ∷ b 1 ∷ b 0 ∷ b 1 ∷ b 0 ∷ b 1 ∷ b 1 ∷ b 0 ∷ b 0 ∷ b 0 ∷ b 0 ∷ b 1 ∷ b 1 ∷ b 1 ∷ b 1 ∷ b 0 ∷ b 0 ∷ b 0 ∷ b 0 ∷ c 1 52 ∷ c 1 94 ∷ c 1 94 ∷ c 1 94 ∷ c 1 94 ∷ c 1 94 ∷ c 1 94 ∷ c 1 94 ∷ c 1 94 ∷ c 1 94 ∷ c 0 94 ∷ c 1 94 ∷ c 1 94 ∷ c 1 94 ∷ c 1 94 ∷ c 1 94 ∷ c 1 94 ∷ c 1 116 ∷ c 0 115 ∷ c 0 115 ∷ c 0 115 ∷ c 1 115 ∷ c 1 115 ∷ c 1 115 ∷ c 1 115 ∷ c 0 124 ∷ b 0 ∷ b 1 ∷ b 1 ∷ b 1 ∷ b 1 ∷ b 0 ∷ b 0 ∷ b 1 ∷ b 0 ∷ b 0 ∷ b 1 ∷ b 0 ∷ b 0 ∷ b 1 ∷ b 0 ∷ b 0 ∷ b 0 ∷ b 1 ∷ b 1 ∷ b 1 ∷ b 1 ∷ b 0 ∷ b 1 ∷ b 0 ∷ b 1 ∷ b 1 ∷ b 0 ∷ b 0 ∷ b 0 ∷ b 1 ∷ b 0 ∷ b 0 ∷ b 0 ∷ b 0 ∷ b 0 ∷ b 0 ∷ b 0 ∷ b 1 ∷ b 0 ∷ b 0 ∷ c 1 52 ∷ c 1 94 ∷ c 1 94 ∷ c 0 94 ∷ c 1 94 ∷ c 1 94 ∷ c 1 94 ∷ c 1 94 ∷ c 0 94 ∷ c 1 94 ∷ c 1 94 ∷ c 1 94 ∷ c 1 94 ∷ c 0 94 ∷ c 1 94 ∷ c 0 94 ∷ c 0 94 ∷ c 0 116 ∷ c 1 117 ∷ c 1 115 ∷ c 0 115 ∷ c 0 115 ∷ c 0 115 ∷ c 0 115 ∷ c 0 115 ∷ c 1 124 ∷ b 1 ∷ b 1 ∷ b 0 ∷ b 1 ∷ b 0 ∷ b 1 ∷ b 1 ∷ b 1 ∷ b 1 ∷ b 1 ∷ b 0 ∷ b 0 ∷ b 0 ∷ b 0 ∷ b 1 ∷ b 1 ∷ b 1 ∷ b 0 ∷ b 0 ∷ b 0 ∷ c 0 94 ∷ c 1 94 ∷ c 0 94 ∷ c 1 94 ∷ c 1 94 ∷ c 0 94 ∷ c 1 94 ∷ c 1 94 ∷ c 0 94 ∷ c 1 94 ∷ c 1 94 ∷ c 1 94 ∷ c 0 94 ∷ c 1 94 ∷ c 0 94 ∷ c 1 80 ∷ c 0 116 ∷ c 0 117 ∷ c 1 118 ∷ c 1 115 ∷ c 0 115 ∷ c 1 115 ∷ c 1 115 ∷ c 0 115 ∷ c 0 124 ∷ b 0 ∷ b 0 ∷ b 0 ∷ b 1 ∷ b 0 ∷ b 0 ∷ b 1 ∷ b 1 ∷ b 1 ∷ b 0 ∷ b 1 ∷ b 0 ∷ b 1 ∷ b 1 ∷ b 1 ∷ b 1 ∷ b 0 ∷ b 1 ∷ b 1 ∷ b 0 ∷ b 1 ∷ b 1 ∷ b 0 ∷ b 1 ∷ b 0 ∷ b 1 ∷ []

abbrev shape_9 : Shape
shape_9 = record { component = 1; log2 = 5; scan = 1 }

pub written_9 : residual_items shape_9 block_9 ≡ items_9
unfolding residual_items scan cbf in_coding_order last_context sig_context sub_block_context greater1_context greater2_context u digits_up_to value_after read_u read_alignment
written_9 = refl

pub read_9 : read_coded (residual_read shape_9) items_9 ≡ Some block_9
unfolding start Engine.start code closing put_bin lps_range doublings next renormalised context_read bypass_read terminate_read residual_read scan cbf in_rows last_context sig_context sub_block_context greater1_context greater2_context u digits_up_to value_after read_u read_alignment
read_9 = refl

-- 2004 items
abbrev block_10 : List ℤ
block_10 = pos 0 ∷ pos 0 ∷ pos 0 ∷ pos 0 ∷ pos 0 ∷ pos 0 ∷ pos 0 ∷ pos 0 ∷ negsuc 2 ∷ pos 0 ∷ pos 0 ∷ pos 0 ∷ pos 0 ∷ pos 0 ∷ pos 0 ∷ pos 0 ∷ pos 0 ∷ pos 0 ∷ pos 0 ∷ pos 0 ∷ pos 0 ∷ pos 0 ∷ pos 0 ∷ negsuc 1 ∷ pos 0 ∷ pos 1 ∷ pos 0 ∷ pos 0 ∷ pos 0 ∷ pos 0 ∷ pos 0 ∷ pos 0 ∷ pos 0 ∷ negsuc 0 ∷ pos 0 ∷ pos 0 ∷ pos 0 ∷ negsuc 5 ∷ pos 0 ∷ pos 0 ∷ pos 0 ∷ pos 0 ∷ negsuc 4 ∷ pos 0 ∷ pos 0 ∷ pos 0 ∷ pos 0 ∷ pos 0 ∷ pos 0 ∷ pos 0 ∷ pos 0 ∷ pos 0 ∷ negsuc 1 ∷ pos 2 ∷ pos 0 ∷ pos 0 ∷ negsuc 2 ∷ pos 0 ∷ pos 0 ∷ pos 2 ∷ pos 5 ∷ pos 0 ∷ pos 0 ∷ pos 0 ∷ pos 0 ∷ pos 0 ∷ pos 3 ∷ pos 0 ∷ pos 0 ∷ negsuc 0 ∷ pos 3 ∷ pos 0 ∷ pos 0 ∷ pos 0 ∷ pos 0 ∷ pos 0 ∷ negsuc 2 ∷ pos 0 ∷ pos 0 ∷ pos 1 ∷ pos 0 ∷ pos 0 ∷ pos 0 ∷ pos 0 ∷ pos 0 ∷ pos 0 ∷ pos 3 ∷ pos 1 ∷ pos 0 ∷ pos 0 ∷ pos 0 ∷ pos 0 ∷ pos 0 ∷ pos 0 ∷ pos 0 ∷ pos 0 ∷ negsuc 1 ∷ pos 0 ∷ pos 0 ∷ pos 0 ∷ pos 0 ∷ pos 0 ∷ negsuc 8 ∷ pos 0 ∷ pos 0 ∷ negsuc 5 ∷ pos 0 ∷ pos 0 ∷ pos 0 ∷ negsuc 6 ∷ pos 0 ∷ negsuc 4 ∷ pos 0 ∷ pos 0 ∷ pos 0 ∷ pos 0 ∷ pos 0 ∷ pos 0 ∷ pos 0 ∷ pos 0 ∷ pos 0 ∷ pos 0 ∷ pos 0 ∷ pos 0 ∷ pos 0 ∷ negsuc 3 ∷ pos 0 ∷ pos 0 ∷ pos 0 ∷ pos 0 ∷ pos 0 ∷ pos 0 ∷ pos 0 ∷ pos 0 ∷ pos 0 ∷ negsuc 1 ∷ pos 0 ∷ pos 0 ∷ pos 0 ∷ pos 0 ∷ pos 0 ∷ pos 0 ∷ pos 0 ∷ pos 1 ∷ pos 0 ∷ pos 0 ∷ pos 0 ∷ negsuc 1 ∷ pos 11 ∷ negsuc 13 ∷ pos 0 ∷ pos 0 ∷ pos 0 ∷ pos 0 ∷ pos 0 ∷ negsuc 2 ∷ pos 0 ∷ pos 0 ∷ pos 0 ∷ pos 0 ∷ pos 0 ∷ pos 0 ∷ pos 0 ∷ pos 0 ∷ negsuc 6 ∷ pos 0 ∷ pos 0 ∷ negsuc 4 ∷ pos 0 ∷ pos 3 ∷ pos 0 ∷ pos 0 ∷ pos 5 ∷ pos 0 ∷ negsuc 8 ∷ pos 1 ∷ pos 0 ∷ pos 0 ∷ pos 0 ∷ pos 0 ∷ pos 0 ∷ pos 0 ∷ negsuc 1 ∷ negsuc 2 ∷ pos 0 ∷ pos 0 ∷ pos 0 ∷ pos 0 ∷ pos 0 ∷ pos 0 ∷ pos 0 ∷ pos 0 ∷ pos 0 ∷ pos 0 ∷ pos 0 ∷ pos 0 ∷ pos 0 ∷ pos 0 ∷ pos 0 ∷ pos 0 ∷ pos 0 ∷ pos 0 ∷ pos 0 ∷ negsuc 1 ∷ pos 0 ∷ pos 0 ∷ pos 4 ∷ pos 0 ∷ pos 0 ∷ pos 0 ∷ pos 0 ∷ pos 0 ∷ pos 0 ∷ pos 0 ∷ pos 0 ∷ pos 0 ∷ pos 0 ∷ pos 0 ∷ pos 0 ∷ pos 0 ∷ pos 0 ∷ pos 0 ∷ pos 0 ∷ pos 0 ∷ pos 0 ∷ pos 0 ∷ pos 0 ∷ pos 0 ∷ pos 0 ∷ negsuc 0 ∷ pos 0 ∷ pos 0 ∷ pos 0 ∷ pos 0 ∷ pos 0 ∷ pos 0 ∷ pos 0 ∷ pos 0 ∷ pos 0 ∷ pos 0 ∷ pos 0 ∷ pos 0 ∷ pos 0 ∷ pos 0 ∷ pos 0 ∷ pos 0 ∷ pos 0 ∷ pos 0 ∷ pos 1 ∷ pos 0 ∷ pos 0 ∷ negsuc 0 ∷ pos 0 ∷ pos 0 ∷ pos 0 ∷ pos 3 ∷ pos 0 ∷ pos 0 ∷ pos 0 ∷ pos 0 ∷ pos 0 ∷ negsuc 0 ∷ pos 0 ∷ pos 0 ∷ pos 0 ∷ pos 0 ∷ pos 0 ∷ negsuc 1 ∷ pos 0 ∷ pos 0 ∷ pos 0 ∷ negsuc 2 ∷ pos 7 ∷ pos 0 ∷ pos 0 ∷ pos 0 ∷ negsuc 1 ∷ pos 4 ∷ pos 0 ∷ pos 0 ∷ pos 0 ∷ pos 0 ∷ pos 0 ∷ pos 0 ∷ negsuc 0 ∷ pos 0 ∷ pos 0 ∷ pos 0 ∷ pos 3 ∷ pos 0 ∷ pos 0 ∷ pos 0 ∷ pos 0 ∷ pos 0 ∷ pos 0 ∷ pos 0 ∷ pos 0 ∷ pos 0 ∷ pos 0 ∷ pos 6 ∷ pos 0 ∷ pos 1 ∷ pos 0 ∷ pos 0 ∷ pos 0 ∷ pos 0 ∷ pos 0 ∷ pos 0 ∷ pos 0 ∷ pos 0 ∷ negsuc 0 ∷ pos 0 ∷ pos 1 ∷ pos 0 ∷ negsuc 1 ∷ pos 0 ∷ pos 3 ∷ pos 0 ∷ pos 0 ∷ pos 2 ∷ pos 0 ∷ pos 0 ∷ pos 0 ∷ pos 0 ∷ pos 0 ∷ pos 0 ∷ pos 0 ∷ pos 0 ∷ pos 0 ∷ pos 0 ∷ pos 0 ∷ pos 0 ∷ pos 0 ∷ pos 0 ∷ pos 0 ∷ negsuc 1 ∷ pos 0 ∷ pos 0 ∷ pos 0 ∷ pos 0 ∷ pos 0 ∷ pos 0 ∷ pos 0 ∷ pos 0 ∷ pos 0 ∷ pos 0 ∷ pos 0 ∷ pos 0 ∷ pos 0 ∷ pos 0 ∷ negsuc 2 ∷ pos 0 ∷ pos 1 ∷ negsuc 1 ∷ pos 0 ∷ pos 0 ∷ pos 0 ∷ pos 0 ∷ negsuc 3 ∷ negsuc 2 ∷ pos 0 ∷ pos 0 ∷ negsuc 1 ∷ pos 0 ∷ pos 0 ∷ pos 0 ∷ pos 0 ∷ pos 6 ∷ pos 0 ∷ pos 10 ∷ pos 0 ∷ pos 0 ∷ pos 0 ∷ pos 1 ∷ pos 0 ∷ pos 4 ∷ pos 0 ∷ pos 0 ∷ pos 0 ∷ pos 3 ∷ pos 0 ∷ pos 0 ∷ pos 0 ∷ pos 0 ∷ pos 2 ∷ pos 0 ∷ pos 7 ∷ pos 0 ∷ pos 0 ∷ pos 0 ∷ pos 0 ∷ pos 0 ∷ pos 0 ∷ pos 0 ∷ negsuc 0 ∷ pos 0 ∷ pos 0 ∷ pos 0 ∷ pos 4 ∷ pos 0 ∷ pos 0 ∷ pos 0 ∷ pos 0 ∷ pos 0 ∷ pos 0 ∷ pos 0 ∷ pos 0 ∷ pos 0 ∷ pos 0 ∷ pos 0 ∷ pos 0 ∷ pos 0 ∷ pos 0 ∷ negsuc 6 ∷ pos 0 ∷ pos 0 ∷ pos 0 ∷ pos 1 ∷ negsuc 1 ∷ pos 0 ∷ pos 0 ∷ pos 0 ∷ pos 0 ∷ negsuc 1 ∷ pos 0 ∷ pos 0 ∷ negsuc 2 ∷ pos 0 ∷ negsuc 4 ∷ pos 0 ∷ pos 0 ∷ negsuc 2 ∷ pos 0 ∷ pos 0 ∷ negsuc 5 ∷ pos 0 ∷ pos 0 ∷ pos 0 ∷ pos 1 ∷ negsuc 0 ∷ pos 0 ∷ pos 0 ∷ pos 0 ∷ pos 1 ∷ pos 0 ∷ pos 0 ∷ negsuc 0 ∷ pos 0 ∷ pos 0 ∷ pos 0 ∷ pos 5 ∷ pos 0 ∷ pos 0 ∷ pos 0 ∷ pos 0 ∷ pos 0 ∷ pos 2 ∷ pos 0 ∷ pos 4 ∷ pos 0 ∷ pos 0 ∷ pos 0 ∷ negsuc 2 ∷ pos 0 ∷ pos 0 ∷ pos 0 ∷ pos 0 ∷ pos 0 ∷ pos 0 ∷ pos 7 ∷ pos 0 ∷ pos 8 ∷ pos 0 ∷ pos 0 ∷ pos 0 ∷ pos 0 ∷ pos 1 ∷ pos 0 ∷ pos 0 ∷ pos 0 ∷ pos 3 ∷ pos 0 ∷ pos 0 ∷ pos 1 ∷ pos 0 ∷ negsuc 0 ∷ pos 0 ∷ pos 0 ∷ pos 0 ∷ pos 0 ∷ pos 0 ∷ pos 0 ∷ negsuc 2 ∷ pos 0 ∷ pos 0 ∷ negsuc 0 ∷ pos 0 ∷ pos 0 ∷ pos 0 ∷ pos 0 ∷ pos 0 ∷ negsuc 15 ∷ pos 0 ∷ pos 1 ∷ pos 0 ∷ pos 0 ∷ pos 0 ∷ pos 0 ∷ pos 0 ∷ pos 5 ∷ pos 0 ∷ pos 0 ∷ pos 4 ∷ pos 0 ∷ pos 0 ∷ pos 0 ∷ pos 0 ∷ pos 0 ∷ pos 0 ∷ pos 0 ∷ pos 0 ∷ negsuc 0 ∷ pos 0 ∷ pos 0 ∷ pos 0 ∷ pos 0 ∷ pos 0 ∷ pos 4 ∷ negsuc 3 ∷ pos 5 ∷ pos 0 ∷ pos 0 ∷ pos 0 ∷ pos 0 ∷ pos 0 ∷ pos 3 ∷ pos 0 ∷ pos 0 ∷ pos 0 ∷ pos 0 ∷ pos 0 ∷ pos 0 ∷ negsuc 1 ∷ pos 0 ∷ pos 0 ∷ pos 0 ∷ pos 0 ∷ pos 0 ∷ pos 0 ∷ negsuc 3 ∷ pos 0 ∷ pos 0 ∷ pos 0 ∷ pos 0 ∷ pos 0 ∷ pos 0 ∷ pos 0 ∷ pos 0 ∷ pos 0 ∷ pos 0 ∷ negsuc 2 ∷ pos 0 ∷ pos 0 ∷ pos 5 ∷ negsuc 1 ∷ pos 0 ∷ pos 2 ∷ pos 0 ∷ pos 0 ∷ pos 0 ∷ pos 0 ∷ pos 0 ∷ pos 0 ∷ negsuc 3 ∷ pos 0 ∷ pos 2 ∷ pos 2 ∷ pos 0 ∷ pos 11 ∷ pos 0 ∷ pos 0 ∷ pos 0 ∷ pos 0 ∷ pos 0 ∷ pos 0 ∷ pos 0 ∷ pos 0 ∷ pos 0 ∷ pos 0 ∷ pos 0 ∷ pos 0 ∷ negsuc 0 ∷ pos 0 ∷ pos 0 ∷ pos 0 ∷ pos 0 ∷ pos 0 ∷ pos 0 ∷ pos 0 ∷ pos 1 ∷ pos 0 ∷ pos 0 ∷ pos 0 ∷ pos 0 ∷ pos 0 ∷ pos 0 ∷ pos 0 ∷ pos 0 ∷ negsuc 2 ∷ pos 0 ∷ pos 0 ∷ pos 0 ∷ pos 0 ∷ pos 0 ∷ pos 0 ∷ pos 0 ∷ pos 0 ∷ pos 0 ∷ pos 0 ∷ pos 0 ∷ negsuc 11 ∷ pos 0 ∷ pos 4 ∷ pos 4 ∷ pos 0 ∷ pos 0 ∷ pos 0 ∷ pos 0 ∷ pos 0 ∷ pos 3 ∷ pos 0 ∷ pos 1 ∷ pos 0 ∷ pos 0 ∷ pos 0 ∷ pos 1 ∷ pos 0 ∷ pos 0 ∷ pos 0 ∷ pos 0 ∷ pos 0 ∷ pos 0 ∷ pos 8 ∷ pos 0 ∷ pos 6 ∷ pos 0 ∷ pos 0 ∷ pos 0 ∷ pos 0 ∷ pos 0 ∷ pos 0 ∷ pos 0 ∷ pos 0 ∷ pos 0 ∷ pos 0 ∷ pos 0 ∷ pos 0 ∷ pos 0 ∷ pos 0 ∷ pos 0 ∷ pos 0 ∷ pos 0 ∷ pos 0 ∷ pos 0 ∷ pos 0 ∷ pos 0 ∷ negsuc 1 ∷ pos 0 ∷ pos 0 ∷ negsuc 3 ∷ pos 0 ∷ pos 0 ∷ pos 0 ∷ pos 0 ∷ negsuc 7 ∷ pos 0 ∷ pos 0 ∷ pos 0 ∷ pos 0 ∷ pos 0 ∷ negsuc 7 ∷ pos 0 ∷ pos 0 ∷ pos 0 ∷ pos 4 ∷ pos 0 ∷ pos 0 ∷ pos 0 ∷ pos 0 ∷ pos 0 ∷ pos 0 ∷ pos 0 ∷ pos 0 ∷ pos 0 ∷ negsuc 2 ∷ pos 0 ∷ pos 0 ∷ pos 0 ∷ negsuc 1 ∷ pos 0 ∷ pos 0 ∷ pos 0 ∷ pos 0 ∷ pos 0 ∷ pos 0 ∷ pos 0 ∷ negsuc 6 ∷ pos 0 ∷ pos 0 ∷ pos 0 ∷ negsuc 1 ∷ pos 1 ∷ pos 0 ∷ pos 0 ∷ pos 0 ∷ pos 0 ∷ pos 0 ∷ pos 0 ∷ pos 0 ∷ pos 0 ∷ pos 0 ∷ negsuc 0 ∷ pos 0 ∷ pos 0 ∷ pos 0 ∷ pos 0 ∷ pos 0 ∷ pos 0 ∷ pos 0 ∷ pos 0 ∷ pos 0 ∷ pos 0 ∷ pos 0 ∷ pos 0 ∷ pos 0 ∷ pos 0 ∷ pos 0 ∷ pos 0 ∷ pos 0 ∷ pos 0 ∷ pos 0 ∷ negsuc 4 ∷ pos 0 ∷ pos 0 ∷ pos 0 ∷ pos 0 ∷ pos 0 ∷ pos 0 ∷ pos 0 ∷ pos 0 ∷ pos 0 ∷ pos 0 ∷ pos 0 ∷ pos 0 ∷ pos 0 ∷ pos 0 ∷ negsuc 0 ∷ negsuc 0 ∷ pos 0 ∷ pos 0 ∷ pos 0 ∷ pos 0 ∷ pos 0 ∷ pos 0 ∷ pos 0 ∷ pos 0 ∷ pos 0 ∷ pos 0 ∷ negsuc 4 ∷ pos 0 ∷ pos 0 ∷ pos 0 ∷ pos 0 ∷ pos 0 ∷ pos 0 ∷ negsuc 0 ∷ pos 0 ∷ negsuc 4 ∷ pos 0 ∷ pos 0 ∷ pos 0 ∷ negsuc 1 ∷ pos 0 ∷ pos 0 ∷ pos 4 ∷ pos 2 ∷ pos 0 ∷ pos 0 ∷ negsuc 4 ∷ negsuc 0 ∷ pos 0 ∷ negsuc 0 ∷ pos 3 ∷ pos 0 ∷ pos 0 ∷ pos 1 ∷ pos 0 ∷ pos 0 ∷ pos 2 ∷ pos 2 ∷ pos 0 ∷ pos 0 ∷ pos 0 ∷ pos 0 ∷ pos 4 ∷ pos 0 ∷ pos 0 ∷ pos 0 ∷ pos 0 ∷ pos 0 ∷ pos 0 ∷ pos 0 ∷ pos 0 ∷ pos 0 ∷ pos 0 ∷ pos 0 ∷ pos 0 ∷ pos 0 ∷ negsuc 5 ∷ negsuc 2 ∷ pos 0 ∷ pos 0 ∷ pos 0 ∷ pos 0 ∷ pos 0 ∷ pos 0 ∷ pos 3 ∷ pos 0 ∷ pos 0 ∷ pos 0 ∷ pos 0 ∷ pos 4 ∷ pos 1 ∷ pos 0 ∷ pos 0 ∷ pos 0 ∷ negsuc 2 ∷ pos 0 ∷ pos 0 ∷ negsuc 5 ∷ pos 6 ∷ pos 0 ∷ pos 0 ∷ negsuc 3 ∷ negsuc 1 ∷ pos 0 ∷ pos 0 ∷ pos 0 ∷ pos 0 ∷ pos 0 ∷ pos 0 ∷ pos 0 ∷ pos 8 ∷ pos 0 ∷ pos 0 ∷ pos 2 ∷ pos 0 ∷ pos 0 ∷ pos 2 ∷ pos 0 ∷ pos 0 ∷ pos 2 ∷ negsuc 0 ∷ pos 0 ∷ pos 0 ∷ pos 0 ∷ pos 0 ∷ negsuc 2 ∷ pos 0 ∷ pos 5 ∷ pos 0 ∷ pos 0 ∷ pos 0 ∷ pos 0 ∷ pos 0 ∷ pos 31 ∷ negsuc 6 ∷ pos 0 ∷ pos 0 ∷ pos 0 ∷ pos 0 ∷ pos 0 ∷ pos 3 ∷ negsuc 6 ∷ pos 0 ∷ pos 0 ∷ pos 0 ∷ pos 0 ∷ pos 0 ∷ pos 0 ∷ pos 0 ∷ pos 0 ∷ pos 0 ∷ pos 0 ∷ pos 0 ∷ pos 0 ∷ pos 0 ∷ pos 0 ∷ pos 0 ∷ pos 0 ∷ pos 0 ∷ pos 0 ∷ pos 0 ∷ pos 0 ∷ pos 0 ∷ pos 0 ∷ pos 0 ∷ pos 0 ∷ pos 0 ∷ pos 0 ∷ pos 0 ∷ pos 0 ∷ pos 0 ∷ pos 0 ∷ pos 0 ∷ pos 0 ∷ pos 0 ∷ pos 0 ∷ negsuc 0 ∷ pos 0 ∷ pos 0 ∷ pos 0 ∷ pos 0 ∷ pos 2 ∷ pos 0 ∷ pos 0 ∷ pos 0 ∷ pos 0 ∷ pos 0 ∷ pos 0 ∷ negsuc 2 ∷ negsuc 1 ∷ pos 0 ∷ negsuc 0 ∷ pos 0 ∷ pos 0 ∷ pos 0 ∷ pos 0 ∷ pos 0 ∷ pos 0 ∷ pos 0 ∷ negsuc 0 ∷ pos 0 ∷ pos 0 ∷ pos 0 ∷ pos 6 ∷ pos 2 ∷ pos 0 ∷ pos 0 ∷ pos 0 ∷ pos 0 ∷ pos 0 ∷ pos 0 ∷ pos 0 ∷ pos 0 ∷ pos 0 ∷ pos 0 ∷ pos 0 ∷ pos 0 ∷ negsuc 1 ∷ pos 0 ∷ pos 0 ∷ pos 0 ∷ pos 0 ∷ negsuc 2 ∷ pos 0 ∷ pos 0 ∷ negsuc 3 ∷ pos 0 ∷ pos 4 ∷ pos 2 ∷ negsuc 6 ∷ pos 0 ∷ pos 0 ∷ pos 0 ∷ negsuc 6 ∷ pos 0 ∷ pos 0 ∷ pos 0 ∷ pos 0 ∷ negsuc 11 ∷ negsuc 0 ∷ pos 0 ∷ pos 0 ∷ pos 0 ∷ pos 2 ∷ pos 1 ∷ pos 3 ∷ negsuc 1 ∷ pos 0 ∷ pos 0 ∷ pos 0 ∷ pos 0 ∷ pos 5 ∷ pos 0 ∷ pos 0 ∷ pos 0 ∷ pos 0 ∷ pos 0 ∷ pos 0 ∷ pos 0 ∷ negsuc 5 ∷ pos 0 ∷ pos 0 ∷ negsuc 18 ∷ pos 0 ∷ pos 0 ∷ pos 0 ∷ pos 0 ∷ pos 1 ∷ negsuc 3 ∷ pos 5 ∷ pos 2 ∷ negsuc 0 ∷ pos 0 ∷ pos 0 ∷ pos 0 ∷ pos 0 ∷ pos 0 ∷ pos 0 ∷ pos 0 ∷ pos 0 ∷ negsuc 13 ∷ pos 0 ∷ []

abbrev items_10 : List Item
items_10 = c 1 23 ∷ c 1 23 ∷ c 1 24 ∷ c 1 24 ∷ c 1 25 ∷ c 1 25 ∷ c 1 26 ∷ c 1 26 ∷ c 1 27 ∷ c 1 41 ∷ c 1 41 ∷ c 1 42 ∷ c 1 42 ∷ c 1 43 ∷ c 1 43 ∷ c 1 44 ∷ c 1 44 ∷ c 1 45 ∷ b 1 ∷ b 1 ∷ b 0 ∷ b 1 ∷ b 1 ∷ b 1 ∷ c 0 77 ∷ c 0 77 ∷ c 0 77 ∷ c 0 77 ∷ c 0 77 ∷ c 1 78 ∷ c 1 77 ∷ c 0 77 ∷ c 0 78 ∷ c 0 78 ∷ c 0 77 ∷ c 0 78 ∷ c 0 78 ∷ c 0 79 ∷ c 1 104 ∷ c 1 103 ∷ c 1 103 ∷ c 1 121 ∷ b 1 ∷ b 1 ∷ b 1 ∷ b 1 ∷ b 1 ∷ b 1 ∷ b 1 ∷ b 1 ∷ b 1 ∷ b 0 ∷ b 0 ∷ b 0 ∷ b 1 ∷ b 0 ∷ b 0 ∷ b 0 ∷ b 0 ∷ c 1 50 ∷ c 0 77 ∷ c 0 77 ∷ c 0 77 ∷ c 0 77 ∷ c 1 77 ∷ c 1 77 ∷ c 1 77 ∷ c 0 77 ∷ c 0 78 ∷ c 0 78 ∷ c 0 78 ∷ c 0 78 ∷ c 1 79 ∷ c 0 79 ∷ c 0 79 ∷ c 0 79 ∷ c 1 108 ∷ c 0 107 ∷ c 1 107 ∷ c 1 107 ∷ c 1 122 ∷ b 0 ∷ b 0 ∷ b 0 ∷ b 0 ∷ b 0 ∷ b 0 ∷ b 0 ∷ c 1 50 ∷ c 0 77 ∷ c 0 77 ∷ c 1 77 ∷ c 1 77 ∷ c 0 77 ∷ c 0 77 ∷ c 1 77 ∷ c 1 77 ∷ c 0 78 ∷ c 0 78 ∷ c 0 78 ∷ c 0 78 ∷ c 0 79 ∷ c 1 79 ∷ c 0 79 ∷ c 0 79 ∷ c 0 108 ∷ c 1 109 ∷ c 0 107 ∷ c 1 107 ∷ c 0 107 ∷ c 0 122 ∷ b 1 ∷ b 0 ∷ b 1 ∷ b 1 ∷ b 1 ∷ b 1 ∷ b 1 ∷ b 1 ∷ b 1 ∷ b 1 ∷ b 1 ∷ b 0 ∷ b 0 ∷ b 0 ∷ b 0 ∷ c 1 50 ∷ c 1 77 ∷ c 1 77 ∷ c 1 77 ∷ c 0 77 ∷ c 0 77 ∷ c 0 77 ∷ c 0 77 ∷ c 0 77 ∷ c 0 78 ∷ c 1 78 ∷ c 1 78 ∷ c 0 78 ∷ c 0 79 ∷ c 0 79 ∷ c 0 79 ∷ c 0 79 ∷ c 1 108 ∷ c 1 107 ∷ c 0 107 ∷ c 1 107 ∷ c 1 107 ∷ c 1 122 ∷ b 0 ∷ b 1 ∷ b 0 ∷ b 0 ∷ b 0 ∷ b 1 ∷ b 1 ∷ b 0 ∷ b 1 ∷ b 0 ∷ b 0 ∷ b 0 ∷ b 0 ∷ b 1 ∷ b 1 ∷ b 0 ∷ b 0 ∷ c 1 50 ∷ c 0 77 ∷ c 0 77 ∷ c 0 77 ∷ c 1 77 ∷ c 1 77 ∷ c 0 77 ∷ c 0 77 ∷ c 0 77 ∷ c 0 78 ∷ c 0 78 ∷ c 1 78 ∷ c 0 78 ∷ c 0 79 ∷ c 0 79 ∷ c 0 79 ∷ c 0 79 ∷ c 1 108 ∷ c 1 107 ∷ c 0 107 ∷ c 1 122 ∷ b 1 ∷ b 1 ∷ b 1 ∷ b 1 ∷ b 1 ∷ b 1 ∷ b 1 ∷ b 1 ∷ b 1 ∷ b 0 ∷ b 1 ∷ b 1 ∷ b 0 ∷ b 1 ∷ b 1 ∷ b 0 ∷ b 1 ∷ c 1 50 ∷ c 0 77 ∷ c 0 77 ∷ c 1 77 ∷ c 0 77 ∷ c 1 77 ∷ c 1 77 ∷ c 1 77 ∷ c 0 77 ∷ c 0 78 ∷ c 0 78 ∷ c 0 78 ∷ c 0 78 ∷ c 0 79 ∷ c 0 79 ∷ c 0 79 ∷ c 0 79 ∷ c 1 108 ∷ c 1 107 ∷ c 1 107 ∷ c 1 107 ∷ c 1 122 ∷ b 1 ∷ b 1 ∷ b 0 ∷ b 0 ∷ b 1 ∷ b 1 ∷ b 1 ∷ b 0 ∷ b 1 ∷ b 1 ∷ b 0 ∷ b 1 ∷ b 0 ∷ b 0 ∷ b 0 ∷ b 0 ∷ b 1 ∷ b 0 ∷ c 1 50 ∷ c 0 77 ∷ c 0 77 ∷ c 0 77 ∷ c 0 77 ∷ c 1 77 ∷ c 0 77 ∷ c 0 77 ∷ c 1 77 ∷ c 0 78 ∷ c 0 78 ∷ c 1 78 ∷ c 0 78 ∷ c 0 79 ∷ c 0 79 ∷ c 0 79 ∷ c 0 79 ∷ c 1 108 ∷ c 1 107 ∷ c 0 107 ∷ c 1 122 ∷ b 1 ∷ b 1 ∷ b 1 ∷ b 1 ∷ b 0 ∷ b 0 ∷ b 1 ∷ c 1 50 ∷ c 0 77 ∷ c 0 77 ∷ c 1 77 ∷ c 0 77 ∷ c 0 77 ∷ c 0 77 ∷ c 0 77 ∷ c 0 77 ∷ c 1 78 ∷ c 1 78 ∷ c 0 78 ∷ c 0 78 ∷ c 0 79 ∷ c 0 79 ∷ c 0 79 ∷ c 0 79 ∷ c 1 108 ∷ c 1 107 ∷ c 1 107 ∷ c 1 122 ∷ b 0 ∷ b 1 ∷ b 1 ∷ b 1 ∷ b 1 ∷ b 0 ∷ b 0 ∷ b 0 ∷ b 0 ∷ b 1 ∷ c 1 50 ∷ c 0 77 ∷ c 0 77 ∷ c 0 78 ∷ c 0 79 ∷ c 0 77 ∷ c 1 77 ∷ c 1 78 ∷ c 0 79 ∷ c 1 77 ∷ c 0 77 ∷ c 0 78 ∷ c 0 79 ∷ c 1 77 ∷ c 1 77 ∷ c 0 78 ∷ c 0 79 ∷ c 0 108 ∷ c 1 109 ∷ c 1 107 ∷ c 1 107 ∷ c 1 107 ∷ c 0 122 ∷ b 1 ∷ b 0 ∷ b 0 ∷ b 0 ∷ b 0 ∷ b 1 ∷ b 1 ∷ b 0 ∷ b 0 ∷ b 0 ∷ b 0 ∷ b 0 ∷ c 1 50 ∷ c 0 79 ∷ c 0 79 ∷ c 0 79 ∷ c 0 79 ∷ c 0 79 ∷ c 1 79 ∷ c 0 79 ∷ c 0 79 ∷ c 0 79 ∷ c 1 79 ∷ c 0 79 ∷ c 0 79 ∷ c 1 79 ∷ c 0 79 ∷ c 0 79 ∷ c 1 79 ∷ c 1 108 ∷ c 1 107 ∷ c 0 107 ∷ c 1 107 ∷ c 0 122 ∷ b 0 ∷ b 0 ∷ b 0 ∷ b 0 ∷ b 1 ∷ b 0 ∷ b 1 ∷ b 0 ∷ c 1 50 ∷ c 0 79 ∷ c 0 79 ∷ c 0 79 ∷ c 0 79 ∷ c 1 79 ∷ c 0 79 ∷ c 0 79 ∷ c 1 79 ∷ c 0 79 ∷ c 0 79 ∷ c 0 79 ∷ c 0 79 ∷ c 1 79 ∷ c 0 79 ∷ c 1 79 ∷ c 1 79 ∷ c 1 108 ∷ c 1 107 ∷ c 0 107 ∷ c 0 107 ∷ c 1 107 ∷ c 0 122 ∷ b 0 ∷ b 0 ∷ b 1 ∷ b 1 ∷ b 1 ∷ b 1 ∷ b 1 ∷ b 1 ∷ b 1 ∷ b 1 ∷ b 0 ∷ b 0 ∷ b 0 ∷ b 1 ∷ b 0 ∷ b 1 ∷ c 1 50 ∷ c 1 79 ∷ c 1 79 ∷ c 0 79 ∷ c 0 79 ∷ c 0 79 ∷ c 0 79 ∷ c 0 79 ∷ c 0 79 ∷ c 1 79 ∷ c 1 79 ∷ c 0 79 ∷ c 0 79 ∷ c 0 79 ∷ c 0 79 ∷ c 1 79 ∷ c 1 79 ∷ c 1 108 ∷ c 1 107 ∷ c 1 107 ∷ c 1 107 ∷ c 1 107 ∷ c 1 107 ∷ c 1 122 ∷ b 1 ∷ b 0 ∷ b 1 ∷ b 1 ∷ b 0 ∷ b 0 ∷ b 1 ∷ b 1 ∷ b 1 ∷ b 1 ∷ b 0 ∷ b 0 ∷ b 0 ∷ b 1 ∷ b 0 ∷ b 1 ∷ b 1 ∷ b 1 ∷ b 0 ∷ b 0 ∷ b 0 ∷ b 0 ∷ b 1 ∷ b 0 ∷ b 0 ∷ c 1 50 ∷ c 0 79 ∷ c 0 79 ∷ c 0 79 ∷ c 1 79 ∷ c 0 79 ∷ c 0 79 ∷ c 0 79 ∷ c 1 79 ∷ c 0 79 ∷ c 0 79 ∷ c 0 79 ∷ c 0 79 ∷ c 0 79 ∷ c 0 79 ∷ c 1 79 ∷ c 0 79 ∷ c 1 108 ∷ c 1 107 ∷ c 1 107 ∷ c 1 122 ∷ b 1 ∷ b 1 ∷ b 1 ∷ b 1 ∷ b 1 ∷ b 1 ∷ b 1 ∷ b 0 ∷ b 0 ∷ b 0 ∷ b 0 ∷ b 0 ∷ b 0 ∷ c 1 50 ∷ c 1 79 ∷ c 0 79 ∷ c 0 79 ∷ c 0 79 ∷ c 1 79 ∷ c 0 79 ∷ c 0 79 ∷ c 1 79 ∷ c 0 79 ∷ c 0 79 ∷ c 0 79 ∷ c 0 79 ∷ c 0 79 ∷ c 0 79 ∷ c 1 79 ∷ c 0 79 ∷ c 1 108 ∷ c 1 107 ∷ c 1 107 ∷ c 1 107 ∷ c 1 122 ∷ b 0 ∷ b 1 ∷ b 0 ∷ b 1 ∷ b 1 ∷ b 1 ∷ b 1 ∷ b 1 ∷ b 1 ∷ b 1 ∷ b 1 ∷ b 0 ∷ b 1 ∷ b 0 ∷ b 1 ∷ b 0 ∷ b 1 ∷ b 0 ∷ b 0 ∷ b 1 ∷ b 1 ∷ b 0 ∷ b 0 ∷ b 1 ∷ b 0 ∷ b 1 ∷ c 1 50 ∷ c 0 79 ∷ c 0 79 ∷ c 1 79 ∷ c 0 79 ∷ c 1 79 ∷ c 0 79 ∷ c 0 79 ∷ c 1 79 ∷ c 0 79 ∷ c 0 79 ∷ c 0 79 ∷ c 1 79 ∷ c 1 79 ∷ c 0 79 ∷ c 0 79 ∷ c 0 79 ∷ c 1 108 ∷ c 1 107 ∷ c 1 107 ∷ c 1 107 ∷ c 0 107 ∷ c 1 122 ∷ b 0 ∷ b 1 ∷ b 1 ∷ b 0 ∷ b 1 ∷ b 1 ∷ b 1 ∷ b 0 ∷ b 1 ∷ b 1 ∷ b 0 ∷ b 0 ∷ b 0 ∷ b 1 ∷ b 1 ∷ b 0 ∷ b 0 ∷ c 1 50 ∷ c 1 79 ∷ c 0 79 ∷ c 0 79 ∷ c 0 79 ∷ c 0 79 ∷ c 0 79 ∷ c 0 79 ∷ c 1 79 ∷ c 0 79 ∷ c 0 79 ∷ c 0 79 ∷ c 0 79 ∷ c 0 79 ∷ c 0 79 ∷ c 0 79 ∷ c 1 79 ∷ c 1 108 ∷ c 0 107 ∷ c 1 107 ∷ c 1 122 ∷ b 1 ∷ b 0 ∷ b 1 ∷ b 0 ∷ b 1 ∷ b 1 ∷ b 1 ∷ b 0 ∷ c 1 50 ∷ c 0 77 ∷ c 0 77 ∷ c 0 78 ∷ c 0 79 ∷ c 0 77 ∷ c 0 77 ∷ c 0 78 ∷ c 0 79 ∷ c 0 77 ∷ c 0 77 ∷ c 0 78 ∷ c 0 79 ∷ c 0 77 ∷ c 0 77 ∷ c 1 78 ∷ c 0 79 ∷ c 1 108 ∷ c 1 122 ∷ b 1 ∷ b 1 ∷ b 0 ∷ c 1 50 ∷ c 0 79 ∷ c 0 79 ∷ c 0 79 ∷ c 0 79 ∷ c 0 79 ∷ c 0 79 ∷ c 0 79 ∷ c 0 79 ∷ c 0 79 ∷ c 1 79 ∷ c 0 79 ∷ c 0 79 ∷ c 0 79 ∷ c 1 79 ∷ c 0 79 ∷ c 0 79 ∷ c 1 108 ∷ c 1 107 ∷ c 0 122 ∷ b 1 ∷ b 1 ∷ b 0 ∷ c 1 50 ∷ c 0 79 ∷ c 0 79 ∷ c 1 79 ∷ c 1 79 ∷ c 0 79 ∷ c 0 79 ∷ c 0 79 ∷ c 0 79 ∷ c 0 79 ∷ c 1 79 ∷ c 0 79 ∷ c 0 79 ∷ c 0 79 ∷ c 0 79 ∷ c 0 79 ∷ c 0 79 ∷ c 0 108 ∷ c 0 109 ∷ c 1 110 ∷ c 1 122 ∷ b 1 ∷ b 1 ∷ b 1 ∷ b 0 ∷ c 1 50 ∷ c 0 79 ∷ c 0 79 ∷ c 0 79 ∷ c 0 79 ∷ c 0 79 ∷ c 0 79 ∷ c 1 79 ∷ c 0 79 ∷ c 0 79 ∷ c 0 79 ∷ c 0 79 ∷ c 0 79 ∷ c 0 79 ∷ c 0 79 ∷ c 0 79 ∷ c 0 79 ∷ c 0 108 ∷ b 1 ∷ c 1 50 ∷ c 0 79 ∷ c 0 79 ∷ c 0 79 ∷ c 0 79 ∷ c 0 79 ∷ c 0 79 ∷ c 0 79 ∷ c 0 79 ∷ c 0 79 ∷ c 0 79 ∷ c 0 79 ∷ c 1 79 ∷ c 0 79 ∷ c 0 79 ∷ c 0 79 ∷ c 0 79 ∷ c 1 104 ∷ c 1 121 ∷ b 0 ∷ b 1 ∷ b 0 ∷ c 1 50 ∷ c 0 79 ∷ c 0 79 ∷ c 0 79 ∷ c 0 79 ∷ c 0 79 ∷ c 0 79 ∷ c 0 79 ∷ c 0 79 ∷ c 0 79 ∷ c 0 79 ∷ c 0 79 ∷ c 1 79 ∷ c 0 79 ∷ c 0 79 ∷ c 0 79 ∷ c 0 79 ∷ c 1 108 ∷ c 1 122 ∷ b 1 ∷ b 1 ∷ b 1 ∷ b 1 ∷ b 1 ∷ b 0 ∷ b 1 ∷ c 1 50 ∷ c 0 79 ∷ c 0 79 ∷ c 1 79 ∷ c 0 79 ∷ c 1 79 ∷ c 1 79 ∷ c 0 79 ∷ c 0 79 ∷ c 0 79 ∷ c 0 79 ∷ c 0 79 ∷ c 0 79 ∷ c 0 79 ∷ c 0 79 ∷ c 0 79 ∷ c 1 79 ∷ c 1 108 ∷ c 0 107 ∷ c 1 107 ∷ c 1 107 ∷ c 1 122 ∷ b 1 ∷ b 0 ∷ b 1 ∷ b 0 ∷ b 1 ∷ b 1 ∷ b 0 ∷ b 0 ∷ b 0 ∷ b 1 ∷ b 1 ∷ b 0 ∷ b 0 ∷ c 1 50 ∷ c 0 79 ∷ c 0 79 ∷ c 0 79 ∷ c 0 79 ∷ c 0 79 ∷ c 1 79 ∷ c 0 79 ∷ c 0 79 ∷ c 0 79 ∷ c 1 79 ∷ c 0 79 ∷ c 0 79 ∷ c 0 79 ∷ c 1 79 ∷ c 0 79 ∷ c 0 79 ∷ c 1 108 ∷ c 1 107 ∷ c 1 107 ∷ c 1 122 ∷ b 1 ∷ b 1 ∷ b 0 ∷ b 1 ∷ b 1 ∷ b 1 ∷ b 1 ∷ b 0 ∷ b 0 ∷ b 1 ∷ b 1 ∷ b 1 ∷ b 0 ∷ b 0 ∷ b 1 ∷ b 0 ∷ b 1 ∷ b 0 ∷ c 1 50 ∷ c 0 77 ∷ c 0 77 ∷ c 0 78 ∷ c 0 79 ∷ c 0 77 ∷ c 0 77 ∷ c 0 78 ∷ c 0 79 ∷ c 1 77 ∷ c 0 77 ∷ c 1 78 ∷ c 0 79 ∷ c 0 77 ∷ c 1 77 ∷ c 0 78 ∷ c 0 79 ∷ c 1 108 ∷ c 1 107 ∷ c 1 107 ∷ c 0 122 ∷ b 0 ∷ b 1 ∷ b 1 ∷ b 1 ∷ b 1 ∷ b 0 ∷ b 0 ∷ b 0 ∷ c 1 50 ∷ c 1 79 ∷ c 0 79 ∷ c 0 79 ∷ c 0 79 ∷ c 0 79 ∷ c 0 79 ∷ c 0 79 ∷ c 0 79 ∷ c 0 79 ∷ c 0 79 ∷ c 0 79 ∷ c 0 79 ∷ c 0 79 ∷ c 0 79 ∷ c 0 79 ∷ c 0 79 ∷ c 0 108 ∷ b 0 ∷ c 1 50 ∷ c 1 79 ∷ c 0 79 ∷ c 1 79 ∷ c 0 79 ∷ c 1 79 ∷ c 0 79 ∷ c 0 79 ∷ c 0 79 ∷ c 0 79 ∷ c 1 79 ∷ c 0 79 ∷ c 1 79 ∷ c 1 79 ∷ c 0 79 ∷ c 0 79 ∷ c 0 79 ∷ c 0 104 ∷ c 1 105 ∷ c 0 103 ∷ c 1 103 ∷ c 1 103 ∷ c 1 103 ∷ c 1 121 ∷ b 0 ∷ b 0 ∷ b 0 ∷ b 0 ∷ b 1 ∷ b 0 ∷ b 0 ∷ b 0 ∷ b 0 ∷ b 1 ∷ b 0 ∷ c 1 50 ∷ c 0 79 ∷ c 0 79 ∷ c 0 79 ∷ c 0 79 ∷ c 0 79 ∷ c 0 79 ∷ c 0 79 ∷ c 0 79 ∷ c 1 79 ∷ c 0 79 ∷ c 0 79 ∷ c 1 79 ∷ c 0 79 ∷ c 0 79 ∷ c 1 79 ∷ c 1 79 ∷ c 1 108 ∷ c 1 107 ∷ c 1 107 ∷ c 1 107 ∷ c 1 122 ∷ b 0 ∷ b 1 ∷ b 0 ∷ b 1 ∷ b 1 ∷ b 1 ∷ b 0 ∷ b 0 ∷ b 1 ∷ b 1 ∷ b 0 ∷ b 1 ∷ b 1 ∷ b 0 ∷ b 0 ∷ c 1 50 ∷ c 1 79 ∷ c 1 79 ∷ c 0 79 ∷ c 1 79 ∷ c 1 79 ∷ c 0 79 ∷ c 0 79 ∷ c 0 79 ∷ c 0 79 ∷ c 0 79 ∷ c 0 79 ∷ c 0 79 ∷ c 1 79 ∷ c 0 79 ∷ c 0 79 ∷ c 0 79 ∷ c 1 108 ∷ c 1 107 ∷ c 1 107 ∷ c 0 107 ∷ c 1 107 ∷ c 1 122 ∷ b 0 ∷ b 0 ∷ b 1 ∷ b 1 ∷ b 0 ∷ b 1 ∷ b 0 ∷ b 1 ∷ b 0 ∷ b 0 ∷ b 1 ∷ b 1 ∷ b 1 ∷ b 1 ∷ b 0 ∷ b 1 ∷ b 0 ∷ b 0 ∷ b 1 ∷ b 0 ∷ c 1 50 ∷ c 0 79 ∷ c 0 79 ∷ c 0 79 ∷ c 0 79 ∷ c 0 79 ∷ c 0 79 ∷ c 0 79 ∷ c 0 79 ∷ c 0 79 ∷ c 0 79 ∷ c 0 79 ∷ c 0 79 ∷ c 0 79 ∷ c 0 79 ∷ c 1 79 ∷ c 0 79 ∷ c 0 108 ∷ b 1 ∷ c 1 50 ∷ c 0 79 ∷ c 0 79 ∷ c 0 79 ∷ c 0 79 ∷ c 0 79 ∷ c 0 79 ∷ c 0 79 ∷ c 0 79 ∷ c 0 79 ∷ c 0 79 ∷ c 1 79 ∷ c 0 79 ∷ c 0 79 ∷ c 0 79 ∷ c 0 79 ∷ c 0 79 ∷ c 1 104 ∷ c 1 121 ∷ b 1 ∷ b 1 ∷ b 0 ∷ c 1 50 ∷ c 0 79 ∷ c 0 79 ∷ c 0 79 ∷ c 1 79 ∷ c 0 79 ∷ c 1 79 ∷ c 0 79 ∷ c 1 79 ∷ c 0 79 ∷ c 0 79 ∷ c 0 79 ∷ c 0 79 ∷ c 0 79 ∷ c 0 79 ∷ c 0 79 ∷ c 1 79 ∷ c 1 108 ∷ c 1 107 ∷ c 1 107 ∷ c 1 107 ∷ c 1 122 ∷ b 1 ∷ b 0 ∷ b 0 ∷ b 0 ∷ b 0 ∷ b 1 ∷ b 1 ∷ b 1 ∷ b 1 ∷ b 1 ∷ b 0 ∷ b 1 ∷ b 1 ∷ b 0 ∷ b 0 ∷ b 1 ∷ b 0 ∷ b 0 ∷ c 1 50 ∷ c 0 77 ∷ c 0 77 ∷ c 1 78 ∷ c 0 79 ∷ c 0 77 ∷ c 0 77 ∷ c 0 78 ∷ c 1 79 ∷ c 0 77 ∷ c 1 77 ∷ c 0 78 ∷ c 0 79 ∷ c 0 77 ∷ c 0 77 ∷ c 1 78 ∷ c 0 79 ∷ c 1 108 ∷ c 0 107 ∷ c 0 107 ∷ c 1 107 ∷ c 1 122 ∷ b 0 ∷ b 0 ∷ b 1 ∷ b 1 ∷ b 1 ∷ b 1 ∷ b 0 ∷ b 1 ∷ b 1 ∷ b 0 ∷ b 1 ∷ c 1 50 ∷ c 0 79 ∷ c 0 79 ∷ c 0 79 ∷ c 0 79 ∷ c 0 79 ∷ c 0 79 ∷ c 0 79 ∷ c 0 79 ∷ c 1 79 ∷ c 0 79 ∷ c 0 79 ∷ c 0 79 ∷ c 0 79 ∷ c 0 79 ∷ c 0 79 ∷ c 0 79 ∷ c 0 108 ∷ b 0 ∷ c 1 50 ∷ c 1 79 ∷ c 0 79 ∷ c 1 79 ∷ c 0 79 ∷ c 1 79 ∷ c 0 79 ∷ c 1 79 ∷ c 0 79 ∷ c 1 79 ∷ c 1 79 ∷ c 0 79 ∷ c 0 79 ∷ c 0 79 ∷ c 0 79 ∷ c 0 79 ∷ c 0 79 ∷ c 0 104 ∷ c 1 105 ∷ c 1 103 ∷ c 1 103 ∷ c 0 103 ∷ c 0 103 ∷ c 1 121 ∷ b 0 ∷ b 1 ∷ b 0 ∷ b 0 ∷ b 1 ∷ b 0 ∷ b 1 ∷ b 1 ∷ b 1 ∷ b 1 ∷ b 1 ∷ b 1 ∷ b 0 ∷ b 0 ∷ b 1 ∷ b 1 ∷ b 1 ∷ b 1 ∷ b 1 ∷ b 0 ∷ b 0 ∷ b 1 ∷ b 0 ∷ b 0 ∷ b 1 ∷ c 1 50 ∷ c 0 79 ∷ c 0 79 ∷ c 0 79 ∷ c 0 79 ∷ c 0 79 ∷ c 0 79 ∷ c 0 79 ∷ c 0 79 ∷ c 0 79 ∷ c 1 79 ∷ c 0 79 ∷ c 0 79 ∷ c 0 79 ∷ c 0 79 ∷ c 0 79 ∷ c 0 79 ∷ c 1 108 ∷ c 1 122 ∷ b 1 ∷ b 1 ∷ b 1 ∷ b 1 ∷ b 0 ∷ c 1 50 ∷ c 1 79 ∷ c 0 79 ∷ c 0 79 ∷ c 1 79 ∷ c 0 79 ∷ c 1 79 ∷ c 0 79 ∷ c 0 79 ∷ c 1 79 ∷ c 0 79 ∷ c 0 79 ∷ c 1 79 ∷ c 0 79 ∷ c 1 79 ∷ c 0 79 ∷ c 0 79 ∷ c 0 108 ∷ c 1 109 ∷ c 1 107 ∷ c 1 107 ∷ c 1 107 ∷ c 1 107 ∷ c 1 122 ∷ b 1 ∷ b 1 ∷ b 1 ∷ b 1 ∷ b 1 ∷ b 0 ∷ b 0 ∷ b 1 ∷ b 0 ∷ b 1 ∷ b 0 ∷ b 1 ∷ b 1 ∷ b 1 ∷ b 0 ∷ b 1 ∷ b 0 ∷ b 0 ∷ c 1 50 ∷ c 0 79 ∷ c 0 79 ∷ c 0 79 ∷ c 0 79 ∷ c 0 79 ∷ c 1 79 ∷ c 0 79 ∷ c 1 79 ∷ c 0 79 ∷ c 1 79 ∷ c 0 79 ∷ c 0 79 ∷ c 0 79 ∷ c 1 79 ∷ c 0 79 ∷ c 0 79 ∷ c 1 108 ∷ c 1 107 ∷ c 1 107 ∷ c 0 107 ∷ c 1 122 ∷ b 0 ∷ b 0 ∷ b 1 ∷ b 1 ∷ b 1 ∷ b 0 ∷ b 0 ∷ b 0 ∷ b 0 ∷ b 1 ∷ c 1 50 ∷ c 0 79 ∷ c 0 79 ∷ c 1 79 ∷ c 0 79 ∷ c 0 79 ∷ c 0 79 ∷ c 0 79 ∷ c 0 79 ∷ c 1 79 ∷ c 0 79 ∷ c 0 79 ∷ c 0 79 ∷ c 0 79 ∷ c 0 79 ∷ c 0 79 ∷ c 0 79 ∷ c 0 108 ∷ c 1 109 ∷ c 0 122 ∷ b 1 ∷ b 1 ∷ c 1 50 ∷ c 1 79 ∷ c 0 79 ∷ c 0 79 ∷ c 1 79 ∷ c 0 79 ∷ c 1 79 ∷ c 0 79 ∷ c 0 79 ∷ c 0 79 ∷ c 1 79 ∷ c 1 79 ∷ c 0 79 ∷ c 0 79 ∷ c 1 79 ∷ c 0 79 ∷ c 1 79 ∷ c 0 108 ∷ c 1 109 ∷ c 1 107 ∷ c 1 107 ∷ c 0 107 ∷ c 1 107 ∷ c 1 107 ∷ c 1 122 ∷ b 0 ∷ b 0 ∷ b 0 ∷ b 1 ∷ b 0 ∷ b 0 ∷ b 0 ∷ b 0 ∷ b 1 ∷ b 1 ∷ b 1 ∷ b 0 ∷ b 0 ∷ b 0 ∷ b 1 ∷ b 1 ∷ b 0 ∷ b 1 ∷ b 0 ∷ b 0 ∷ b 0 ∷ c 1 50 ∷ c 0 77 ∷ c 0 77 ∷ c 0 78 ∷ c 0 79 ∷ c 0 77 ∷ c 1 77 ∷ c 0 78 ∷ c 0 79 ∷ c 1 77 ∷ c 0 77 ∷ c 0 78 ∷ c 1 79 ∷ c 0 77 ∷ c 0 77 ∷ c 0 78 ∷ c 1 79 ∷ c 1 108 ∷ c 1 107 ∷ c 1 107 ∷ c 0 107 ∷ c 1 122 ∷ b 1 ∷ b 0 ∷ b 0 ∷ b 1 ∷ b 0 ∷ b 0 ∷ b 1 ∷ b 0 ∷ c 1 50 ∷ c 1 79 ∷ c 0 79 ∷ c 0 79 ∷ c 0 79 ∷ c 0 79 ∷ c 0 79 ∷ c 0 79 ∷ c 0 79 ∷ c 0 79 ∷ c 1 79 ∷ c 0 79 ∷ c 1 79 ∷ c 0 79 ∷ c 0 79 ∷ c 0 79 ∷ c 0 79 ∷ c 1 108 ∷ c 1 107 ∷ c 0 107 ∷ c 1 122 ∷ b 0 ∷ b 1 ∷ b 0 ∷ b 0 ∷ b 0 ∷ c 1 50 ∷ c 1 79 ∷ c 0 79 ∷ c 1 79 ∷ c 0 79 ∷ c 0 79 ∷ c 0 79 ∷ c 0 79 ∷ c 0 79 ∷ c 0 79 ∷ c 1 79 ∷ c 0 79 ∷ c 0 79 ∷ c 0 79 ∷ c 0 79 ∷ c 1 79 ∷ c 1 79 ∷ c 1 108 ∷ c 0 107 ∷ c 0 107 ∷ c 1 107 ∷ c 1 107 ∷ c 1 122 ∷ b 0 ∷ b 0 ∷ b 1 ∷ b 0 ∷ b 1 ∷ b 1 ∷ b 0 ∷ b 1 ∷ b 0 ∷ b 0 ∷ b 0 ∷ b 0 ∷ c 1 50 ∷ c 0 79 ∷ c 0 79 ∷ c 1 79 ∷ c 0 79 ∷ c 0 79 ∷ c 0 79 ∷ c 0 79 ∷ c 0 79 ∷ c 0 79 ∷ c 0 79 ∷ c 0 79 ∷ c 0 79 ∷ c 0 79 ∷ c 0 79 ∷ c 0 79 ∷ c 1 79 ∷ c 1 108 ∷ c 1 107 ∷ c 1 122 ∷ b 0 ∷ b 0 ∷ b 1 ∷ b 1 ∷ b 1 ∷ b 1 ∷ b 1 ∷ b 0 ∷ b 0 ∷ b 1 ∷ b 1 ∷ b 1 ∷ b 0 ∷ b 1 ∷ c 1 50 ∷ c 1 79 ∷ c 0 79 ∷ c 0 79 ∷ c 0 79 ∷ c 1 79 ∷ c 0 79 ∷ c 0 79 ∷ c 0 79 ∷ c 0 79 ∷ c 0 79 ∷ c 1 79 ∷ c 0 79 ∷ c 1 79 ∷ c 0 79 ∷ c 0 79 ∷ c 0 79 ∷ c 1 108 ∷ c 1 107 ∷ c 0 107 ∷ c 1 107 ∷ c 1 122 ∷ b 0 ∷ b 1 ∷ b 0 ∷ b 1 ∷ b 1 ∷ b 1 ∷ b 1 ∷ b 0 ∷ b 0 ∷ b 0 ∷ b 0 ∷ b 1 ∷ c 1 50 ∷ c 0 79 ∷ c 1 79 ∷ c 0 79 ∷ c 0 79 ∷ c 0 79 ∷ c 0 79 ∷ c 0 79 ∷ c 0 79 ∷ c 1 79 ∷ c 0 79 ∷ c 0 79 ∷ c 0 79 ∷ c 1 79 ∷ c 0 79 ∷ c 0 79 ∷ c 0 79 ∷ c 1 108 ∷ c 1 107 ∷ c 1 107 ∷ c 0 122 ∷ b 1 ∷ b 0 ∷ b 1 ∷ b 1 ∷ b 1 ∷ b 1 ∷ b 1 ∷ b 0 ∷ b 0 ∷ b 0 ∷ b 0 ∷ c 1 50 ∷ c 1 79 ∷ c 1 79 ∷ c 0 79 ∷ c 0 79 ∷ c 0 79 ∷ c 0 79 ∷ c 0 79 ∷ c 0 79 ∷ c 0 79 ∷ c 0 79 ∷ c 0 79 ∷ c 0 79 ∷ c 0 79 ∷ c 0 79 ∷ c 1 79 ∷ c 0 79 ∷ c 1 108 ∷ c 1 107 ∷ c 0 107 ∷ c 1 122 ∷ b 1 ∷ b 1 ∷ b 1 ∷ b 0 ∷ b 1 ∷ b 1 ∷ b 0 ∷ c 1 50 ∷ c 0 79 ∷ c 0 79 ∷ c 1 79 ∷ c 1 79 ∷ c 0 79 ∷ c 0 79 ∷ c 0 79 ∷ c 0 79 ∷ c 0 79 ∷ c 0 79 ∷ c 0 79 ∷ c 1 79 ∷ c 0 79 ∷ c 0 79 ∷ c 0 79 ∷ c 0 79 ∷ c 1 108 ∷ c 0 107 ∷ c 1 107 ∷ c 0 122 ∷ b 1 ∷ b 0 ∷ b 0 ∷ b 1 ∷ b 0 ∷ c 1 50 ∷ c 1 77 ∷ c 0 77 ∷ c 0 78 ∷ c 0 79 ∷ c 0 77 ∷ c 0 77 ∷ c 0 78 ∷ c 0 79 ∷ c 0 77 ∷ c 0 77 ∷ c 0 78 ∷ c 0 79 ∷ c 0 77 ∷ c 0 77 ∷ c 0 78 ∷ c 0 79 ∷ c 1 108 ∷ c 1 122 ∷ b 0 ∷ b 0 ∷ c 1 50 ∷ c 1 79 ∷ c 0 79 ∷ c 0 79 ∷ c 1 79 ∷ c 0 79 ∷ c 0 79 ∷ c 0 79 ∷ c 0 79 ∷ c 0 79 ∷ c 0 79 ∷ c 0 79 ∷ c 0 79 ∷ c 1 79 ∷ c 0 79 ∷ c 0 79 ∷ c 0 79 ∷ c 0 108 ∷ c 0 109 ∷ c 1 110 ∷ c 1 122 ∷ b 1 ∷ b 0 ∷ b 1 ∷ b 0 ∷ c 1 50 ∷ c 0 79 ∷ c 0 79 ∷ c 0 79 ∷ c 0 79 ∷ c 0 79 ∷ c 0 79 ∷ c 0 79 ∷ c 0 79 ∷ c 1 79 ∷ c 1 79 ∷ c 0 79 ∷ c 0 79 ∷ c 0 79 ∷ c 0 79 ∷ c 1 79 ∷ c 1 79 ∷ c 1 108 ∷ c 1 107 ∷ c 1 107 ∷ c 1 107 ∷ c 1 122 ∷ b 1 ∷ b 1 ∷ b 1 ∷ b 0 ∷ b 0 ∷ b 0 ∷ b 1 ∷ b 1 ∷ b 1 ∷ b 1 ∷ b 1 ∷ b 1 ∷ b 0 ∷ b 0 ∷ b 1 ∷ b 0 ∷ b 1 ∷ b 1 ∷ b 1 ∷ b 1 ∷ b 0 ∷ b 0 ∷ b 1 ∷ c 1 50 ∷ c 0 79 ∷ c 0 79 ∷ c 0 79 ∷ c 0 79 ∷ c 0 79 ∷ c 0 79 ∷ c 0 79 ∷ c 0 79 ∷ c 0 79 ∷ c 0 79 ∷ c 0 79 ∷ c 0 79 ∷ c 1 79 ∷ c 0 79 ∷ c 0 79 ∷ c 0 79 ∷ c 1 108 ∷ c 0 122 ∷ b 1 ∷ c 1 50 ∷ c 0 79 ∷ c 0 79 ∷ c 0 79 ∷ c 0 79 ∷ c 0 79 ∷ c 1 79 ∷ c 0 79 ∷ c 0 79 ∷ c 1 79 ∷ c 1 79 ∷ c 0 79 ∷ c 1 79 ∷ c 1 79 ∷ c 0 79 ∷ c 0 79 ∷ c 0 79 ∷ c 1 108 ∷ c 0 107 ∷ c 1 107 ∷ c 1 107 ∷ c 0 107 ∷ c 1 122 ∷ b 0 ∷ b 0 ∷ b 1 ∷ b 0 ∷ b 0 ∷ b 1 ∷ b 0 ∷ b 1 ∷ b 1 ∷ b 1 ∷ b 0 ∷ b 1 ∷ b 0 ∷ b 1 ∷ b 1 ∷ c 1 50 ∷ c 0 79 ∷ c 0 79 ∷ c 0 79 ∷ c 0 79 ∷ c 1 79 ∷ c 0 79 ∷ c 0 79 ∷ c 0 79 ∷ c 0 79 ∷ c 0 79 ∷ c 1 79 ∷ c 0 79 ∷ c 0 79 ∷ c 0 79 ∷ c 0 79 ∷ c 0 79 ∷ c 1 108 ∷ c 1 107 ∷ c 0 122 ∷ b 1 ∷ b 0 ∷ b 1 ∷ b 0 ∷ c 1 50 ∷ c 0 79 ∷ c 0 79 ∷ c 1 79 ∷ c 0 79 ∷ c 0 79 ∷ c 0 79 ∷ c 0 79 ∷ c 0 79 ∷ c 1 79 ∷ c 0 79 ∷ c 0 79 ∷ c 1 79 ∷ c 1 79 ∷ c 0 79 ∷ c 0 79 ∷ c 0 79 ∷ c 0 108 ∷ c 1 109 ∷ c 1 107 ∷ c 1 107 ∷ c 1 122 ∷ b 1 ∷ b 1 ∷ b 1 ∷ b 1 ∷ b 1 ∷ b 1 ∷ b 0 ∷ b 1 ∷ b 1 ∷ b 0 ∷ b 1 ∷ b 0 ∷ b 0 ∷ b 0 ∷ c 0 50 ∷ c 1 50 ∷ c 0 77 ∷ c 0 77 ∷ c 1 78 ∷ c 0 79 ∷ c 0 77 ∷ c 0 77 ∷ c 0 78 ∷ c 0 79 ∷ c 0 77 ∷ c 0 77 ∷ c 0 78 ∷ c 1 79 ∷ c 0 77 ∷ c 0 77 ∷ c 0 78 ∷ c 0 79 ∷ c 1 108 ∷ c 1 107 ∷ c 1 122 ∷ b 1 ∷ b 0 ∷ b 1 ∷ b 0 ∷ b 1 ∷ b 0 ∷ b 1 ∷ c 1 50 ∷ c 0 79 ∷ c 0 79 ∷ c 0 79 ∷ c 0 79 ∷ c 0 79 ∷ c 0 79 ∷ c 0 79 ∷ c 0 79 ∷ c 1 79 ∷ c 0 79 ∷ c 0 79 ∷ c 1 79 ∷ c 0 79 ∷ c 0 79 ∷ c 1 79 ∷ c 0 79 ∷ c 1 108 ∷ c 1 107 ∷ c 0 107 ∷ c 0 122 ∷ b 0 ∷ b 1 ∷ b 0 ∷ b 1 ∷ b 0 ∷ c 1 50 ∷ c 0 79 ∷ c 0 79 ∷ c 0 79 ∷ c 0 79 ∷ c 1 79 ∷ c 1 79 ∷ c 0 79 ∷ c 0 79 ∷ c 0 79 ∷ c 0 79 ∷ c 1 79 ∷ c 1 79 ∷ c 1 79 ∷ c 0 79 ∷ c 0 79 ∷ c 0 79 ∷ c 0 108 ∷ c 1 109 ∷ c 1 107 ∷ c 1 107 ∷ c 1 107 ∷ c 1 122 ∷ b 0 ∷ b 0 ∷ b 0 ∷ b 1 ∷ b 1 ∷ b 0 ∷ b 0 ∷ b 0 ∷ b 0 ∷ c 0 50 ∷ c 1 50 ∷ c 1 77 ∷ c 0 77 ∷ c 1 78 ∷ c 0 79 ∷ c 1 77 ∷ c 0 77 ∷ c 0 78 ∷ c 1 79 ∷ c 0 77 ∷ c 0 77 ∷ c 0 78 ∷ c 0 79 ∷ c 0 77 ∷ c 0 77 ∷ c 0 78 ∷ c 0 79 ∷ c 1 108 ∷ c 1 107 ∷ c 0 107 ∷ c 1 107 ∷ c 1 122 ∷ b 1 ∷ b 1 ∷ b 0 ∷ b 1 ∷ b 1 ∷ b 1 ∷ b 0 ∷ b 1 ∷ b 1 ∷ b 0 ∷ b 1 ∷ b 0 ∷ b 0 ∷ b 1 ∷ c 1 50 ∷ c 0 79 ∷ c 0 79 ∷ c 1 79 ∷ c 0 79 ∷ c 0 79 ∷ c 0 79 ∷ c 0 79 ∷ c 0 79 ∷ c 0 79 ∷ c 1 79 ∷ c 0 79 ∷ c 0 79 ∷ c 0 79 ∷ c 0 79 ∷ c 0 79 ∷ c 1 79 ∷ c 1 108 ∷ c 1 107 ∷ c 1 107 ∷ c 1 122 ∷ b 1 ∷ b 1 ∷ b 1 ∷ b 1 ∷ b 1 ∷ b 1 ∷ b 0 ∷ b 1 ∷ b 0 ∷ b 1 ∷ b 0 ∷ b 1 ∷ c 1 50 ∷ c 0 79 ∷ c 1 79 ∷ c 0 79 ∷ c 0 79 ∷ c 0 79 ∷ c 1 79 ∷ c 1 79 ∷ c 0 79 ∷ c 0 79 ∷ c 0 79 ∷ c 1 79 ∷ c 0 79 ∷ c 0 79 ∷ c 0 79 ∷ c 0 79 ∷ c 0 79 ∷ c 1 108 ∷ c 1 107 ∷ c 0 107 ∷ c 1 107 ∷ c 1 122 ∷ b 1 ∷ b 0 ∷ b 1 ∷ b 1 ∷ b 1 ∷ b 1 ∷ b 1 ∷ b 1 ∷ b 1 ∷ b 0 ∷ b 0 ∷ b 0 ∷ b 0 ∷ b 1 ∷ b 1 ∷ b 1 ∷ b 0 ∷ b 0 ∷ c 0 74 ∷ c 0 74 ∷ c 0 74 ∷ c 1 74 ∷ c 0 74 ∷ c 1 74 ∷ c 0 74 ∷ c 0 74 ∷ c 0 75 ∷ c 0 75 ∷ c 1 75 ∷ c 0 75 ∷ c 0 76 ∷ c 0 76 ∷ c 0 76 ∷ c 0 53 ∷ c 1 100 ∷ c 1 99 ∷ c 0 99 ∷ c 0 120 ∷ b 1 ∷ b 0 ∷ b 1 ∷ b 1 ∷ b 0 ∷ []

abbrev shape_10 : Shape
shape_10 = record { component = 0; log2 = 5; scan = 1 }

pub written_10 : residual_items shape_10 block_10 ≡ items_10
unfolding residual_items scan cbf in_coding_order last_context sig_context sub_block_context greater1_context greater2_context u digits_up_to value_after read_u read_alignment
written_10 = refl

pub read_10 : read_coded (residual_read shape_10) items_10 ≡ Some block_10
unfolding start Engine.start code closing put_bin lps_range doublings next renormalised context_read bypass_read terminate_read residual_read scan cbf in_rows last_context sig_context sub_block_context greater1_context greater2_context u digits_up_to value_after read_u read_alignment
read_10 = refl
