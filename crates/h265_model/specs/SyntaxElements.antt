-- The syntax elements of slice data whose bins have contexts (7.3.8), by their names: each is the number of its first
-- context variable (9.3.2.2, Table 9-4), to which ctxInc is added where it has several (9.3.4.2).
use Rattle.std.specs.Prelude.{ℕ}
use Rattle.h265_model.specs.declared.syntax_elements.TheConstants.{SPLIT_CU_FLAG, CU_TRANSQUANT_BYPASS_FLAG, CU_SKIP_FLAG, PRED_MODE_FLAG, PART_MODE, PREV_INTRA_LUMA_PRED_FLAG, INTRA_CHROMA_PRED_MODE, RQT_ROOT_CBF, MERGE_FLAG, MVP_L0_FLAG, ABS_MVD_GREATER0_FLAG, ABS_MVD_GREATER1_FLAG, CBF_LUMA, CBF_CB, CBF_CR, LAST_SIG_COEFF_X_PREFIX, LAST_SIG_COEFF_Y_PREFIX, CODED_SUB_BLOCK_FLAG, SIG_COEFF_FLAG, COEFF_ABS_LEVEL_GREATER1_FLAG, COEFF_ABS_LEVEL_GREATER2_FLAG}

-- ---- the coding quadtree (7.3.8.4)

-- split_cu_flag (7.3.8.4); three contexts, ctxInc by the left and above neighbours' depths (9.3.4.2.2)
abbrev pub split_cu_flag : ℕ
split_cu_flag = SPLIT_CU_FLAG

-- ---- the coding unit (7.3.8.5)

-- cu_transquant_bypass_flag (7.3.8.5); one context
abbrev pub cu_transquant_bypass_flag : ℕ
cu_transquant_bypass_flag = CU_TRANSQUANT_BYPASS_FLAG

-- cu_skip_flag (7.3.8.5); three contexts, ctxInc by the left and above neighbours' flags (9.3.4.2.2)
abbrev pub cu_skip_flag : ℕ
cu_skip_flag = CU_SKIP_FLAG

-- pred_mode_flag (7.3.8.5); one context
abbrev pub pred_mode_flag : ℕ
pred_mode_flag = PRED_MODE_FLAG

-- part_mode (7.3.8.5); the context of its first bin, ctxInc 0 (9.3.4.2.1)
abbrev pub part_mode : ℕ
part_mode = PART_MODE

-- prev_intra_luma_pred_flag (7.3.8.5); one context
abbrev pub prev_intra_luma_pred_flag : ℕ
prev_intra_luma_pred_flag = PREV_INTRA_LUMA_PRED_FLAG

-- intra_chroma_pred_mode (7.3.8.5); one context, of its first bin
abbrev pub intra_chroma_pred_mode : ℕ
intra_chroma_pred_mode = INTRA_CHROMA_PRED_MODE

-- rqt_root_cbf (7.3.8.5); one context
abbrev pub rqt_root_cbf : ℕ
rqt_root_cbf = RQT_ROOT_CBF

-- ---- the prediction unit and its vector differences (7.3.8.6, 7.3.8.9)

-- merge_flag (7.3.8.6); one context
abbrev pub merge_flag : ℕ
merge_flag = MERGE_FLAG

-- mvp_l0_flag (7.3.8.6); one context
abbrev pub mvp_l0_flag : ℕ
mvp_l0_flag = MVP_L0_FLAG

-- abs_mvd_greater0_flag (7.3.8.9); one context
abbrev pub abs_mvd_greater0_flag : ℕ
abs_mvd_greater0_flag = ABS_MVD_GREATER0_FLAG

-- abs_mvd_greater1_flag (7.3.8.9); one context
abbrev pub abs_mvd_greater1_flag : ℕ
abs_mvd_greater1_flag = ABS_MVD_GREATER1_FLAG

-- ---- the transform tree (7.3.8.8)

-- cbf_luma (7.3.8.8); the context of trafoDepth 0, ctxInc 1 (9.3.4.2.1)
abbrev pub cbf_luma : ℕ
cbf_luma = CBF_LUMA

-- cbf_cb (7.3.8.8); the context of trafoDepth 0, ctxInc 0 (9.3.4.2.1)
abbrev pub cbf_cb : ℕ
cbf_cb = CBF_CB

-- cbf_cr (7.3.8.8); the same context as cbf_cb (9.3.4.2.1)
abbrev pub cbf_cr : ℕ
cbf_cr = CBF_CR

-- ---- the residual (7.3.8.11)

-- last_sig_coeff_x_prefix (7.3.8.11); 18 contexts, ctxInc by bin, component and side (9.3.4.2.3)
abbrev pub last_sig_coeff_x_prefix : ℕ
last_sig_coeff_x_prefix = LAST_SIG_COEFF_X_PREFIX

-- last_sig_coeff_y_prefix (7.3.8.11); 18 contexts, ctxInc by bin, component and side (9.3.4.2.3)
abbrev pub last_sig_coeff_y_prefix : ℕ
last_sig_coeff_y_prefix = LAST_SIG_COEFF_Y_PREFIX

-- coded_sub_block_flag (7.3.8.11); 4 contexts, ctxInc by the sub-blocks on the right and below (9.3.4.2.4)
abbrev pub coded_sub_block_flag : ℕ
coded_sub_block_flag = CODED_SUB_BLOCK_FLAG

-- sig_coeff_flag (7.3.8.11); 42 contexts, ctxInc by place, side, component and neighbours (9.3.4.2.5)
abbrev pub sig_coeff_flag : ℕ
sig_coeff_flag = SIG_COEFF_FLAG

-- coeff_abs_level_greater1_flag (7.3.8.11); 24 contexts, ctxInc by ctxSet and greater1Ctx (9.3.4.2.6)
abbrev pub coeff_abs_level_greater1_flag : ℕ
coeff_abs_level_greater1_flag = COEFF_ABS_LEVEL_GREATER1_FLAG

-- coeff_abs_level_greater2_flag (7.3.8.11); 6 contexts, ctxInc by ctxSet (9.3.4.2.7)
abbrev pub coeff_abs_level_greater2_flag : ℕ
coeff_abs_level_greater2_flag = COEFF_ABS_LEVEL_GREATER2_FLAG
