-- The variables of the messages, with their widths in bits (SUBSET-026, chapter 7.5).
use Rattle.std.specs.Prelude.{ℕ, ℤ, Bool, if◌then◌else◌}
use Rattle.std.specs.Int.{w16, cast_unsigned}
use Rattle.ertms_codec.specs.Layout.{Field, field}

abbrev pub d_emergencystop : ℕ → Field
d_emergencystop value = field 15 value

abbrev pub d_lrbg : ℕ → Field
d_lrbg value = field 15 value

-- in two's complement
abbrev pub d_ref : ℤ → Field
d_ref value = field 16 (cast_unsigned w16 value)

abbrev pub d_tsr : ℕ → Field
d_tsr value = field 15 value

abbrev pub l_doubtover : ℕ → Field
l_doubtover value = field 15 value

abbrev pub l_doubtunder : ℕ → Field
l_doubtunder value = field 15 value

abbrev pub l_message : ℕ → Field
l_message value = field 10 value

abbrev pub l_packet : ℕ → Field
l_packet value = field 13 value

abbrev pub l_trainint : ℕ → Field
l_trainint value = field 15 value

abbrev pub l_tsr : ℕ → Field
l_tsr value = field 15 value

abbrev pub m_ack : Bool → Field
m_ack flag = field 1 (if flag then 1 else 0)

abbrev pub m_level : ℕ → Field
m_level value = field 3 value

abbrev pub m_mode : ℕ → Field
m_mode value = field 4 value

abbrev pub nid_em : ℕ → Field
nid_em value = field 4 value

abbrev pub nid_engine : ℕ → Field
nid_engine value = field 24 value

abbrev pub nid_lrbg : ℕ → Field
nid_lrbg value = field 24 value

abbrev pub nid_message : ℕ → Field
nid_message value = field 8 value

abbrev pub nid_ntc : ℕ → Field
nid_ntc value = field 8 value

abbrev pub nid_packet : ℕ → Field
nid_packet value = field 8 value

abbrev pub nid_prvlrbg : ℕ → Field
nid_prvlrbg value = field 24 value

abbrev pub nid_tsr : ℕ → Field
nid_tsr value = field 8 value

abbrev pub q_dir : ℕ → Field
q_dir value = field 2 value

abbrev pub q_dirlrbg : ℕ → Field
q_dirlrbg value = field 2 value

abbrev pub q_dirtrain : ℕ → Field
q_dirtrain value = field 2 value

abbrev pub q_dlrbg : ℕ → Field
q_dlrbg value = field 2 value

abbrev pub q_emergencystop : ℕ → Field
q_emergencystop value = field 2 value

abbrev pub q_front : Bool → Field
q_front flag = field 1 (if flag then 1 else 0)

abbrev pub q_length : ℕ → Field
q_length value = field 2 value

abbrev pub q_scale : ℕ → Field
q_scale value = field 2 value

abbrev pub t_train : ℕ → Field
t_train value = field 32 value

abbrev pub v_train : ℕ → Field
v_train value = field 7 value

abbrev pub v_tsr : ℕ → Field
v_tsr value = field 7 value
