-- The tags of the types of RFC 1155 (3.2.3), and of the PDUs of RFC 1157 (4.1).
use Rattle.std.specs.Prelude.{ℕ}

abbrev pub ip_address_tag : ℕ
ip_address_tag = 64

abbrev pub counter_tag : ℕ
counter_tag = 65

abbrev pub gauge_tag : ℕ
gauge_tag = 66

abbrev pub time_ticks_tag : ℕ
time_ticks_tag = 67

abbrev pub opaque_tag : ℕ
opaque_tag = 68

abbrev pub get_tag : ℕ
get_tag = 160

abbrev pub get_next_tag : ℕ
get_next_tag = 161

abbrev pub response_tag : ℕ
response_tag = 162

abbrev pub set_tag : ℕ
set_tag = 163
