-- What the bench sign answers: what it reads, and what it refuses to write, computed.
use Rattle.std.proofs.Common.{◌≡◌, ℕ, List, [], ◌∷◌, Some, refl}
use Rattle.std.specs.Prelude.{pos, codes}
use Rattle.dms_wire.specs.Message.{integer}
use Rattle.dms_codes.specs.declared.codes.Order.TheVariants.{Swapped}
use Rattle.dms_mib.specs.declared.column.Column.TheVariants.{Crc}
use Rattle.dms_mib.specs.declared.scalar.Scalar.TheVariants.{ShortPowerLossTime}
use Rattle.dms_mib.specs.declared.instance.Instance.TheVariants.{Scalar}
use Rattle.dms_sign.specs.Reply.{dropped}
use Rattle.dms_sign_laws.proofs.BenchSign.{octets_of, bench_table, bench_sign, cell, number, datagram, answer, status_and_index, after_set, reads}

-- ---- datagrams

-- dmsMessageStatus of changeable row 1 is notUsed
not_used : (datagram bench_sign (codes "302e02010004067075626c6963a0210201010201000201003016301406102b0601040189360402030508010903010500")).reply
    ≡ Some (octets_of (codes "302f02010004067075626c6963a2220201010201000201003017301506102b060104018936040203050801090301020101"))
unfolding datagram
not_used = refl

-- the same request with a longer form of its first length
longer_form_of_a_length : (datagram bench_sign (codes "3082002e02010004067075626c6963a0210201010201000201003016301406102b0601040189360402030508010903010500")).reply
    ≡ Some (octets_of (codes "302f02010004067075626c6963a2220201010201000201003017301506102b060104018936040203050801090301020101"))
unfolding datagram
longer_form_of_a_length = refl

-- there is no changeable row 3: noSuchName
no_third_row : (datagram bench_sign (codes "302e02010004067075626c6963a0210201010201000201003016301406102b0601040189360402030508010903030500")).reply
    ≡ Some (octets_of (codes "302e02010004067075626c6963a2210201010201020201013016301406102b0601040189360402030508010903030500"))
unfolding datagram
no_third_row = refl

-- without its last octet the request is none
cut_short : datagram bench_sign (codes "302e02010004067075626c6963a0210201010201000201003016301406102b06010401893604020305080109030105")
    ≡ dropped bench_sign
unfolding datagram
cut_short = refl

-- nor is it with one octet more
one_octet_more : datagram bench_sign (codes "302e02010004067075626c6963a0210201010201000201003016301406102b060104018936040203050801090301050000")
    ≡ dropped bench_sign
unfolding datagram
one_octet_more = refl

-- the community "private" is neither of the two
another_community : datagram bench_sign (codes "302f020100040770726976617465a0210201010201000201003016301406102b0601040189360402030508010903010500")
    ≡ dropped bench_sign
unfolding datagram
another_community = refl

-- after dmsMessageStatus.7.255 comes dmsValidateMessageError.0, which is none
after_the_table : (datagram bench_sign (codes "302f02010004067075626c6963a1220201020201000201003017301506112b0601040189360402030508010907817f0500")).reply
    ≡ Some (octets_of (codes "302c02010004067075626c6963a21f02010202010002010030143012060d2b060104018936040203050900020102"))
unfolding datagram
after_the_table = refl

abbrev short_time_by_reader : List ℕ
short_time_by_reader = codes "302c02010004067075626c6963a31f02010102010002010030143012060d2b060104018936040203060a00020105"

-- "public" may not set dmsShortPowerLossTime: noSuchName, index 1
reader_may_not_write : (datagram bench_sign short_time_by_reader).reply
    ≡ Some (octets_of (codes "302c02010004067075626c6963a21f02010102010202010130143012060d2b060104018936040203060a00020105"))
unfolding datagram
reader_may_not_write = refl

-- nothing is set
reader_writes_nothing : (datagram bench_sign short_time_by_reader).after ≡ bench_sign
unfolding datagram
reader_writes_nothing = refl

-- dmsShortPowerLossTime is to be 5, and dmsEndDurationMessage four octets
abbrev four_octets_of_five : List ℕ
four_octets_of_five =
    codes "3042020100040561646d696ea336020101020100020100302b3012060d2b060104018936040203060a000201053015060d2b060104018936040203060f00040407000100"

-- badValue, index 2
wrong_length : (datagram bench_sign four_octets_of_five).reply
    ≡ Some (octets_of (codes "3042020100040561646d696ea236020101020103020102302b3012060d2b060104018936040203060a000201053015060d2b060104018936040203060f00040407000100"))
unfolding datagram
wrong_length = refl

-- dmsShortPowerLossTime still reads 0
still_zero : reads (datagram bench_sign four_octets_of_five).after (Scalar ShortPowerLossTime) ≡ Some (integer (pos 0))
unfolding datagram reads
still_zero = refl

-- a Get without bindings is answered without bindings
nothing_asked : (datagram bench_sign (codes "301802010004067075626c6963a00b0201010201000201003000")).reply
    ≡ Some (octets_of (codes "301802010004067075626c6963a20b0201010201000201003000"))
unfolding datagram
nothing_asked = refl

-- ---- messages

-- one name twice: genErr, index 2
named_twice : status_and_index bench_sign (number (Scalar ShortPowerLossTime) 5 ∷ number (Scalar ShortPowerLossTime) 5 ∷ []) ≡ (5, 2)
unfolding answer
named_twice = refl

-- and nothing is set
named_twice_sets_nothing : after_set bench_sign (number (Scalar ShortPowerLossTime) 5 ∷ number (Scalar ShortPowerLossTime) 5 ∷ []) ≡ bench_sign
unfolding answer
named_twice_sets_nothing = refl

-- the first of the two is out of range: badValue, index 1
first_is_out_of_range : status_and_index bench_sign (number (Scalar ShortPowerLossTime) 65536 ∷ number (Scalar ShortPowerLossTime) 5 ∷ []) ≡ (3, 1)
unfolding answer
first_is_out_of_range = refl

-- the checksum of "B" is 7502
checksum_of_b : reads bench_sign (cell Crc 2 1) ≡ Some (integer (pos 29954))
unfolding reads
checksum_of_b = refl

-- a sign of the other order reports its two octets exchanged, 0275
swapped_checksum_of_b : reads (record bench_sign { table = record bench_table { order = Swapped } }) (cell Crc 2 1) ≡ Some (integer (pos 629))
unfolding reads
swapped_checksum_of_b = refl
