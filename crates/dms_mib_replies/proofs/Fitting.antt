-- What is written of a reply: itself where it fits a datagram, or tooBig.
use Rattle.std.proofs.Common.{◌≡◌, ℕ, ◌<◌, ◌≤◌, List, length, Result, arith}
use Rattle.dms_wire.specs.declared.fault.TooBig.{TooBig}
use Rattle.dms_wire.specs.Message.{VarBind, SnmpMessage}
use Rattle.dms_wire.specs.Canonical.{canonical}
use Rattle.dms_wire.specs.Response.{response_to, response_with}
use Rattle.dms_wire.specs.Written.{IsWritten}
use Rattle.dms_wire.proofs.ShorterSpellings.{response_no_longer}
use Rattle.dms_wire.proofs.FewBindings.{few_bindings}
use Rattle.dms_wire_ber.specs.Limits.{longest_datagram}
use Rattle.dms_mib_replies.specs.Replies.{too_big, reply_with, IsRead}

pub few_are_read : (m : SnmpMessage) → IsRead m → length m.bindings ≤ 210
few_are_read m is = let few = few_bindings m is.octets is.spelled in let size = is.spelled.size in omega arith

pub error_fits : (m : SnmpMessage) → IsRead m → length (canonical (response_to m too_big 0)) ≤ longest_datagram
error_fits m is = grind (arith, response_no_longer)

pub written_whole : (r : Result (Unit {0}) TooBig) (written octets : List ℕ) → IsWritten r written octets → length octets ≤ longest_datagram → written ≡ octets
written_whole r written octets is few = grind arith

pub sent_whole : (m : SnmpMessage) (status index : ℕ) (bindings : List VarBind) (r : SnmpMessage) (out : List ℕ) → r ≡ response_with m status index bindings
    → out ≡ canonical r → length (canonical r) ≤ longest_datagram → out ≡ reply_with m status index bindings
sent_whole m status index bindings r out is written few = grind arith

pub sent_too_big : (m : SnmpMessage) (status index : ℕ) (bindings : List VarBind) (r : SnmpMessage) (out : List ℕ) → r ≡ response_with m status index bindings
    → out ≡ canonical (response_to m too_big 0) → longest_datagram < length (canonical r) → out ≡ reply_with m status index bindings
sent_too_big m status index bindings r out is written many = grind arith
