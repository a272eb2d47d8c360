-- What the code sends and answers; only proofs go through these, but for `sent` and `accepted_by`, which say what a
-- receipt is (this profile).
use Rattle.std.specs.Prelude.{ℕ, ◌&&◌, ◌||◌, Bool, List, Option, Some, None, ⊤}
use Rattle.dms_wire.specs.declared.message.Kind.{Kind}
use Rattle.dms_wire.specs.declared.message.Kind.TheVariants.{Get, GetNext, Response, Set}
use Rattle.dms_wire.specs.Message.{SnmpMessage}
pub use Rattle.dms_mib_replies.specs.Replies.{reply_with, IsRead}
use Rattle.dms_codes.specs.declared.codes.Activation.{Activation}
use Rattle.dms_sign.specs.declared.sign.reply.Receipt.{Receipt}
use Rattle.dms_sign.specs.declared.sign.reply.Receipt.TheVariants.{Dropped, Replied, Accepted}
use Rattle.dms_sign.specs.State.{SignState}
use Rattle.dms_sign.specs.Requests.{is_community}
use Rattle.dms_sign.specs.Reply.{Received, dropped, heard}

-- what was sent, of the octets that were left
abbrev pub sent : Receipt → List ℕ → Option (List ℕ)
sent Dropped octets = None
sent Replied octets = Some octets
sent (Accepted activation) octets = Some octets

abbrev pub accepted_by : Receipt → Option Activation
accepted_by Dropped = None
accepted_by Replied = None
accepted_by (Accepted activation) = Some activation

-- something is sent
abbrev pub IsAnswered : Receipt → Type 0
IsAnswered Dropped = ⊥
IsAnswered Replied = ⊤
IsAnswered (Accepted activation) = ⊤

-- the sign has power, and the message is of one of its communities
abbrev pub is_addressed : SignState → SnmpMessage → Bool
is_addressed s m = s.powered && (is_community m.community s.config.reader || is_community m.community s.config.writer)

-- what comes of a message that is for the sign, by its kind
abbrev pub answered : SignState → SnmpMessage → Kind → Received
answered s m Get = heard s m
answered s m GetNext = heard s m
answered s m Response = dropped s
answered s m Set = heard s m
