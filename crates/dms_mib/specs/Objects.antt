-- The objects of a sign, one table (NTCIP 1203, each object's SYNTAX and ACCESS, narrowed to this profile).
use Rattle.std.specs.Prelude.{ℕ, Bool, true, false, List, [], ◌∷◌, ◌++◌, map, codes}
use Rattle.dms_codes.specs.Limits.{longest_text, longest_owner}
use Rattle.dms_mib.specs.declared.column.Column.{Column}
use Rattle.dms_mib.specs.declared.column.Column.TheVariants.{MemoryType, Number, MultiString, Owner, Crc}
use Rattle.dms_mib.specs.declared.column.Column.TheVariants.{Beacon, PixelService, RunTimePriority, Status}
use Rattle.dms_mib.specs.declared.scalar.Scalar.{Scalar}
use Rattle.dms_mib.specs.declared.scalar.Scalar.TheVariants.{SignHeightPixels, SignWidthPixels}
use Rattle.dms_mib.specs.declared.scalar.Scalar.TheVariants.{DefaultBackgroundColor, DefaultForegroundColor}
use Rattle.dms_mib.specs.declared.scalar.Scalar.TheVariants.{DefaultFlashOn, DefaultFlashOff, DefaultFont}
use Rattle.dms_mib.specs.declared.scalar.Scalar.TheVariants.{DefaultJustificationLine, DefaultJustificationPage}
use Rattle.dms_mib.specs.declared.scalar.Scalar.TheVariants.{DefaultPageOnTime, DefaultPageOffTime, ColorScheme}
use Rattle.dms_mib.specs.declared.scalar.Scalar.TheVariants.{NumPermanentMsg, NumChangeableMsg, MaxChangeableMsg}
use Rattle.dms_mib.specs.declared.scalar.Scalar.TheVariants.{FreeChangeableMemory, NumVolatileMsg, MaxVolatileMsg}
use Rattle.dms_mib.specs.declared.scalar.Scalar.TheVariants.{FreeVolatileMemory, ValidateMessageError}
use Rattle.dms_mib.specs.declared.scalar.Scalar.TheVariants.{ActivateMessage, MessageTimeRemaining}
use Rattle.dms_mib.specs.declared.scalar.Scalar.TheVariants.{MsgTableSource, MsgRequesterId, MsgSourceMode}
use Rattle.dms_mib.specs.declared.scalar.Scalar.TheVariants.{ShortPowerRecoveryMessage, LongPowerRecoveryMessage}
use Rattle.dms_mib.specs.declared.scalar.Scalar.TheVariants.{ShortPowerLossTime, CommunicationsLossMessage}
use Rattle.dms_mib.specs.declared.scalar.Scalar.TheVariants.{TimeCommLoss, PowerLossMessage, EndDurationMessage}
use Rattle.dms_mib.specs.declared.scalar.Scalar.TheVariants.{ActivateMsgError, MultiSyntaxError}
use Rattle.dms_mib.specs.declared.scalar.Scalar.TheVariants.{MultiSyntaxErrorPosition, ActivateErrorMsgCode}
use Rattle.dms_mib.specs.declared.objects.Group.{Group}
use Rattle.dms_mib.specs.declared.objects.Group.TheVariants.{VmsCfg, MultiCfg, DmsMessage}
use Rattle.dms_mib.specs.declared.objects.Group.TheVariants.{DmsMessageEntry, SignControl}
use Rattle.dms_mib.specs.declared.objects.Access.{Access}
use Rattle.dms_mib.specs.declared.objects.Access.TheVariants.{Read, Write, Command}
use Rattle.dms_mib.specs.declared.objects.Syntax.{Syntax}
use Rattle.dms_mib.specs.declared.objects.Syntax.TheVariants.{Whole, Range, Asks, Octets, Address}
use Rattle.dms_mib.specs.declared.objects.Object.{Object}
use Rattle.dms_mib.specs.declared.objects.Instances.{Instances}
use Rattle.dms_mib.specs.declared.objects.Instances.TheVariants.{One, EachRow}

-- the number of a group below dms
abbrev pub group_number : Group → ℕ
group_number VmsCfg = 2
group_number MultiCfg = 4
group_number DmsMessage = 5
group_number DmsMessageEntry = 5
group_number SignControl = 6

-- the numbers of a node below dms: a group's, or those of the columns of dmsMessageTable
abbrev pub node_numbers : Group → List ℕ
node_numbers DmsMessageEntry = group_number DmsMessageEntry ∷ 8 ∷ 1 ∷ []
node_numbers group = group_number group ∷ []

-- an object that is written, or commanded by a write
abbrev pub is_written : Access → Bool
is_written Read = false
is_written Write = true
is_written Command = true

-- a row: the name that the MIB has, the node that the object stands under and its number there, what may be done with
-- it, and the type of its values with their range
pub record Row : Type 0 where
  pub name : List ℕ
  pub group : Group
  pub number : ℕ
  pub access : Access
  pub syntax : Syntax

abbrev pub row : List ℕ → Group → ℕ → Access → Syntax → Row
row text node place may values =
    record { name = text; group = node; number = place; access = may; syntax = values }

-- ---- the table
-- What stands above a row is its DESCRIPTION, (own) where this profile chose, and the words that the MIB has for its
-- numbers.

-- the objects that have one instance
abbrev pub scalar_row : Scalar → Row
-- Rows of the matrix, in pixels.
scalar_row SignHeightPixels = row (codes "vmsSignHeightPixels") VmsCfg 3 Read (Range 1 64)
-- Columns of the matrix, in pixels.
scalar_row SignWidthPixels = row (codes "vmsSignWidthPixels") VmsCfg 4 Read (Range 1 256)
-- The background of a page whose text names none: black 0, red 1, yellow 2, green 3, cyan 4, blue 5, magenta 6,
-- white 7, orange 8, amber 9.
scalar_row DefaultBackgroundColor = row (codes "defaultBackgroundColor") MultiCfg 1 Write (Range 0 9)
-- The colour of characters for which the text names none, with the numbers of defaultBackgroundColor.
scalar_row DefaultForegroundColor = row (codes "defaultForegroundColor") MultiCfg 2 Write (Range 0 9)
-- How long flashing characters are lit, in tenths of a second.
scalar_row DefaultFlashOn = row (codes "defaultFlashOn") MultiCfg 3 Write (Range 0 255)
-- How long flashing characters are dark, in tenths of a second.
scalar_row DefaultFlashOff = row (codes "defaultFlashOff") MultiCfg 4 Write (Range 0 255)
-- The number of the font of characters for which the text names none; a font that the sign has.
scalar_row DefaultFont = row (codes "defaultFont") MultiCfg 5 Write (Range 1 255)
-- Where characters stand in a line. Words: left 2, center 3, right 4.
scalar_row DefaultJustificationLine = row (codes "defaultJustificationLine") MultiCfg 6 Write (Range 2 4)
-- Where lines stand on a page. Words: top 2, middle 3, bottom 4.
scalar_row DefaultJustificationPage = row (codes "defaultJustificationPage") MultiCfg 7 Write (Range 2 4)
-- How long a page is shown, in tenths of a second.
scalar_row DefaultPageOnTime = row (codes "defaultPageOnTime") MultiCfg 8 Write (Range 0 255)
-- How long nothing is shown after a page, in tenths of a second.
scalar_row DefaultPageOffTime = row (codes "defaultPageOffTime") MultiCfg 9 Write (Range 0 255)
-- How colours are named: always colorClassic. Words: monochrome1bit 1, monochrome8bit 2, colorClassic 3,
-- color24bit 4.
scalar_row ColorScheme = row (codes "dmsColorScheme") MultiCfg 11 Read (Range 1 4)
-- How many permanent messages the sign has.
scalar_row NumPermanentMsg = row (codes "dmsNumPermanentMsg") DmsMessage 1 Read (Range 0 65535)
-- How many changeable messages are valid (own).
scalar_row NumChangeableMsg = row (codes "dmsNumChangeableMsg") DmsMessage 2 Read (Range 0 65535)
-- How many changeable messages there is room for.
scalar_row MaxChangeableMsg = row (codes "dmsMaxChangeableMsg") DmsMessage 3 Read (Range 0 65535)
-- Octets of text for which changeable rows are not used: 512 a row (own).
scalar_row FreeChangeableMemory = row (codes "dmsFreeChangeableMemory") DmsMessage 4 Read Whole
-- How many volatile messages are valid (own).
scalar_row NumVolatileMsg = row (codes "dmsNumVolatileMsg") DmsMessage 5 Read (Range 0 65535)
-- How many volatile messages there is room for.
scalar_row MaxVolatileMsg = row (codes "dmsMaxVolatileMsg") DmsMessage 6 Read (Range 0 65535)
-- Octets of text for which volatile rows are not used: 512 a row (own).
scalar_row FreeVolatileMemory = row (codes "dmsFreeVolatileMemory") DmsMessage 7 Read Whole
-- The verdict of the last validation, none at first. Words: other 1, none 2, beacons 3, pixelService 4,
-- syntaxMULTI 5.
scalar_row ValidateMessageError = row (codes "dmsValidateMessageError") DmsMessage 9 Read (Range 1 5)
-- Written: the code of the message to show (duration, priority, memory type, number, checksum, address). Read:
-- that last accepted by a SET, at first zeros.
scalar_row ActivateMessage = row (codes "dmsActivateMessage") SignControl 3 Command (Octets 12 12)
-- Minutes for which the message is still shown, rounded up (own); 65535 is without end. Written 0 it ends at
-- once.
scalar_row MessageTimeRemaining = row (codes "dmsMessageTimeRemaining") SignControl 4 Command (Range 0 65535)
-- The code of the message that is shown.
scalar_row MsgTableSource = row (codes "dmsMsgTableSource") SignControl 5 Read (Octets 5 5)
-- The address of the one who activated the message that is shown.
scalar_row MsgRequesterId = row (codes "dmsMsgRequesterID") SignControl 6 Read Address
-- Why the message is shown: central, powerRecovery, commLoss, powerLoss or endDuration. Words: other 1, local 2,
-- external 3, otherCom1 4, otherCom2 5, otherCom3 6, otherCom4 7, central 8, timebasedScheduler 9,
-- powerRecovery 10, reset 11, commLoss 12, powerLoss 13, endDuration 14.
scalar_row MsgSourceMode = row (codes "dmsMsgSourceMode") SignControl 7 Read (Range 1 14)
-- The message that is activated when power returns after a short loss.
scalar_row ShortPowerRecoveryMessage = row (codes "dmsShortPowerRecoveryMessage") SignControl 8 Write (Octets 5 5)
-- The message that is activated when power returns after a long loss.
scalar_row LongPowerRecoveryMessage = row (codes "dmsLongPowerRecoveryMessage") SignControl 9 Write (Octets 5 5)
-- Seconds up to which a loss of power is short, at first 0: none is.
scalar_row ShortPowerLossTime = row (codes "dmsShortPowerLossTime") SignControl 10 Write (Range 0 65535)
-- The message that is activated when no datagram was answered for dmsTimeCommLoss.
scalar_row CommunicationsLossMessage = row (codes "dmsCommunicationsLossMessage") SignControl 12 Write (Octets 5 5)
-- Minutes without an answered datagram until dmsCommunicationsLossMessage is activated; at first 0, which is
-- never.
scalar_row TimeCommLoss = row (codes "dmsTimeCommLoss") SignControl 13 Write (Range 0 65535)
-- The message that is activated when power is lost.
scalar_row PowerLossMessage = row (codes "dmsPowerLossMessage") SignControl 14 Write (Octets 5 5)
-- The message that is activated when the duration of another ends.
scalar_row EndDurationMessage = row (codes "dmsEndDurationMessage") SignControl 15 Write (Octets 5 5)
-- Why the last activation was refused; none where it was accepted. Words: other 1, none 2, priority 3,
-- messageStatus 4, messageMemoryType 5, messageNumber 6, messageCRC 7, syntaxMULTI 8.
scalar_row ActivateMsgError = row (codes "dmsActivateMsgError") SignControl 17 Read (Range 1 8)
-- The last fault of a text; none where there was none. Words: other 1, none 2, unsupportedTag 3,
-- unsupportedTagValue 4, textTooBig 5, fontNotDefined 6, characterNotDefined 7, fieldDeviceNotExist 8,
-- fieldDeviceError 9, flashRegionError 10, tagConflict 11, tooManyPages 12, fontVersionID 13, graphicID 14,
-- graphicNotDefined 15.
scalar_row MultiSyntaxError = row (codes "dmsMultiSyntaxError") SignControl 18 Read (Range 1 15)
-- Where that fault stands: an offset in octets from the beginning of the text; 0 where there was none.
scalar_row MultiSyntaxErrorPosition = row (codes "dmsMultiSyntaxErrorPosition") SignControl 19 Read (Range 0 65535)
-- The activation code that was last refused, at first twelve zeros; a success leaves it (own).
scalar_row ActivateErrorMsgCode = row (codes "dmsActivateErrorMsgCode") SignControl 24 Read (Octets 12 12)

-- the columns of dmsMessageTable, which have an instance for each of its rows
abbrev pub column_row : Column → Row
-- The kind of memory of the row: permanent 2, changeable 3, volatile 4, currentBuffer 5, blank 7.
column_row MemoryType = row (codes "dmsMessageMemoryType") DmsMessageEntry 1 Read (Range 2 7)
-- The number of the row in its kind of memory.
column_row Number = row (codes "dmsMessageNumber") DmsMessageEntry 2 Read (Range 1 65535)
-- The text of the message, in MULTI.
column_row MultiString = row (codes "dmsMessageMultiString") DmsMessageEntry 3 Write (Octets 0 longest_text)
-- Who the message is from.
column_row Owner = row (codes "dmsMessageOwner") DmsMessageEntry 4 Write (Octets 0 longest_owner)
-- The checksum of text, beacon and pixel service while the row is valid, else 0; in the sign's order of its two
-- octets.
column_row Crc = row (codes "dmsMessageCRC") DmsMessageEntry 5 Read (Range 0 65535)
-- 1 where the beacon is to flash.
column_row Beacon = row (codes "dmsMessageBeacon") DmsMessageEntry 6 Write (Range 0 1)
-- 1 where pixel service is allowed while the message is shown.
column_row PixelService = row (codes "dmsMessagePixelService") DmsMessageEntry 7 Write (Range 0 1)
-- The priority that another activation has to reach while this message is shown.
column_row RunTimePriority = row (codes "dmsMessageRunTimePriority") DmsMessageEntry 8 Write (Range 1 255)
-- The status of the row. modifyReq, validateReq and notUsedReq are written, the others read. Words: notUsed 1,
-- modifying 2, validating 3, valid 4, error 5, modifyReq 6, validateReq 7, notUsedReq 8.
column_row Status = row (codes "dmsMessageStatus") DmsMessageEntry 9 Command (Asks 1 5 6 8)

-- each object by its instances, in the order of names
abbrev pub every_object : List Instances
every_object =
    One SignHeightPixels ∷ One SignWidthPixels ∷ One DefaultBackgroundColor ∷ One DefaultForegroundColor
    ∷ One DefaultFlashOn ∷ One DefaultFlashOff ∷ One DefaultFont ∷ One DefaultJustificationLine
    ∷ One DefaultJustificationPage ∷ One DefaultPageOnTime ∷ One DefaultPageOffTime ∷ One ColorScheme
    ∷ One NumPermanentMsg ∷ One NumChangeableMsg ∷ One MaxChangeableMsg ∷ One FreeChangeableMemory
    ∷ One NumVolatileMsg ∷ One MaxVolatileMsg ∷ One FreeVolatileMemory ∷ EachRow MemoryType ∷ EachRow Number
    ∷ EachRow MultiString ∷ EachRow Owner ∷ EachRow Crc ∷ EachRow Beacon ∷ EachRow PixelService
    ∷ EachRow RunTimePriority ∷ EachRow Status ∷ One ValidateMessageError ∷ One ActivateMessage
    ∷ One MessageTimeRemaining ∷ One MsgTableSource ∷ One MsgRequesterId ∷ One MsgSourceMode
    ∷ One ShortPowerRecoveryMessage ∷ One LongPowerRecoveryMessage ∷ One ShortPowerLossTime
    ∷ One CommunicationsLossMessage ∷ One TimeCommLoss ∷ One PowerLossMessage ∷ One EndDurationMessage
    ∷ One ActivateMsgError ∷ One MultiSyntaxError ∷ One MultiSyntaxErrorPosition ∷ One ActivateErrorMsgCode ∷ []

-- ---- the table as a list

abbrev pub row_of : Instances → Row
row_of (One object) = scalar_row object
row_of (EachRow column) = column_row column

-- an object with the name that the MIB has
abbrev pub named_object : Row → Instances → List ℕ × Object
named_object row which = (
  row.name,
  record {
    group = row.group;
    number = row.number;
    access = row.access;
    syntax = row.syntax;
    instances = which;
  },
)

-- each object with the name that the MIB has, in the order of names
unfoldable pub objects : List (List ℕ × Object)
objects = map (λ which. named_object (row_of which) which) every_object

-- the objects of the rows
abbrev pub listed : List Object
listed = map (λ (row : List ℕ × Object). row.1) objects

-- the numbers of an object below dms
abbrev pub numbers_of : Object → List ℕ
numbers_of object = node_numbers object.group ++ object.number ∷ []
