-- Each request of the centre is within the limits of a message, fits a datagram, and is read as it was meant.
use Rattle.std.proofs.Common.{◌≡◌, ℕ, pos, ◌+◌, ◌^◌, ◌<◌, ◌≤◌, true, List, [], ◌∷◌, ◌++◌, length, Some, refl, arith, flat_map, lt-ltb, length-append, All}
use Rattle.std.proofs.lemmas.List.Elements.{All-head, All-tail}
use Rattle.std.proofs.lemmas.Bool.Decides.{nat_tests}
use Rattle.std.specs.Int.Digits.{AllBelowBase}
use Rattle.dms_wire.specs.Message.{ObjectValue, integer, octet_string, null, VarBind, SnmpMessage}
use Rattle.dms_wire_ber.specs.ObjectIdentifier.{IsNameInLimits}
use Rattle.dms_wire.specs.Limits.{IsValueInLimits, AreBindingsInLimits, IsMessageInLimits}
use Rattle.dms_wire.specs.Canonical.{value_octets, binding_octets, canonical}
use Rattle.dms_wire.specs.MessageOf.{message_of}
use Rattle.dms_wire.proofs.CanonicalLaws.{canonical_spells}
use Rattle.dms_wire.proofs.MessageOfLaws.{read_is_spelled}
use Rattle.dms_codes.specs.declared.codes.Activation.{Activation}
use Rattle.dms_codes.specs.declared.codes.Order.{Order}
use Rattle.dms_codes.specs.declared.codes.Order.TheVariants.{High, Swapped}
use Rattle.dms_mib.specs.declared.column.Column.{Column}
use Rattle.dms_mib.specs.declared.column.Column.TheVariants.{MemoryType, Number, MultiString, Owner, Crc, Beacon, PixelService, RunTimePriority, Status}
use Rattle.dms_codes.specs.declared.row_id.RowId.{RowId}
use Rattle.dms_codes.specs.Codes.{octets_of_activation, octets_of_checksum, IsActivation}
use Rattle.dms_mib.specs.Names.{below_dms, cell_name, column_number}
use Rattle.dms_centre_jobs.specs.declared.step.Step.{Step}
use Rattle.dms_centre_jobs.specs.declared.step.Step.TheVariants.{Opening, Opened, Filling, Validating, Polling, Comparing, Activating, Explaining}
use Rattle.dms_centre_jobs.specs.Job.{SettingsModel, PublicationModel, Work, Publishing}
use Rattle.dms_centre_jobs.specs.Steps.{code_of, row_of, cell, field, fields, bindings_of, request_of, last_number}
use Rattle.dms_centre_jobs.specs.Commands.{is_publishable}
use Rattle.dms_centre_jobs.specs.Requests.{AreSettings, IsWork, OfPublishing, OfShowing}
use Rattle.dms_centre_jobs.proofs.Checksums.{message_checksum_below}
use Rattle.dms_centre_jobs.proofs.Lengths.{length-element, length-number_element, length-binding, length-request}
use Rattle.dms_codes.specs.Limits.{longest_text, longest_owner, longest_community, has_community_size}
use Rattle.dms_wire_ber.specs.Limits.{longest_datagram}

-- ---- names

below_dms_below : (ns : List ℕ) → AllBelowBase (2 ^ 32) ns → AllBelowBase (2 ^ 32) (6 ∷ 1 ∷ 4 ∷ 1 ∷ 1206 ∷ 4 ∷ 2 ∷ 3 ∷ ns)
below_dms_below ns small =
    (omega arith, (omega arith, (omega arith, (omega arith, (omega arith, (omega arith, (omega arith, (omega arith, small))))))))

is_name : (ns : List ℕ) → AllBelowBase (2 ^ 32) ns → length ns ≤ 6 → IsNameInLimits (below_dms ns)
is_name ns small few = (omega arith, (λ low. omega arith), omega arith, below_dms_below ns small, omega (arith, few))

column_small : (column : Column) → column_number column < 2 ^ 32
column_small MemoryType = omega arith
column_small Number = omega arith
column_small MultiString = omega arith
column_small Owner = omega arith
column_small Crc = omega arith
column_small Beacon = omega arith
column_small PixelService = omega arith
column_small RunTimePriority = omega arith
column_small Status = omega arith

-- the values of what names a row
record IsRow (row : RowId) : Type 0 where
  memory : row.memory < 2 ^ 8
  number : row.number < 2 ^ 16

cell_is_name : (column : Column) (row : RowId) → IsRow row → IsNameInLimits (cell_name column row)
cell_is_name column row is =
    is_name (5 ∷ 8 ∷ 1 ∷ column_number column ∷ row.memory ∷ row.number ∷ [])
    (omega arith, (omega arith, (omega arith, (column_small column, (omega (arith, is.memory), (omega (arith, is.number), tt))))))
    (omega arith)

scalar_is_name : (number : ℕ) → number < 2 ^ 32 → IsNameInLimits (below_dms (6 ∷ number ∷ 0 ∷ []))
scalar_is_name number small = is_name (6 ∷ number ∷ 0 ∷ []) (omega arith, (small, (omega arith, tt))) (omega arith)

-- ---- bindings

-- bindings within the limits, of so many octets at most
record AreFine (bindings : List VarBind) (size : ℕ) : Type 0 where
  within : AreBindingsInLimits bindings
  room : length (flat_map binding_octets bindings) ≤ size

-- a value within the limits, of so many octets at most
record IsFine (value : ObjectValue) (size : ℕ) : Type 0 where
  within : IsValueInLimits value
  room : length (value_octets value) ≤ size

fine_null : IsFine null 4
fine_null = record { within = tt; room = length-element 5 [] (omega arith) }

fine_number : (n : ℕ) → n < 2 ^ 32 → IsFine (integer (pos n)) 13
fine_number n small = record { within = lt-ltb n (2 ^ 32) small; room = length-number_element n (omega (arith, small)) }

fine_octets : (octets : List ℕ) (size : ℕ) → AllBelowBase 256 octets → length octets ≤ size → size ≤ longest_text → IsFine (octet_string octets) (4 + size)
fine_octets octets size below few small = record {
  within = below;
  room = let e = length-element 4 octets (omega (arith, few, small)) in omega (arith, e, few);
}

fine_none : AreFine [] 0
fine_none = record { within = tt; room = omega arith }

-- a binding more
fine_more : (name : List ℕ) (value : ObjectValue) (bindings : List VarBind) (size others : ℕ) → IsNameInLimits name → length name ≤ 16 → IsFine value size
    → size ≤ 520 → AreFine bindings others → AreFine (record { name = name; value = value } ∷ bindings) (88 + size + others)
fine_more name value bindings size others is few fine small rest = record {
  within = (is, fine.within, rest.within);
  room =
      let b : VarBind = record { name = name; value = value } in
      let e = length-binding b is few (omega (arith, fine.room, small)) in
      omega (arith, e, fine.room, rest.room, length-append (binding_octets b) (flat_map binding_octets bindings));
}

larger : (bindings : List VarBind) (size more : ℕ) → AreFine bindings size → size ≤ more → AreFine bindings more
larger bindings size more fine h = record { within = fine.within; room = omega (arith, fine.room, h) }

fine_one : (name : List ℕ) (value : ObjectValue) (size : ℕ) → IsNameInLimits name → length name ≤ 16 → IsFine value size → size ≤ 520
    → AreFine (record { name = name; value = value } ∷ []) 1200
fine_one name value size is few fine small = larger _ (88 + size + 0) 1200 (fine_more name value [] size 0 is few fine small fine_none) (omega (arith, small))

-- ---- codes

below_all : (octets : List ℕ) → All (λ octet. octet < 2 ^ 8) octets → AllBelowBase 256 octets
below_all [] all = tt
below_all (octet ∷ octets) all = (All-head (λ octet. octet < 2 ^ 8) octet octets all, below_all octets (All-tail (λ octet. octet < 2 ^ 8) octet octets all))

checksum_below : (order : Order) (crc : ℕ) (after : List ℕ) → crc < 2 ^ 16 → AllBelowBase 256 after → AllBelowBase 256 (octets_of_checksum order crc ++ after)
checksum_below High crc after small below = (omega (arith, small), (omega arith, below))
checksum_below Swapped crc after small below = (omega arith, (omega (arith, small), below))

code_below : (order : Order) (code : Activation) → IsActivation code → AllBelowBase 256 (octets_of_activation order code)
code_below order code is = (
  omega (arith, is.minutes),
  (
    omega arith,
    (
      omega (arith, is.priority),
      (
        omega (arith, is.id.memory),
        (
          omega (arith, is.id.number),
          (
            omega arith,
            checksum_below order code.id.crc code.address is.id.crc (below_all code.address is.octets),
          ),
        ),
      ),
    ),
  ),
)

code_length : (order : Order) (code : Activation) → IsActivation code → length (octets_of_activation order code) ≤ 12
code_length High code is = omega (arith, is.size)
code_length Swapped code is = omega (arith, is.size)

fine_code : (order : Order) (code : Activation) → IsActivation code → IsFine (octet_string (octets_of_activation order code)) 16
fine_code order code is = fine_octets (octets_of_activation order code) 12 (code_below order code is) (code_length order code is) (omega arith)

-- ---- the work

pub is_code : (work : Work) → IsWork work → IsActivation (code_of work)
is_code w (OfPublishing p is good) = record {
  minutes = is.minutes;
  priority = is.priority;
  id = record { memory = is.memory; number = is.number; crc = message_checksum_below p.text p.beacon p.pixel };
  size = is.address.size;
  octets = is.address.octets;
}
is_code w (OfShowing code is) = is

is_row : (work : Work) → IsWork work → IsRow (row_of work)
is_row work is = record { memory = (is_code work is).id.memory; number = (is_code work is).id.number }

-- the lengths that a publication is taken with
record IsShort (p : PublicationModel) : Type 0 where
  text : length p.text ≤ longest_text
  owner : length p.owner ≤ longest_owner

is_short : (p : PublicationModel) → is_publishable p ≡ true → IsShort p
is_short p good = record { text = grind (arith, nat_tests, good); owner = grind (arith, nat_tests, good) }

-- ---- the bindings of each step

field_more : (work : Work) (column : Column) (value : ObjectValue) (bindings : List VarBind) (size others : ℕ) → IsWork work → IsFine value size → size ≤ 520
    → AreFine bindings others → AreFine (field work column value ∷ bindings) (88 + size + others)
field_more work column value bindings size others is fine small rest =
    fine_more (cell work column) value bindings size others (cell_is_name column (row_of work) (is_row work is)) (omega arith) fine small rest

fine_fields : (work : Work) → IsWork work → AreFine (fields work) 1200
fine_fields w (OfPublishing p is good) =
    let work : Work = Publishing p in
    let short = is_short p good in
    let publishing : IsWork work = OfPublishing p is good in
    let run_priority = field_more work RunTimePriority (integer (pos p.run_priority)) [] 13 0 publishing (fine_number p.run_priority (omega (arith, is.run_priority))) (omega arith) fine_none in
    let pixel = field_more work PixelService (integer (pos p.pixel)) _ 13 101 publishing (fine_number p.pixel (omega (arith, is.pixel))) (omega arith) run_priority in
    let beacon = field_more work Beacon (integer (pos p.beacon)) _ 13 202 publishing (fine_number p.beacon (omega (arith, is.beacon))) (omega arith) pixel in
    let owner = field_more work Owner (octet_string p.owner) _ 131 303 publishing (fine_octets p.owner longest_owner is.owner short.owner (omega arith)) (omega arith) beacon in
    let text = field_more work MultiString (octet_string p.text) _ 516 522 publishing (fine_octets p.text longest_text is.text short.text (omega arith)) (omega arith) owner in
    larger _ 1126 1200 text (omega arith)
fine_fields w (OfShowing code is) = record { within = tt; room = omega arith }

fine_bindings : (order : Order) (work : Work) (step : Step) → IsWork work → AreFine (bindings_of order work step) 1200
fine_bindings order work Opening is = fine_one _ _ 13 (cell_is_name Status (row_of work) (is_row work is)) (omega arith) (fine_number 6 (omega arith)) (omega arith)
fine_bindings order work Opened is = fine_one _ _ 4 (cell_is_name Status (row_of work) (is_row work is)) (omega arith) fine_null (omega arith)
fine_bindings order work Filling is = fine_fields work is
fine_bindings order work Validating is = fine_one _ _ 13 (cell_is_name Status (row_of work) (is_row work is)) (omega arith) (fine_number 7 (omega arith)) (omega arith)
fine_bindings order work Polling is = fine_one _ _ 4 (cell_is_name Status (row_of work) (is_row work is)) (omega arith) fine_null (omega arith)
fine_bindings order work Comparing is = fine_one _ _ 4 (cell_is_name Crc (row_of work) (is_row work is)) (omega arith) fine_null (omega arith)
fine_bindings order work Activating is = fine_one _ _ 16 (scalar_is_name 3 (omega arith)) (omega arith) (fine_code order (code_of work) (is_code work is)) (omega arith)
fine_bindings order work Explaining is = fine_one _ _ 4 (scalar_is_name 17 (omega arith)) (omega arith) fine_null (omega arith)

-- ---- the request

request_within : (settings : SettingsModel) (number : ℕ) (work : Work) (step : Step) → AreSettings settings → number ≤ last_number → IsWork work
    → IsMessageInLimits (request_of settings number work step)
unfolding request_of
request_within settings number work step fine few is = record {
  community = fine.octets;
  request = lt-ltb number (2 ^ 32) (omega (arith, few));
  status = refl;
  index = refl;
  bindings = (fine_bindings settings.order work step is).within;
}

community_few : (community : List ℕ) → has_community_size community ≡ true → length community ≤ longest_community
community_few community e = grind arith

pub request_fits : (settings : SettingsModel) (number : ℕ) (work : Work) (step : Step) → AreSettings settings → number ≤ last_number → IsWork work
    → length (canonical (request_of settings number work step)) ≤ longest_datagram
unfolding request_of
request_fits settings number work step fine few is =
    length-request (request_of settings number work step) number refl (omega (arith, few)) refl refl (community_few settings.community fine.size) (fine_bindings settings.order work step is).room

-- A request is read as it was meant.
pub request_reads : (settings : SettingsModel) (number : ℕ) (work : Work) (step : Step) → AreSettings settings → number ≤ last_number → IsWork work
    → message_of (canonical (request_of settings number work step)) ≡ Some (request_of settings number work step)
request_reads settings number work step fine few is =
    let m : SnmpMessage = request_of settings number work step in
    (read_is_spelled (canonical m) m).1
    (canonical_spells m (request_within settings number work step fine few is) (request_fits settings number work step fine few is))
