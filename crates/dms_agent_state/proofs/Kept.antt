-- What comes to objects leaves them such that they can be saved.
use Rattle.std.proofs.Common.{◌≡◌, ℕ, Bool, true, false, cond, List, [], ◌∷◌, map, filter, not, Option, Some, None, refl, sym, ap, subst, arith, inl, inr}
use Rattle.std.proofs.lemmas.Bool.{cases_Bool}
use Rattle.dms_text_exact.proofs.DigitLaws.{bytes_below}
use Rattle.dms_wire_ber.proofs.NameLimits.{name_within}
use Rattle.dms_wire_ber.specs.NameReading.{numbers_of}
use Rattle.dms_wire.specs.Message.{ObjectValue, VarBind, SnmpMessage, integer, octet_string, null, object_identifier, ip_address, counter, gauge, time_ticks, opaque}
use Rattle.dms_wire.specs.MessageOf.{message_of}
use Rattle.dms_wire.specs.Limits.{IsValueInLimits, AreBindingsInLimits}
use Rattle.dms_wire.proofs.LimitsLaws.{spelled_in_limits}
use Rattle.dms_wire.proofs.MessageOfLaws.{read_is_spelled}
use Rattle.dms_device.specs.declared.access.ManagerAccess.{ManagerAccess}
use Rattle.dms_device.specs.declared.access.ManagerAccess.TheVariants.{ReadOnly, Number, Octets}
use Rattle.dms_device.specs.Object.{DeviceObject, admits, object_fault, new_object}
use Rattle.dms_device.specs.Objects.{has_name, comes_after}
use Rattle.dms_device.specs.Publishing.{published, withdrawn}
use Rattle.dms_device.specs.Setting.{set_to, set_by_binding, written}
use Rattle.dms_device.specs.Taken.{told, told_first}
use Rattle.dms_device.proofs.Faultless.{faultless}
use Rattle.dms_agent.specs.declared.agent.Agent.{Agent}
use Rattle.dms_agent.specs.Received.{on_message_if, agent_received}
use Rattle.dms_agent.specs.Promises.{is_done, objects_after}
use Rattle.dms_agent.proofs.Objects.{objects_change}
use Rattle.dms_agent_state.specs.Alike.{IsSettable, CanBeSaved, CanAllBeSaved}

-- ---- objects that are made, published, withdrawn and told

pub made_kept : (octets : List ℕ) (value : ObjectValue) (access : ManagerAccess) → object_fault octets value access ≡ None → CanBeSaved (new_object octets value access)
made_kept octets value access none = record {
  name = name_within (numbers_of octets) octets (faultless octets value access none).name;
  settable = λ by. absurd cc;
  admitted = λ by. absurd cc;
}

pub published_kept : (xs : List DeviceObject) (o : DeviceObject) → CanAllBeSaved xs → CanBeSaved o → CanAllBeSaved (published xs o)
published_kept [] o all is = (is, tt)
published_kept (x ∷ xs) o all is =
    let more = published_kept xs o all.1 is in
    elim (comes_after o.name x) as (λ b. CanAllBeSaved (cond b (o ∷ x ∷ xs) (cond (has_name o.name x) (o ∷ xs) (x ∷ published xs o)))) [
      | true ↦ (is, all)
      | false ↦
          elim (has_name o.name x) as (λ b. CanAllBeSaved (cond b (o ∷ xs) (x ∷ published xs o))) [
            | true ↦ (is, all.1)
            | false ↦ (all.0, more)
          ]
    ]

filtered_kept : (p : DeviceObject → Bool) (xs : List DeviceObject) → CanAllBeSaved xs → CanAllBeSaved (filter p xs)
filtered_kept p [] all = tt
filtered_kept p (x ∷ xs) all =
    let more = filtered_kept p xs all.1 in
    elim (p x) as (λ b. CanAllBeSaved (cond b (x ∷ filter p xs) (filter p xs))) [ true ↦ (all.0, more) | false ↦ more ]

pub withdrawn_kept : (xs : List DeviceObject) (name : List ℕ) → CanAllBeSaved xs → CanAllBeSaved (withdrawn xs name)
withdrawn_kept xs name all = filtered_kept (λ object. not (has_name name object)) xs all

one_told : (x : DeviceObject) → CanBeSaved x → CanBeSaved (told x)
one_told x is = record { name = is.name; settable = is.settable; admitted = is.admitted }

pub told_kept : (xs : List DeviceObject) → CanAllBeSaved xs → CanAllBeSaved (map told xs)
told_kept [] all = tt
told_kept (x ∷ xs) all = (one_told x all.0, told_kept xs all.1)

pub first_told_kept : (xs : List DeviceObject) → CanAllBeSaved xs → CanAllBeSaved (told_first xs)
first_told_kept [] all = tt
first_told_kept (x ∷ xs) all =
    let more = first_told_kept xs all.1 in
    elim (x.is_set) as (λ b. CanAllBeSaved (cond b (told x ∷ xs) (x ∷ told_first xs))) [
      | true ↦ (one_told x all.0, all.1)
      | false ↦ (all.0, more)
    ]

-- ---- values that are written

-- a value that an access takes is a number or octets
settable_by : (access : ManagerAccess) (value : ObjectValue) → admits access value ≡ true → IsValueInLimits value → IsSettable value
settable_by access (integer z) e within = within
settable_by access (octet_string octets) e within = bytes_below octets within
settable_by ReadOnly null e within = absurd cc
settable_by ReadOnly (object_identifier numbers) e within = absurd cc
settable_by ReadOnly (ip_address octets) e within = absurd cc
settable_by ReadOnly (counter n) e within = absurd cc
settable_by ReadOnly (gauge n) e within = absurd cc
settable_by ReadOnly (time_ticks n) e within = absurd cc
settable_by ReadOnly (opaque octets) e within = absurd cc
settable_by (Number least most) null e within = absurd cc
settable_by (Number least most) (object_identifier numbers) e within = absurd cc
settable_by (Number least most) (ip_address octets) e within = absurd cc
settable_by (Number least most) (counter n) e within = absurd cc
settable_by (Number least most) (gauge n) e within = absurd cc
settable_by (Number least most) (time_ticks n) e within = absurd cc
settable_by (Number least most) (opaque octets) e within = absurd cc
settable_by (Octets least most) null e within = absurd cc
settable_by (Octets least most) (object_identifier numbers) e within = absurd cc
settable_by (Octets least most) (ip_address octets) e within = absurd cc
settable_by (Octets least most) (counter n) e within = absurd cc
settable_by (Octets least most) (gauge n) e within = absurd cc
settable_by (Octets least most) (time_ticks n) e within = absurd cc
settable_by (Octets least most) (opaque octets) e within = absurd cc

one_set : (x : DeviceObject) (value : ObjectValue) → IsValueInLimits value → CanBeSaved x → CanBeSaved (set_to x value)
one_set x value within is =
    elim (cases_Bool (admits x.access value)) [
      | inl takes ↦
          subst (λ t. CanBeSaved (cond t (record x { value = value; is_set = true; by_manager = true }) x)) (sym takes)
          (record { name = is.name; settable = λ by. settable_by x.access value takes within; admitted = λ by. takes })
      | inr other ↦ subst (λ t. CanBeSaved (cond t (record x { value = value; is_set = true; by_manager = true }) x)) (sym other) is
    ]

one_written : (b : VarBind) (x : DeviceObject) → IsValueInLimits b.value → CanBeSaved x → CanBeSaved (set_by_binding b x)
one_written b x within is =
    let set = one_set x b.value within is in
    elim (has_name b.name x) as (λ t. CanBeSaved (cond t (set_to x b.value) x)) [ true ↦ set | false ↦ is ]

each_written : (b : VarBind) (xs : List DeviceObject) → IsValueInLimits b.value → CanAllBeSaved xs → CanAllBeSaved (map (set_by_binding b) xs)
each_written b [] within all = tt
each_written b (x ∷ xs) within all = (one_written b x within all.0, each_written b xs within all.1)

pub written_kept : (xs : List DeviceObject) (bindings : List VarBind) → AreBindingsInLimits bindings → CanAllBeSaved xs → CanAllBeSaved (written xs bindings)
written_kept xs [] within all = all
written_kept xs (b ∷ more) within all = written_kept (map (set_by_binding b) xs) more within.2 (each_written b xs within.1 all)

-- ---- a datagram

after_message : (a : Agent) (m : SnmpMessage) → AreBindingsInLimits m.bindings → CanAllBeSaved a.device → CanAllBeSaved (objects_after a m)
after_message a m within all =
    let set = written_kept a.device m.bindings within all in
    elim (is_done a m) as (λ t. CanAllBeSaved (cond t (written a.device m.bindings) a.device)) [ true ↦ set | false ↦ all ]

by_message : (a : Agent) (datagram : List ℕ) (o : Option SnmpMessage) → message_of datagram ≡ o → CanAllBeSaved a.device → CanAllBeSaved (agent_received a datagram).after.device
unfolding agent_received
by_message a datagram None e all = subst CanAllBeSaved (sym (ap (λ o. (on_message_if a o).after.device) e)) all
by_message a datagram (Some m) e all =
    let within = (spelled_in_limits m datagram ((read_is_spelled datagram m).0 e)).bindings in
    subst CanAllBeSaved (sym (objects_change a m datagram e)) (after_message a m within all)

pub received_kept : (a : Agent) (datagram : List ℕ) → CanAllBeSaved a.device → CanAllBeSaved (agent_received a datagram).after.device
received_kept a datagram all = by_message a datagram (message_of datagram) refl all
