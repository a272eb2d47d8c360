-- The walk over a small sign, computed.
use Rattle.std.proofs.Common.{◌≡◌, false, [], ◌∷◌, Some, None, refl}
use Rattle.dms_codes.specs.declared.codes.Order.TheVariants.{High}
use Rattle.dms_mib.specs.declared.column.Column.TheVariants.{Number, MultiString, Status}
use Rattle.dms_mib.specs.Names.{below_dms}
use Rattle.dms_table.specs.Rows.{TableModel, unused}
use Rattle.dms_mib.specs.declared.scalar.Scalar.TheVariants.{SignHeightPixels, ValidateMessageError, ActivateMessage, CommunicationsLossMessage, ActivateErrorMsgCode}
use Rattle.dms_mib.specs.declared.instance.Instance.TheVariants.{Scalar, Cell}
use Rattle.dms_mib.specs.Names.{name_of}
use Rattle.dms_mib_instances.specs.Objects.{instances, instance_named, next_instance}

-- two changeable rows, a volatile one and a permanent one
abbrev pub table : TableModel
table = record { permanent = unused ∷ []; changeable = unused ∷ unused ∷ []; volatile = unused ∷ []; services = record { beacon = false; pixel = false }; order = High }

-- before all
pub first_of_all : next_instance table [] ≡ Some (Scalar SignHeightPixels)
unfolding instances name_of
first_of_all = refl

-- after dmsMessageStatus.7.255 comes dmsValidateMessageError.0
pub after_the_table : next_instance table (name_of (Cell Status (record { memory = 7; number = 255 }))) ≡ Some (Scalar ValidateMessageError)
unfolding instances name_of
after_the_table = refl

-- after dmsMessageStatus.2.1 comes dmsMessageStatus.3.1
pub after_permanent_rows : next_instance table (below_dms (5 ∷ 8 ∷ 1 ∷ 9 ∷ 2 ∷ 1 ∷ [])) ≡ Some (Cell Status (record { memory = 3; number = 1 }))
unfolding instances name_of
after_permanent_rows = refl

-- after dmsMessageMemoryType.7.255 comes dmsMessageNumber.2.1
pub after_a_column : next_instance table (below_dms (5 ∷ 8 ∷ 1 ∷ 1 ∷ 7 ∷ 255 ∷ [])) ≡ Some (Cell Number (record { memory = 2; number = 1 }))
unfolding instances name_of
after_a_column = refl

-- after dmsShortPowerLossTime.0 comes dmsCommunicationsLossMessage.0, since this sign has no object 11
pub past_a_gap : next_instance table (below_dms (6 ∷ 10 ∷ 0 ∷ [])) ≡ Some (Scalar CommunicationsLossMessage)
unfolding instances name_of
past_a_gap = refl

-- the name of an object without an instance comes before that of its instance
pub after_an_object : next_instance table (below_dms (6 ∷ 3 ∷ [])) ≡ Some (Scalar ActivateMessage)
unfolding instances name_of
after_an_object = refl

pub after_the_last : next_instance table (name_of (Scalar ActivateErrorMsgCode)) ≡ None
unfolding instances name_of
after_the_last = refl

-- the second changeable row is there, a third is not
pub there : instance_named table (below_dms (5 ∷ 8 ∷ 1 ∷ 3 ∷ 3 ∷ 2 ∷ [])) ≡ Some (Cell MultiString (record { memory = 3; number = 2 }))
unfolding instances name_of
there = refl

pub not_there : instance_named table (below_dms (5 ∷ 8 ∷ 1 ∷ 3 ∷ 3 ∷ 3 ∷ [])) ≡ None
unfolding instances name_of
not_there = refl

-- row 0 is none
pub no_row_0 : instance_named table (below_dms (5 ∷ 8 ∷ 1 ∷ 3 ∷ 3 ∷ 0 ∷ [])) ≡ None
unfolding instances name_of
no_row_0 = refl

-- an object is named by its instance alone
pub no_instance : instance_named table (below_dms (6 ∷ 3 ∷ [])) ≡ None
unfolding instances name_of
no_instance = refl
