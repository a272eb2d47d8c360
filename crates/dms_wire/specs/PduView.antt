-- What the code's PDUs say.
use Rattle.dms_wire.specs.declared.message.PduFields.{PduFields}
use Rattle.dms_wire.specs.Reading.{Numbered}

abbrev pub numbered : PduFields → Numbered
numbered p = record { request = p.request; status = p.status; index = p.index; bindings = p.binds }
