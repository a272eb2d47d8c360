-- The bench sign as a value.
use Rattle.std.proofs.Common.{true, false, [], ◌∷◌}
use Rattle.std.specs.Prelude.{codes}
use Rattle.dms_face.proofs.Bench.{bench}
use Rattle.dms_codes.specs.declared.codes.Order.TheVariants.{High}
use Rattle.dms_codes.specs.declared.status.Status.TheVariants.{Valid}
use Rattle.dms_table.specs.Rows.{unused}
use Rattle.dms_sign_text.specs.Description.{Description}

abbrev pub bench_sign : Description
bench_sign = record {
  config = record { face = bench; reader = codes "public"; writer = codes "admin" };
  table = record {
    permanent = record { text = codes "B"; owner = []; beacon = 0; pixel = 0; priority = 100; status = Valid } ∷ [];
    changeable = unused ∷ unused ∷ [];
    volatile = unused ∷ [];
    services = record { beacon = true; pixel = false };
    order = High;
  };
  first = 1;
}
