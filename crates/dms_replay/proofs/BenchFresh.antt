-- The bench sign and its centre are a fresh world, so the laws on fresh worlds speak of it.
use Rattle.std.proofs.Common.{refl, arith}
use Rattle.std.specs.Prelude.{codes}
use Rattle.std.specs.Int.Digits.{AllBelowBase}
use Rattle.std.proofs.lemmas.List.Elements.{All-from_recursion}
use Rattle.dms_table.specs.Rows.{RowModel}
use Rattle.dms_sign.specs.InRange.{IsMadeOfOctets}
use Rattle.dms_world.specs.World.{IsFresh}
use Rattle.dms_replay.specs.Script.{beginning_of}
use Rattle.dms_sign_text.proofs.BenchValue.{bench_sign}
use Rattle.dms_sign_text.proofs.BenchText.{can_be_made}

reader_octets : AllBelowBase 256 (codes "public")
reader_octets = (omega arith, (omega arith, (omega arith, (omega arith, (omega arith, (omega arith, tt))))))

writer_octets : AllBelowBase 256 (codes "admin")
writer_octets = (omega arith, (omega arith, (omega arith, (omega arith, (omega arith, tt)))))

made_of_octets : IsMadeOfOctets bench_sign.config bench_sign.table
made_of_octets = record {
  reader = reader_octets;
  writer = writer_octets;
  defaults = record {
    background = omega arith;
    foreground = omega arith;
    flash_on = omega arith;
    flash_off = omega arith;
    font = omega arith;
    line = omega arith;
    page = omega arith;
    on = omega arith;
    off = omega arith;
  };
  texts = All-from_recursion (λ (row : RowModel). AllBelowBase 256 row.text) bench_sign.table.permanent ((omega arith, tt), tt);
  owners = All-from_recursion (λ (row : RowModel). AllBelowBase 256 row.owner) bench_sign.table.permanent (tt, tt);
}

pub bench_is_fresh : IsFresh (beginning_of bench_sign)
bench_is_fresh = record {
  config = bench_sign.config;
  table = bench_sign.table;
  settings = record { community = bench_sign.config.writer; order = bench_sign.table.order };
  first = bench_sign.first;
  can_be_made = can_be_made;
  made_of_octets = made_of_octets;
  are_settings = record { size = refl; octets = writer_octets };
  is_beginning = refl;
}
