-- A script as text spells its events on the bench sign.
use Rattle.std.proofs.Common.{◌≡◌, ℕ, ◌≤◌, ◌<◌, ◌^◌, List, [], ◌∷◌, ◌++◌, length, Some, refl, arith}
use Rattle.std.specs.Prelude.{codes}
use Rattle.hex.specs.Hex.{decode_pairs}
use Rattle.dms_text.specs.Reading.{number_of}
use Rattle.dms_text.proofs.NumberLaws.{number_found}
use Rattle.dms_codes.specs.declared.codes.Order.TheVariants.{High}
use Rattle.dms_world.specs.Event.{EventModel, sign_tick, centre_tick, to_sign, to_centre}
use Rattle.dms_text_forms.specs.Fields.{SpellsFourOctets, SpellsAddressPart}
use Rattle.dms_replay.specs.EventLine.{SpellsEvent}
use Rattle.dms_replay.specs.Script.{SpellsScript, the_bench}
use Rattle.dms_replay_laws.proofs.BenchWorld.{publish}
use Rattle.dms_sign_text.proofs.BenchValue.{bench_sign}
use Rattle.dms_sign_text.proofs.BenchText.{spells_octet, spells_decimal, spells_the_bench_sign}

-- comments and empty lines say nothing, a carriage return before a newline is no part of its line, and the last newline may be missing
script : List ℕ
script =
    codes "# a message for the office\n" ++ codes "bench\r\n" ++ codes "\n" ++ codes "publish 3 1 41 - 0 0 200 65535 255 192.0.2.1\n"
    ++ codes "to-sign 0\n" ++ codes "to-centre 0000000000\n" ++ codes "sign-tick\n" ++ codes "centre-tick"

events : List EventModel
events = publish (codes "A") 255 (192 ∷ 0 ∷ 2 ∷ 1 ∷ []) ∷ to_sign 0 ∷ to_centre 0 ∷ sign_tick ∷ centre_tick ∷ []

part : (number : ℕ) (word : List ℕ) → number_of 10 3 word ≡ Some number → number ≤ 255 → SpellsAddressPart number word
part number word found small = record { spelled = number_found 10 3 number word found; small = small }

place : (number : ℕ) (word : List ℕ) → number_of 10 10 word ≡ Some number → number < 2 ^ 32 → SpellsFourOctets number word
place number word found small = record { spelled = number_found 10 10 number word found; small = small }

spells_publish : SpellsEvent High (publish (codes "A") 255 (192 ∷ 0 ∷ 2 ∷ 1 ∷ [])) (codes "publish 3 1 41 - 0 0 200 65535 255 192.0.2.1")
unfolding number_of decode_pairs
spells_publish = record {
  memory_word = codes "3";
  number_word = codes "1";
  text_word = codes "41";
  owner_word = codes "-";
  beacon_word = codes "0";
  pixel_word = codes "0";
  run_word = codes "200";
  minutes_word = codes "65535";
  priority_word = codes "255";
  address_word = codes "192.0.2.1";
  words_are = refl;
  memory = spells_octet 3 (codes "3") refl (omega arith);
  number = spells_decimal 0 65535 1 (codes "1") refl (omega arith) (omega arith);
  text = refl;
  owner = refl;
  beacon = spells_octet 0 (codes "0") refl (omega arith);
  pixel = spells_octet 0 (codes "0") refl (omega arith);
  run_priority = spells_octet 200 (codes "200") refl (omega arith);
  minutes = spells_decimal 0 65535 65535 (codes "65535") refl (omega arith) (omega arith);
  priority = spells_octet 255 (codes "255") refl (omega arith);
  address = record {
    four = refl;
    parts = (
      part 192 (codes "192") refl (omega arith),
      (part 0 (codes "0") refl (omega arith), (part 2 (codes "2") refl (omega arith), (part 1 (codes "1") refl (omega arith), refl))),
    );
  };
}

spells_to_sign : SpellsEvent High (to_sign 0) (codes "to-sign 0")
unfolding number_of
spells_to_sign = record { word = codes "0"; words_are = refl; spelled = place 0 (codes "0") refl (omega arith) }

spells_to_centre : SpellsEvent High (to_centre 0) (codes "to-centre 0000000000")
unfolding number_of
spells_to_centre = record { word = codes "0000000000"; words_are = refl; spelled = place 0 (codes "0000000000") refl (omega arith) }

short : length script ≤ 1048576
unfolding script
short = omega arith

spells_the_script : SpellsScript script bench_sign events
unfolding script events
spells_the_script = record {
  short = short;
  sign_lines = codes "bench" ∷ [];
  event_lines =
      codes "publish 3 1 41 - 0 0 200 65535 255 192.0.2.1" ∷ codes "to-sign 0" ∷ codes "to-centre 0000000000" ∷ codes "sign-tick"
      ∷ codes "centre-tick" ∷ [];
  lines_are = refl;
  names = the_bench bench_sign spells_the_bench_sign;
  spelled = (spells_publish, (spells_to_sign, (spells_to_centre, (refl, (refl, refl)))));
}
