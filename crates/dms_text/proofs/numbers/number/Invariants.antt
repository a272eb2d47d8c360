use Rattle.dms_text.proofs.DigitsRead.{HasRead}
use Rattle.dms_text.proofs.numbers.number.Given as goal

abbrev pub invariant-loop-octet : goal.invariant-loop-octet
invariant-loop-octet l = HasRead l.base l.octet-index l.number l.word
