-- A text that a buffer has room for.
use Rattle.dms_text_filling.proofs.Laid.{laid_whole}

pub ruleset whole = (laid_whole)
