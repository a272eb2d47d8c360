use Rattle.dms_wire_ber.proofs.integer.+put_inverted.Given as goal

abbrev pub decreases-put_inverted : goal.decreases-put_inverted
decreases-put_inverted l = l.number
