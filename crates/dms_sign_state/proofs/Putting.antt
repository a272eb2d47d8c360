-- Words put into a buffer, each behind a space.
use Rattle.std.proofs.Common.{ℕ, List, ◌++◌, codes, sym, subst, append_assoc}
use Rattle.dms_text_filling.specs.Filling.{Puts}
use Rattle.dms_text_filling.proofs.Parts.{two}

-- a word behind what was put before it
pub word : {a b before middle after : List ℕ} {from between to : ℕ} → Puts a from before between middle → Puts (codes " " ++ b) between middle to after
    → Puts (a ++ codes " " ++ b) from before to after
word {a} {b} {before} {middle} {after} {from} {between} {to} one other =
    subst (λ octets. Puts octets from before to after) (sym (append_assoc a (codes " ") b)) (two one other)
