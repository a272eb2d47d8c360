use Rattle.std.proofs.Common.{◌≡◌, Some, subst, refl}
use Rattle.dms_codes.specs.declared.status.Status.{Status}
use Rattle.dms_codes.specs.declared.status.Status.TheVariants.{NotUsed, Modifying, Validating, Valid, Error}
use Rattle.dms_codes.specs.declared.status.Ask.{Ask}
use Rattle.dms_codes.specs.declared.status.Ask.TheVariants as asks
use Rattle.dms_codes.specs.Status.{StatusStep, next_status, unused_modify, unused_release, modifying_modify, modifying_validate, modifying_release, valid_modify, valid_validate, valid_release, error_modify, error_validate, error_release}
use Rattle.dms_codes.proofs.laws.next_statuses_are_the_table.Goals as goal

same_next : (status : Status) (ask : Ask) (given next : Status) → StatusStep status ask given → Some given ≡ Some next → StatusStep status ask next
same_next status ask given next entry e = let same : given ≡ next = cc in subst (StatusStep status ask) same entry

-- what the function gives has an entry
entry_of : (status : Status) (ask : Ask) (next : Status) → next_status status ask ≡ Some next → StatusStep status ask next
entry_of NotUsed asks.Modify next e = same_next NotUsed asks.Modify Modifying next unused_modify e
entry_of NotUsed asks.Validate next e = cc
entry_of NotUsed asks.NotUsed next e = same_next NotUsed asks.NotUsed NotUsed next unused_release e
entry_of Validating ask next e = cc
entry_of Modifying asks.Modify next e = same_next Modifying asks.Modify Modifying next modifying_modify e
entry_of Modifying asks.Validate next e = same_next Modifying asks.Validate Validating next modifying_validate e
entry_of Modifying asks.NotUsed next e = same_next Modifying asks.NotUsed NotUsed next modifying_release e
entry_of Valid asks.Modify next e = same_next Valid asks.Modify Modifying next valid_modify e
entry_of Valid asks.Validate next e = same_next Valid asks.Validate Validating next valid_validate e
entry_of Valid asks.NotUsed next e = same_next Valid asks.NotUsed NotUsed next valid_release e
entry_of Error asks.Modify next e = same_next Error asks.Modify Modifying next error_modify e
entry_of Error asks.Validate next e = same_next Error asks.Validate Validating next error_validate e
entry_of Error asks.NotUsed next e = same_next Error asks.NotUsed NotUsed next error_release e

-- an entry is what the function gives
given_by : (status : Status) (ask : Ask) (next : Status) → StatusStep status ask next → next_status status ask ≡ Some next
given_by _ _ _ unused_modify = refl
given_by _ _ _ unused_release = refl
given_by _ _ _ modifying_modify = refl
given_by _ _ _ modifying_validate = refl
given_by _ _ _ modifying_release = refl
given_by _ _ _ valid_modify = refl
given_by _ _ _ valid_validate = refl
given_by _ _ _ valid_release = refl
given_by _ _ _ error_modify = refl
given_by _ _ _ error_validate = refl
given_by _ _ _ error_release = refl

pub returns : goal.returns
returns c = λ status ask next. (entry_of status ask next, given_by status ask next)
