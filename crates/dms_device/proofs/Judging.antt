-- A Set's bindings, judged one after the other.
use Rattle.std.proofs.Common.{◌≡◌, ℕ, ◌+◌, ◌<◌, Bool, true, false, List, [], ◌∷◌, ◌++◌, get_or, length, take, find, Option, Some, None, refl, sym, ap, ◌∙◌, arith}
use Rattle.std.proofs.Math.Seq.{take-append_seam}
use Rattle.std.proofs.lemmas.List.{append_assoc, length-append}
use Rattle.std.specs.List.{list_any}
use Rattle.dms_wire.specs.Message.{VarBind}
use Rattle.dms_wire.specs.declared.error_status.ErrorStatus.{ErrorStatus}
use Rattle.dms_wire.specs.declared.error_status.ErrorStatus.TheVariants.{NoSuchName, BadValue, GenErr}
use Rattle.dms_sign_access.specs.MetNames.{is_among}
use Rattle.dms_device.specs.declared.access.ManagerAccess.{ManagerAccess}
use Rattle.dms_device.specs.Object.{DeviceObject, admits}
use Rattle.dms_device.specs.Objects.{has_name, rises}
use Rattle.dms_device.specs.Setting.{is_written, refusal_at, refused_or, refusal_after, refusal_of}
use Rattle.dms_device.proofs.Found.{HasNameAt, found_there, none_found}

-- ---- one binding

-- the object of a binding's name, and what may be written to it
pub record IsObjectOf (xs : List DeviceObject) (b : VarBind) (access : ManagerAccess) : Type 0 where
  pub object : DeviceObject
  pub found : find (has_name b.name) xs ≡ Some object
  pub access_is : access ≡ object.access

pub object_of : (xs : List DeviceObject) (b : VarBind) (access : ManagerAccess) (k : ℕ) (x : DeviceObject) → rises xs ≡ true → k < length xs
    → HasNameAt b.name xs k → x ≡ get_or xs k x → access ≡ x.access → IsObjectOf xs b access
object_of xs b access k x r lt found at is = record {
  object = x;
  found = found_there b.name xs k x r lt (found x) ∙ ap Some (sym at);
  access_is = is;
}

pub no_object : (xs : List DeviceObject) (may_write : Bool) (before : List VarBind) (b : VarBind) → list_any (has_name b.name) xs ≡ false
    → Some NoSuchName ≡ refusal_at xs may_write before b
no_object xs true before b none = rw (none_found (has_name b.name) xs none) refl
no_object xs false before b none = refl

pub not_to_be_set : (xs : List DeviceObject) (may_write : Bool) (before : List VarBind) (b : VarBind) (access : ManagerAccess) → IsObjectOf xs b access
    → is_written access ≡ false → Some NoSuchName ≡ refusal_at xs may_write before b
not_to_be_set xs true before b access is h = rw (is.found, ← is.access_is, h) refl
not_to_be_set xs false before b access is h = refl

pub not_admitted : (xs : List DeviceObject) (may_write : Bool) (before : List VarBind) (b : VarBind) (access : ManagerAccess) → IsObjectOf xs b access
    → may_write ≡ true → is_written access ≡ true → admits access b.value ≡ false → Some BadValue ≡ refusal_at xs may_write before b
not_admitted xs may_write before b access is may h g = rw (may, is.found, ← is.access_is, h, g) refl

pub given_before : (xs : List DeviceObject) (may_write : Bool) (before : List VarBind) (b : VarBind) (access : ManagerAccess) → IsObjectOf xs b access
    → may_write ≡ true → is_written access ≡ true → admits access b.value ≡ true → is_among b.name before ≡ true
    → Some GenErr ≡ refusal_at xs may_write before b
given_before xs may_write before b access is may h g m = rw (may, is.found, ← is.access_is, h, g, m) refl

pub not_refused : (xs : List DeviceObject) (may_write : Bool) (before : List VarBind) (b : VarBind) (access : ManagerAccess) → IsObjectOf xs b access
    → may_write ≡ true → is_written access ≡ true → admits access b.value ≡ true → is_among b.name before ≡ false
    → None ≡ refusal_at xs may_write before b
not_refused xs may_write before b access is may h g m = rw (may, is.found, ← is.access_is, h, g, m) refl

-- ---- one after the other

-- the bindings up to an index were judged, and none was refused
pub record HasJudged (xs : List DeviceObject) (may_write : Bool) (all : List VarBind) (index : ℕ) (rest : List VarBind) : Type 0 where
  pub done : List VarBind
  pub taken : take index all ≡ done
  pub whole : done ++ rest ≡ all
  pub count : length done ≡ index
  pub left : refusal_after xs may_write done rest ≡ refusal_of xs may_write all

pub judged_starts : (xs : List DeviceObject) (may_write : Bool) (all rest : List VarBind) → rest ≡ all → HasJudged xs may_write all 0 rest
judged_starts xs may_write all rest e = grind arith

-- the bindings up to the next one
pub one_more : (xs : List DeviceObject) (may_write : Bool) (all rest more : List VarBind) (index : ℕ) (b : VarBind)
    → HasJudged xs may_write all index rest → rest ≡ b ∷ more → take index all ++ b ∷ [] ≡ take (index + 1) all
one_more xs may_write all rest more index b is e =
    let done = is.done in
    let size : length (done ++ b ∷ []) ≡ index + 1 = let whole : length (done ++ b ∷ []) ≡ length done + 1 = length-append done (b ∷ []) in let c = is.count in omega arith in
    let whole : (done ++ b ∷ []) ++ more ≡ all = append_assoc done (b ∷ []) more ∙ ap (λ r. done ++ r) (sym e) ∙ is.whole in
    ap (λ d. d ++ b ∷ []) is.taken
    ∙ sym (take-append_seam (done ++ b ∷ []) more) ∙ ap (take (length (done ++ b ∷ []))) whole ∙ ap (λ n. take n all) size

-- what is found at a binding is what is found of all
at_next : (xs : List DeviceObject) (may_write : Bool) (all rest more : List VarBind) (index : ℕ) (b : VarBind) (o : Option ErrorStatus)
    → (is : HasJudged xs may_write all index rest) → rest ≡ b ∷ more → o ≡ refusal_at xs may_write (take index all) b
    → refused_or (index + 1) o (refusal_after xs may_write (is.done ++ b ∷ []) more) ≡ refusal_of xs may_write all
at_next xs may_write all rest more index b o is e at =
    let here : o ≡ refusal_at xs may_write is.done b = at ∙ ap (λ d. refusal_at xs may_write d b) is.taken in
    ap (λ (o : Option ErrorStatus). refused_or (index + 1) o (refusal_after xs may_write (is.done ++ b ∷ []) more)) here
    ∙ ap (λ (n : ℕ). refused_or (n + 1) (refusal_at xs may_write is.done b) (refusal_after xs may_write (is.done ++ b ∷ []) more)) (sym is.count)
    ∙ ap (refusal_after xs may_write is.done) (sym e) ∙ is.left

pub judged_more : (xs : List DeviceObject) (may_write : Bool) (all rest more : List VarBind) (index : ℕ) (b : VarBind)
    → HasJudged xs may_write all index rest → rest ≡ b ∷ more → None ≡ refusal_at xs may_write (take index all) b
    → HasJudged xs may_write all (index + 1) more
judged_more xs may_write all rest more index b is e none =
    let size : length (is.done ++ b ∷ []) ≡ index + 1 =
    let whole : length (is.done ++ b ∷ []) ≡ length is.done + 1 = length-append is.done (b ∷ []) in let c = is.count in omega arith
    in
    record {
      done = is.done ++ b ∷ [];
      taken = sym (one_more xs may_write all rest more index b is e) ∙ ap (λ d. d ++ b ∷ []) is.taken;
      whole = append_assoc is.done (b ∷ []) more ∙ ap (λ r. is.done ++ r) (sym e) ∙ is.whole;
      count = size;
      left = at_next xs may_write all rest more index b None is e none;
    }

pub judged_refused : (xs : List DeviceObject) (may_write : Bool) (all rest more : List VarBind) (index : ℕ) (b : VarBind) (status : ErrorStatus)
    → HasJudged xs may_write all index rest → rest ≡ b ∷ more → Some status ≡ refusal_at xs may_write (take index all) b
    → Some (record { index = index + 1; status = status }) ≡ refusal_of xs may_write all
judged_refused xs may_write all rest more index b status is e some = at_next xs may_write all rest more index b (Some status) is e some

pub judged_all : (xs : List DeviceObject) (may_write : Bool) (all rest : List VarBind) (index : ℕ)
    → HasJudged xs may_write all index rest → rest ≡ [] → None ≡ refusal_of xs may_write all
judged_all xs may_write all rest index is e = ap (refusal_after xs may_write is.done) (sym e) ∙ is.left
