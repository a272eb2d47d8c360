-- A walk over the bindings of a request that writes what it finds, and stops where nothing is found.
use Rattle.std.proofs.Common.{◌≡◌, ℕ, ◌+◌, Bool, false, cond, List, [], ◌∷◌, ◌++◌, map, length, Option, Some, refl, sym, ap, ◌∙◌, arith}
use Rattle.std.specs.Prelude.{is_none, unwrap_or}
use Rattle.std.specs.List.{position_from}
use Rattle.std.proofs.lemmas.List.{append_assoc}
use Rattle.dms_wire.specs.Message.{ObjectValue, VarBind}
use Rattle.dms_wire.specs.Written.{octets_of_bindings}
use Rattle.dms_mib_replies.specs.Replies.{has_no_value_by, with_value_by, is_last_by, next_after_by}

pub mapped_push : {X Y : Type 0} (f : X → Y) (xs : List X) (x : X) → map f (xs ++ x ∷ []) ≡ map f xs ++ f x ∷ []
mapped_push f [] x = refl
mapped_push f (y ∷ xs) x = ap (λ ys. f y ∷ ys) (mapped_push f xs x)

-- The bindings up to an index were found, and their octets are these.
pub record HasFound (test : VarBind → Bool) (choose : VarBind → VarBind) (all : List VarBind) (octets : Option (List ℕ)) (index : ℕ) (rest : List VarBind) : Type 0 where
  pub done : List VarBind
  pub whole : done ++ rest ≡ all
  pub written : octets ≡ octets_of_bindings (map choose done)
  pub none : position_from test (index + 1) rest ≡ position_from test 1 all
  pub count : index + length rest ≡ length all

passed : (test : VarBind → Bool) (i : ℕ) (b : VarBind) (rest : List VarBind) (t : Bool) → test b ≡ t → t ≡ false
    → position_from test i (b ∷ rest) ≡ position_from test (i + 1) rest
passed test i b rest t e f = ap (λ t. cond t (Some i) (position_from test (i + 1) rest)) (e ∙ f)

pub found_more : (test : VarBind → Bool) (choose : VarBind → VarBind) (all rest more : List VarBind) (octets new : Option (List ℕ)) (index : ℕ) (b chosen : VarBind)
    → HasFound test choose all octets index rest → rest ≡ b ∷ more → test b ≡ false → chosen ≡ choose b
    → ((bindings : List VarBind) → octets ≡ octets_of_bindings bindings → new ≡ octets_of_bindings (bindings ++ chosen ∷ []))
    → HasFound test choose all new (index + 1) more
found_more test choose all rest more octets new index b chosen has e passes is push =
    let count : index + length rest ≡ length all = has.count in
    let more_size : length rest ≡ length (b ∷ more) = ap length e in
    record {
      done = has.done ++ b ∷ [];
      whole = append_assoc has.done (b ∷ []) more ∙ ap (λ r. has.done ++ r) (sym e) ∙ has.whole;
      written = push (map choose has.done) has.written
          ∙ ap (λ c. octets_of_bindings (map choose has.done ++ c ∷ [])) is ∙ ap octets_of_bindings (sym (mapped_push choose has.done b));
      none = sym (passed test (index + 1) b more (test b) refl passes) ∙ ap (position_from test (index + 1)) (sym e) ∙ has.none;
      count = omega arith;
    }

-- ---- what is found for a name

pub value_there : (reads : List ℕ → Option ObjectValue) (b : VarBind) (v : ObjectValue) → Some v ≡ reads b.name → has_no_value_by reads b ≡ false
value_there reads b v e = ap is_none (sym e)

pub value_chosen : (reads : List ℕ → Option ObjectValue) (b : VarBind) (v : ObjectValue) → Some v ≡ reads b.name
    → record { name = b.name; value = v } ≡ with_value_by reads b
value_chosen reads b v e = ap (λ (o : Option ObjectValue). record { name = b.name; value = unwrap_or o b.value }) e

pub next_there : (follows : List ℕ → Option VarBind) (b found : VarBind) → Some found ≡ follows b.name → is_last_by follows b ≡ false
next_there follows b found e = ap is_none (sym e)

pub next_chosen : (follows : List ℕ → Option VarBind) (b : VarBind) (next : List ℕ) (v : ObjectValue) (name : List ℕ) → name ≡ next
    → Some (record { name = next; value = v }) ≡ follows b.name → record { name = name; value = v } ≡ next_after_by follows b
next_chosen follows b next v name is e = ap (λ name. record { name = name; value = v }) is ∙ ap (λ o. unwrap_or o b) e
