-- `none` puts null into a place.
use Rattle.std.proofs.Common.{◌≡◌, List, [], ◌∷◌, ◌++◌, refl, sym, subst, lit<}
use mir.Val.{Val, has_ty}
use base.Logic.{SProp, ent, emp, id⊢}
use base.Fml.{ftrue}
use prog.Wp.{WpFn}
use types.Kit.{‵, raw, ◌⊛◌, ◌$◌, ◌∵◌, !, qed, by, move, keep, split, join, fsplit, fjoin, fpack, feq_i, suffices, use0}
use types.Run.{lit, no_more, and_then, returns, enter}
use types.ByLocal.{alloc_all, pass_all, free_all, look_at, get, sets}
use types.Part.{agg}
use contract.Monad.{fact, fact_i}
use contract.Running.{tables}
use denote.Builtin.{RawPtr}
use denote.Exit.{yes}
use denote.RattleType.{Valss, owns}
use denote.RawPtr.{null_ptr, ptr_val}
use denote.Param.{layout}
use denote.Signature.{types_at, plain}
use denote.Steps.{nothing}
use denote.Struct.Struct.{within}
use denote.Struct.Owning.{shape, to}
use denote.Triple.Walked.{Stays, stay_dropped, walk_of, Goes-dropped}
use Rattle.core.proofs.alloc.Calls.{handle_tells}
use Rattle.core.proofs.cell.Inside.{Good}
use Rattle.std_alloc.proofs.ResultValues.{and_tt}
use Rattle.std.proofs.raw_atomic.Walks.{proved_at, leaves}
use Rattle.std.specs.Prelude.{Option, None}
use Rattle.dms_agent_watched.specs.contracts.watched.Watched.{the_row as R}
use Rattle.wisangub_c_places.specs.contracts.sign_place.SignPlace.{the_row as P, the_type}
use Rattle.wisangub_c_places.proofs.Heap.{Z, al}
use Rattle.wisangub_c_places.proofs.Values.{both}
use Rattle.wisangub_c_places.specs.contracts.sign_place.SignPlace.none.{ended, clauses}
use Rattle.wisangub_c_places.specs.contracts.sign_place.SignPlace.none.Key.{name as #self}
use Rattle.wisangub_c_places.proofs.sign_place.SignPlace.none.Statement.{statement}
use Rattle.wisangub_c_places.proofs.sign_place.SignPlace.none.Code as code

abbrev nothing_there : Option R.Denot
nothing_there = None

abbrev stayed : Stays ended.signature.params ended.kept
stayed = (stay_dropped (plain (λ _. Z)) yes, tt)

pub none_spec : {M : Type 1} → statement M
none_spec 𝓤 𝓛 𝓜 𝓡 wired =
    let 𝓣 = tables 𝓤 𝓛.H 𝓜 𝓡 𝓡.env in let c = clauses 𝓛 𝓜.mem 𝓡.returns in let fn = code.function in
    proved_at 𝓛 ended stayed c 𝓜 𝓡 (Goes-dropped 𝓛 0 (plain (λ _. Z)) yes (λ κs x f. refl), tt) #self fn (code.unfolded 𝓤 𝓛.H 𝓜 𝓡 wired) (λ z are.
    let κs = z.0.0 in let a = z.0.3.0 in let Post : Val → SProp 𝓤 = (walk_of 𝓛 ended stayed c).post z in let Run : List Val → SProp 𝓤 = λ ws. WpFn 𝓤 𝓛.H 𝓣.C 𝓣.Λ fn ws Post in
    qed 𝓛 ((‵ ftrue ⊛ ‵ (owns (types_at ended.signature.params κs) z.0.3 z.0.4)) ∷ raw ((c κs z.0.3).requires z.1) ∷ []) ∵ split ! $ move ! (1 ∷ []) $ fsplit ! $
    handle_tells al ! a z.0.4.0 (λ h is fits.
    let w : Val = both (ptr_val null_ptr) h in let d : P.Denot = record { at = null_ptr; alloc = a; value = None } in let typed : Good (layout P) w = (and_tt (has_ty (layout Z) h) fits.0, (record { fits = lit< tt }, (fits.1, tt))) in
    -- [the allocator; nothing; the tokens; the requires]
    nothing ! $ fpack ! (null_ptr ≡ null_ptr) (λ _. ftrue) refl $ nothing ! $ move ! (2 ∷ 0 ∷ []) $ fjoin ! $
    feq_i ! (List Val) (ptr_val null_ptr ∷ []) (ptr_val null_ptr ∷ []) refl $ fjoin ! $ feq_i ! (List Val) (w ∷ []) (w ∷ []) refl $ fjoin ! $
    fpack ! (Valss (RawPtr ∷ Z ∷ [])) (within (shape the_type) (to the_type d) (w ∷ [])) (ptr_val null_ptr ∷ [], (h ∷ [], tt)) $ fjoin ! $
    use0 𝓛 (raw (fact 𝓤 (null_ptr ≡ null_ptr))) (fact_i 𝓤 (null_ptr ≡ null_ptr) (emp 𝓤) refl) $ use0 𝓛 (raw (fact 𝓤 (nothing_there ≡ None))) (fact_i 𝓤 (nothing_there ≡ None) (emp 𝓤) refl) $ join ! $ nothing ! $ nothing ! $ fjoin ! $
    suffices ! (Run (h ∷ [])) (subst (λ (us : List Val). ent 𝓤 (Run (h ∷ [])) (Run us)) (sym (λ i. is i ++ [])) (id⊢ 𝓤 (Run (h ∷ [])))) $
    enter ! 𝓣.C 𝓣.Λ fn (h ∷ []) Post $ alloc_all ! (λ l. pass_all ! refl (fits, tt) $
    sets ! (agg ! (and_then ! (lit ! tt) (and_then ! (get ! refl) (no_more !)))) refl typed $
    returns ! (look_at ! 0 refl) $ free_all ! refl $ keep ! (4 ∷ 0 ∷ 2 ∷ 1 ∷ []) $ by ! (leaves 𝓛 ended stayed c z w d (tt, tt) (tt, tt)))))
