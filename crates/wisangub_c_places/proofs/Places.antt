-- What a place holds: nothing at null, or a box whose pointer may be compared with null.
use Rattle.std.proofs.Common.{◌≡◌, ℕ, List, ◌∷◌, refl}
use seplogic.Ra.Ura.{Ura}
use mir.Raw.{raw as bare}
use base.Logic.{ent, guard, via, fst∗, snd∗, never, guard_i}
use base.Fml.{Fml}
use types.Logic.{Logic, sem}
use types.Kit.{Item, Goal, Seq, ‵, given, ◌$◌, drop, fpick, learn, use1}
use contract.Monad.{fact_use}
use denote.RattleType.{RattleType}
use denote.Memory.{lone}
use denote.RawPtr.{Ptr, block_ptr, null_ptr, lies_at, Testable, in_a_block}
use base.Fraction.{full_share}
use Rattle.std.specs.Prelude.{Option, Some, None}
use Rattle.std.specs.declared.alloc.Global.{Global}
use Rattle.std.specs.contracts.impls.GlobalAllocator.TheImpl.{ghosts}
use Rattle.std.proofs.GlobalToken.{dealloc_token-Testable}
use Rattle.std_alloc.specs.Box.Ownership.{box_owns}
use Rattle.wisangub_c_places.specs.Place.{held}

module _ (R : RattleType) (a : Global) where
  abbrev pub boxed : Ptr → R.Denot → Fml
  boxed = box_owns (ghosts.dealloc_token a) R

  module _ {M : Type 1} {𝓤 : Ura M} (𝓛 : Logic 𝓤) where
    pub tested : (p : Ptr) (x : R.Denot) → ent 𝓤 (sem 𝓛 (boxed p x)) (guard 𝓤 (Testable p) (sem 𝓛 (boxed p x)))
    tested p x =
        fact_use 𝓤 (Testable p)
        (via 𝓤 _ (snd∗ 𝓤 (sem 𝓛 (lies_at R full_share p x)) (sem 𝓛 (ghosts.dealloc_token a (bare (lone R.mir)) p))) (dealloc_token-Testable 𝓛 a (bare (lone R.mir)) p))
        (guard_i 𝓤 (Testable p) (sem 𝓛 (boxed p x)))

  module _ {M : Type 1} {𝓤 : Ura M} {𝓛 : Logic 𝓤} {K : Type 0} {Γ : List (Item 𝓤)} {G : Goal 𝓤 𝓛.H} where
    pub either_held : K → (p : Ptr) (s : Option R.Denot) → (s ≡ None → p ≡ null_ptr → Seq K 𝓛 Γ G)
        → ((b o : ℕ) (x : R.Denot) → s ≡ Some x → p ≡ block_ptr b o → Testable (block_ptr b o) → Seq K 𝓛 (‵ (boxed (block_ptr b o) x) ∷ Γ) G)
        → Seq K 𝓛 (‵ (held (ghosts.dealloc_token a) R p s) ∷ Γ) G
    either_held t p None none one = fpick t (λ e. drop t $ none refl e)
    either_held t p (Some x) none one =
        in_a_block t p (λ q. boxed q x) (fst∗ 𝓤 (never 𝓤) (sem 𝓛 (ghosts.dealloc_token a (bare (lone R.mir)) null_ptr))) (λ b o e.
        use1 𝓛 (given (Testable (block_ptr b o)) (‵ (boxed (block_ptr b o) x))) (tested 𝓛 (block_ptr b o) x) $ learn t (λ u. one b o x refl e u))
