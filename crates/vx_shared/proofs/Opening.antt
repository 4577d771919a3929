-- The steps by which a walk opens the count of the block at c, and shuts it. Assumes `Logic`.
--     box, Shuts      the invariant at the block c and the value x, and the right to shut it
--     enters, shuts_at, ends      [the count's cell; what is beside it; the share; the right to shut];  it is shut at another count;  or for good
--     lent_out, lent_back      what a `&` holds gives [a share of ν's token; the invariant; what is seen; the way back].        owner_made      it goes back, and there is another owner
use mathlib.Core.Path.{◌≡◌, refl, sym}
use mathlib.Core.Bool.{Bool}
use mathlib.Core.List.{List, [], ◌∷◌}
use Prim.Native.Nat.{ℕ, ◌+◌, ◌<◌, ◌^◌}
use seplogic.Ra.Ura.{Ura}
use base.Fraction.{full_share}
use base.Share
use base.Logic.{id⊢, never}
use base.Fml.{Lft, Share, Fml, fat, fdead, fobor, flft, ftok}
use base.Mask.{every}
use mir.Syntax.{w64, ty_int}
use mir.Val.{vint}
use types.Logic.{Logic}
use types.Kit.{Goal, Soaks, Seq, Step, Item, step, ‵, raw, ◌⊛◌, some, given, later, ◌$◌, move, drop, rewrite, use1, use2, use3, pick, learn, split, await, fjoin3, fpack, fpick, fsplit3}
use types.Na.{na_inv_dup}
use types.Run.{well_typed}
use types.Tokens.{shr_bor-open, obor_close}
use types.Within.{tokens_halve}
use denote.Memory.{part_at}
use denote.Opens.{Shut}
use denote.Plain.{uint_in, uint_out}
use denote.RattleType.{RattleType}
use denote.RawPtr.{Ptr, block_ptr, in_a_block}
use Rattle.vx_shared.specs.Counted.{key, count_at, value_and_block, value_shared, counted_owns, counted_shares}
use Rattle.vx_shared.specs.Saturating.{Id, ν, ticket, tally, Inv, handle}
use Rattle.vx_shared.proofs.CountedSteps.{word, Word, word_type, back_word}
use Rattle.vx_shared.proofs.Saturating as count

module _ (R : RattleType) (c : Ptr) (x : R.Denot) where
  abbrev P : Fml
  P = value_and_block R c x

  abbrev pub box : Id → Fml
  box = count.box (key c) (count_at c) P

  abbrev pub cell : ℕ → ℕ → ℕ → Fml
  cell n b o = fat full_share (ty_int w64) b (o + 0) (vint w64 n)

  abbrev pub Shuts : {M : Type 1} {𝓤 : Ura M} (𝓛 : Logic 𝓤) → Id → Item 𝓤
  Shuts 𝓛 a = raw (count.Shut (key c) (count_at c) P 𝓛 a)

  module _ {M : Type 1} {𝓤 : Ura M} {𝓛 : Logic 𝓤} {K : Type 0} {Γ : List (Item 𝓤)} {G : Goal 𝓤 𝓛.H} (a : Id) where
    pub twice : K → Step K 𝓛 (‵ (box a) ∷ ‵ (box a) ∷ Γ) G (‵ (box a) ∷ Γ) G
    twice t = step (λ s. use1 𝓛 (‵ (box a) ⊛ ‵ (box a)) (na_inv_dup 𝓛 (key c) (Inv (key c) (count_at c) P a)) $ split t $ s)

    pub enters : K → Soaks G → (s : Share)
        → ((y : Bool) (n b o : ℕ) → c ≡ block_ptr b o → n < 2 ^ 64 → 0 < n → Seq K 𝓛 (‵ (cell n b o) ∷ ‵ (tally P a y n) ∷ ‵ (flft (ν a) s) ∷ Shuts 𝓛 a ∷ Γ) G)
        → Seq K 𝓛 (‵ (box a) ∷ ‵ (flft (ν a) s) ∷ ‵ (ftok every) ∷ Γ) G
    enters t z s k = use3 𝓛 (later (some (λ (u : Bool × ℕ). ‵ (count_at c u.1) ⊛ (‵ (tally P a u.0 u.1) ⊛ (‵ (flft (ν a) s) ⊛ Shuts 𝓛 a))))) (count.opens (key c) (count_at c) P 𝓛 a s) $ await t z $ pick t (λ u.
        split t $ move t (1 ∷ []) $ split t $ use1 𝓛 (given (0 < u.1) (‵ (tally P a u.0 u.1))) (count.some_owner 𝓛 a P u.0 u.1) $ learn t (λ some'. move t (1 ∷ []) $ split t $ move t (3 ∷ []) $
        in_a_block t c (λ r. count_at r u.1) (id⊢ 𝓤 (never 𝓤)) (λ b o at. use1 𝓛 (‵ (cell u.1 b o)) (uint_out 𝓛 full_share w64 u.1 b (o + 0)) $ well_typed t (λ ok. move t (0 ∷ 3 ∷ 1 ∷ 2 ∷ []) $ k u.0 u.1 b o at ok.1.fits some'))))

    pub shuts_at : K → Soaks G → (y : Bool) (n b o : ℕ) → c ≡ block_ptr b o → Step K 𝓛 (‵ (ftok every) ∷ Γ) G (‵ (cell n b o) ∷ ‵ (tally P a y n) ∷ Shuts 𝓛 a ∷ Γ) G
    shuts_at t z y n b o at = step (λ next. use1 𝓛 (‵ (count_at (block_ptr b o) n)) (uint_in 𝓛 full_share w64 n b (o + 0)) $ rewrite t 0 (λ (r : Ptr). ‵ (count_at r n)) (sym at) refl $
        use3 𝓛 (later (‵ (ftok every))) (count.shut (key c) (count_at c) P 𝓛 a y n) $ await t z $ next)

    pub ends : K → Soaks G → Step K 𝓛 (‵ (ftok every) ∷ Γ) G (‵ (fdead (ν a)) ∷ Shuts 𝓛 a ∷ Γ) G
    ends t z = step (λ next. use2 𝓛 (later (‵ (ftok every))) (count.over (key c) (count_at c) P 𝓛 a) $ await t z $ next)

  module _ {M : Type 1} {𝓤 : Ura M} {𝓛 : Logic 𝓤} {K : Type 0} {Γ : List (Item 𝓤)} {G : Goal 𝓤 𝓛.H} where
    pub lent_out : K → Soaks G → {κ : Lft} {q : Share}
        → ((a : Id) (s : Share) → Seq K 𝓛 (‵ (flft (ν a) s) ∷ ‵ (box a) ∷ ‵ (value_shared R c x (ν a)) ∷ ‵ (fobor κ q (flft (ν a) s)) ∷ Γ) G)
        → Seq K 𝓛 (‵ (counted_shares R c x κ) ∷ ‵ (flft κ q) ∷ Γ) G
    lent_out t z k = fpick t (λ a. fsplit3 t $ move t (0 ∷ 3 ∷ []) $ shr_bor-open t z (tokens_halve 𝓛 (ν a)) (λ s. move t (1 ∷ 2 ∷ 3 ∷ 0 ∷ []) $ k a s))

    pub lent_back : K → Soaks G → {κ : Lft} {q : Share} (a : Id) (s : Share) → Step K 𝓛 (‵ (flft κ q) ∷ Γ) G (‵ (flft (ν a) s) ∷ ‵ (fobor κ q (flft (ν a) s)) ∷ Γ) G
    lent_back t z a s = step (λ next. move t (1 ∷ 0 ∷ []) $ obor_close t z $ drop t $ next)

  module _ {M : Type 1} {𝓤 : Ura M} {𝓛 : Logic 𝓤} {K : Type 0} {Γ : List (Item 𝓤)} {G : Goal 𝓤 𝓛.H} where
    -- all goes back, and the ticket is another owner's: [the whole token; the thread's token; the
    -- other owner]
    pub owner_made : K → Soaks G → {κ : Lft} {q : Share} (a : Id) (s r : Share) (y : Bool) (n b o b' o' : ℕ) → c ≡ block_ptr b o → Step K 𝓛 (‵ (flft κ q) ∷ ‵ (ftok every) ∷ ‵ (counted_owns R c x) ∷ Γ) G
        (‵ (tally P a y n) ∷ ‵ (ticket a) ∷ ‵ (cell n b o) ∷ ‵ (flft (ν a) s) ∷ Shuts 𝓛 a ∷ ‵ (box a) ∷ ‵ (value_shared R c x (ν a)) ∷ ‵ (fobor κ (Share.right q) (flft (ν a) s))
        ∷ ‵ (fat r (word_type R) b' o' (word c)) ∷ Shut 𝓛 κ (Share.left q) (part_at (Word R) r (c, tt) b' o') ∷ Γ) G
    owner_made t z {κ} {q} a s r y n b o b' o' at = step (λ next. move t (1 ∷ 5 ∷ 6 ∷ []) $ fjoin3 t $ fpack t Id (handle (key c) (count_at c) P (value_shared R c x)) a $
        move t (2 ∷ 1 ∷ 4 ∷ []) $ shuts_at a t z y n b o at $ move t (2 ∷ 3 ∷ []) $ lent_back t z a s $ move t (3 ∷ 4 ∷ []) $ back_word R c t z b' o' r $ use2 𝓛 (‵ (flft κ q)) (𝓛.lfts.lft_join κ q) $ next)
