-- The ghost steps of a count that saturates (`specs/Saturating.antt`). Assumes `Logic`.
--     ticket_of, standing_counts      an owner is made of a share;  while the count is exact it is a counted one
--     some_owner, more, stays, less, last      no count is 0;  another owner is counted;  at a full count it is not, and the value stays;  one less;  the last takes the value
--     opens, shut, over      any share of ν's token opens the invariant;  it is shut at another count;  or for good, once ν is over
--     made      the first owner.        owner_laws, Lends-owner, owner_sees      an owner is lent, and a `&` to one holds what a `&` to the value holds
use mathlib.Core.Path.{◌≡◌, refl, subst}
use mathlib.Core.Bool.{Bool, true, false}
use Prim.Native.Nat.{ℕ, ◌+◌, ◌-◌, ◌<◌}
use native.Mathlib.Omega.{arith}
use mathlib.Core.List.{[], ◌∷◌}
use seplogic.Ra.Ura.{Ura}
use lib.Dec.{lit<}
use base.Fraction.{full_share}
use base.FractionLaws.{Counts, Counts-all}
use base.Share
use base.Logic.{SProp, ent, sep, wand, ex, guard, upd_i, id⊢, never, never_e, via, apply∗}
use base.Fml.{Lft, Key, Incl, Incl-trans, Share, Fml, ftrue, fsep, fseps, fwand, fupd, fdead, flft, flent, fbor, ftok}
use base.Mask.{every, just, less as without, take}
use contract.BorrowLft.{meet_⊑_left, meet_⊑_right}
use ghost.Rules.{span, thinned}
use types.Logic.{Logic, sem, lfts}
use types.Kit.{‵, raw, ◌⊛◌, some as exists, given, later, await, ◌$◌, ◌∵◌, !, qed, by, use1, use2, move, keep, drop, split, split3, join, group, check, learn, show, pick, updating, now, frame, assume, suffices, done, fsplit, fsplit3, fjoin, fjoin3, fpick, fpack}
use types.Tokens.{lft_new, lft_end, bor_new, bor_open, obor_alter, bor_fracture, lent_back, one_token}
use types.Na.{na_inv, na_inv_new, na_inv_acc, na_inv_dup}
use types.RcWeak.{part, rest, part_in, rest_some, cut, takes, gives, whole}
use denote.Hidden.{kept, kept_shr_laws}
use denote.Moves.{moves_from}
use denote.Sharing.{ShrLaws, beside, one, held}
use denote.SharingLaws.{contraction, some_shr_laws, beside_shr_laws, one_shr_laws, held_shr_laws}
use denote.Steps.{nothing}
use denote.Struct.Lending.{Lends}
use Rattle.vx_shared.specs.Saturating.{limit, Id, ν, σ, standing, stake, ticket, saturated, exact, tally, counting, state, Inv, handle, lent, owner_owns, owner_lends}

module _ {M : Type 1} {𝓤 : Ura M} (𝓛 : Logic 𝓤) (a : Id) where
  open 𝓛 use {H, A}

  not_dead : (κ : Lft) (s : Share) (X : SProp 𝓤) → ent 𝓤 (sep 𝓤 (A.lft κ s) (A.dead κ)) X
  not_dead κ s X = via 𝓤 (never 𝓤) (𝓛.lfts.lft-dead κ s) (never_e 𝓤 X)

  pub ticket_of : (s : Share) (y : Bool) → ent 𝓤 (sep 𝓤 (A.lft (ν a) s) (sem 𝓛 (standing a s y))) (sem 𝓛 (ticket a))
  ticket_of s y = qed 𝓛 (‵ (flft (ν a) s) ∷ ‵ (standing a s y) ∷ []) ∵ fjoin ! $ fpack ! (Share × Bool) (stake a) (s, y) $ done !

  counted : ent 𝓤 (sem 𝓛 (part 64 a.0)) (sem 𝓛 (ticket a))
  counted = qed 𝓛 (‵ (part 64 a.0) ∷ []) ∵ fpick ! (λ s. fpick ! (λ one'. nothing ! $ fpack ! (Counts 64 s 1) (λ _. ftrue) one' $ move ! (1 ∷ 0 ∷ []) $ by ! (ticket_of s true)))

  -- the invariant's own token of σ refutes an owner that shows σ dead
  standing_counts : (s : Share) (y : Bool) → ent 𝓤 (sep 𝓤 (A.lft (σ a) full_share) (sem 𝓛 (standing a s y))) (guard 𝓤 (Counts 64 s 1) (A.lft (σ a) full_share))
  standing_counts s true = qed 𝓛 (‵ (flft (σ a) full_share) ∷ ‵ (standing a s true) ∷ []) ∵ move ! (1 ∷ []) $ fpick ! (λ one'. drop ! $ check ! one' $ done !)
  standing_counts s false = not_dead (σ a) full_share _

  -- at a full count: what is left of ν's token is halved for one more owner
  one_more : (n : ℕ) → n ≡ limit → (r : Share) → (P : Fml) → ent 𝓤 (sep 𝓤 (A.dead (σ a)) (A.lft (ν a) r)) (sep 𝓤 (sem 𝓛 (tally P a false n)) (sem 𝓛 (ticket a)))
  one_more n is_full r P =
      qed 𝓛 (‵ (fdead (σ a)) ∷ ‵ (flft (ν a) r) ∷ []) ∵ use1 𝓛 (‵ (fdead (σ a)) ⊛ ‵ (fdead (σ a))) (𝓛.lfts.dead_dup (σ a)) $ split ! $ move ! (2 ∷ []) $
      use1 𝓛 (‵ (flft (ν a) (Share.left r)) ⊛ ‵ (flft (ν a) (Share.right r))) (𝓛.lfts.lft_split (ν a) r) $ split ! $ move ! (0 ∷ 2 ∷ []) $
      use2 𝓛 (‵ (ticket a)) (ticket_of (Share.left r) false) $ move ! (1 ∷ []) $ fpack ! Share (λ s. flft (ν a) s) (Share.right r) $ move ! (2 ∷ 0 ∷ []) $ fjoin ! $
      fpack ! (n ≡ limit) (λ _. saturated a) is_full $ done !

  module _ (P : Fml) where
    pub some_owner : (y : Bool) (n : ℕ) → ent 𝓤 (sem 𝓛 (tally P a y n)) (guard 𝓤 (0 < n) (sem 𝓛 (tally P a y n)))
    some_owner true n = qed 𝓛 (‵ (tally P a true n) ∷ []) ∵ fsplit ! $ use1 𝓛 (given (0 < n) (‵ (rest 64 a.0 n))) (rest_some 64 𝓛 a.0 n) $ learn ! (λ p. check ! p $ fjoin ! $ done !)
    some_owner false n = qed 𝓛 (‵ (tally P a false n) ∷ []) ∵ fpick ! (λ e. check ! (omega (arith, e)) $ fpack ! (n ≡ limit) (λ _. saturated a) e $ done !)

    pub more : (y : Bool) (n : ℕ) → n < limit → ent 𝓤 (sem 𝓛 (tally P a y n)) (sep 𝓤 (sem 𝓛 (tally P a true (n + 1))) (sem 𝓛 (ticket a)))
    more true n room = qed 𝓛 (‵ (tally P a true n) ∷ []) ∵ fsplit ! $ use1 𝓛 (‵ (rest 64 a.0 (n + 1)) ⊛ ‵ (part 64 a.0)) (takes 64 𝓛 a.0 n (omega (arith, room))) $ split ! $
        move ! (0 ∷ 2 ∷ []) $ fjoin ! $ move ! (1 ∷ []) $ use1 𝓛 (‵ (ticket a)) counted $ move ! (1 ∷ []) $ done !
    more false n room = qed 𝓛 (‵ (tally P a false n) ∷ []) ∵ fpick ! (λ e. absurd (omega (arith, room, e)))

    pub stays : (y : Bool) (n : ℕ) → n ≡ limit → ent 𝓤 (sem 𝓛 (tally P a y n)) (H.⇛ (sep 𝓤 (sem 𝓛 (tally P a false n)) (sem 𝓛 (ticket a))))
    stays true n is_full = qed 𝓛 (‵ (tally P a true n) ∷ []) ∵ updating ! $ fsplit3 ! $ move ! (2 ∷ []) $ lft_end ! tt $ move ! (2 ∷ []) $ drop ! $ move ! (1 ∷ []) $
        fpick ! (λ r. fpick ! (λ _. move ! (1 ∷ 0 ∷ []) $ now ! $ by ! (one_more n is_full r P)))
    stays false n is_full = qed 𝓛 (‵ (tally P a false n) ∷ []) ∵ updating ! $ fpick ! (λ _. fsplit ! $ move ! (1 ∷ []) $ fpick ! (λ r. move ! (1 ∷ 0 ∷ []) $ now ! $ by ! (one_more n is_full r P)))

    -- an owner's part, where the count is exact
    its_part : (n : ℕ) → ent 𝓤 (sep 𝓤 (sem 𝓛 (exact P a n)) (sem 𝓛 (ticket a))) (sep 𝓤 (sep 𝓤 (sem 𝓛 (rest 64 a.0 n)) (sem 𝓛 (part 64 a.0))) (sep 𝓤 (sem 𝓛 (flent (ν a) P)) (A.lft (σ a) full_share)))
    its_part n = qed 𝓛 (‵ (exact P a n) ∷ ‵ (ticket a) ∷ []) ∵ fsplit3 ! $ move ! (3 ∷ []) $ fpick ! (λ e. fsplit ! $ move ! (4 ∷ 1 ∷ []) $
        use2 𝓛 (given (Counts 64 e.0 1) (‵ (flft (σ a) full_share))) (standing_counts e.0 e.1) $ learn ! (λ one'. move ! (1 ∷ []) $ use1 𝓛 (‵ (part 64 a.0)) (part_in 64 𝓛 a.0 e.0 one') $
        move ! (2 ∷ 0 ∷ []) $ join ! $ move ! (0 ∷ 2 ∷ 1 ∷ []) $ done !))

    pub less : (y : Bool) (n : ℕ) → 1 < n → n < limit → ent 𝓤 (sep 𝓤 (sem 𝓛 (tally P a y n)) (sem 𝓛 (ticket a))) (sem 𝓛 (tally P a true (n - 1)))
    less true n many room = qed 𝓛 (‵ (tally P a true n) ∷ ‵ (ticket a) ∷ []) ∵
        use2 𝓛 ((‵ (rest 64 a.0 n) ⊛ ‵ (part 64 a.0)) ⊛ (‵ (flent (ν a) P) ⊛ ‵ (flft (σ a) full_share))) (its_part n) $ split ! $
        use1 𝓛 (‵ (rest 64 a.0 (n - 1))) (gives 64 𝓛 a.0 n many) $ move ! (1 ∷ []) $ split ! $ fjoin ! $ move ! (1 ∷ 0 ∷ []) $ fjoin ! $ done !
    less false n many room = qed 𝓛 (‵ (tally P a false n) ∷ ‵ (ticket a) ∷ []) ∵ fpick ! (λ e. absurd (omega (arith, room, e)))

    pub last : (y : Bool) → ent 𝓤 (sep 𝓤 (sem 𝓛 (tally P a y 1)) (sem 𝓛 (ticket a))) (H.⇛ (sep 𝓤 (sem 𝓛 P) (A.dead (ν a))))
    last true = qed 𝓛 (‵ (tally P a true 1) ∷ ‵ (ticket a) ∷ []) ∵ updating ! $
        use2 𝓛 ((‵ (rest 64 a.0 1) ⊛ ‵ (part 64 a.0)) ⊛ (‵ (flent (ν a) P) ⊛ ‵ (flft (σ a) full_share))) (its_part 1) $ split ! $
        use1 𝓛 (‵ (flft (ν a) full_share)) (whole 64 𝓛 a.0) $ lft_end ! tt $ use1 𝓛 (‵ (fdead (ν a)) ⊛ ‵ (fdead (ν a))) (𝓛.lfts.dead_dup (ν a)) $ split ! $
        move ! (2 ∷ []) $ split ! $ move ! (2 ∷ 0 ∷ []) $ lent_back ! tt $ now ! $ keep ! (0 ∷ 2 ∷ []) $ done !
    last false = qed 𝓛 (‵ (tally P a false 1) ∷ ‵ (ticket a) ∷ []) ∵ fpick ! (λ e. absurd (omega (arith, e)))

module _ (k : Key) (S : ℕ → Fml) (P : Fml) where
  abbrev pub box : Id → Fml
  box a = na_inv k (Inv k S P a)

  module _ {M : Type 1} {𝓤 : Ura M} (𝓛 : Logic 𝓤) (a : Id) where
    open 𝓛 use {H, A}

    abbrev pub Shut : SProp 𝓤
    Shut = wand 𝓤 (sem 𝓛 (Inv k S P a)) (H.⇛ (A.tok every))

    abbrev pub Open : Share → Bool × ℕ → SProp 𝓤
    Open s u = sep 𝓤 (sem 𝓛 (S u.1)) (sep 𝓤 (sem 𝓛 (tally P a u.0 u.1)) (sep 𝓤 (A.lft (ν a) s) Shut))

    entered : ent 𝓤 (sep 𝓤 (sem 𝓛 (box a)) (A.tok every)) (H.⇛ (sep 𝓤 (sem 𝓛 (Inv k S P a)) Shut))
    entered = qed 𝓛 (‵ (box a) ∷ ‵ (ftok every) ∷ []) ∵ updating ! $ move ! (1 ∷ []) $
        use1 𝓛 (‵ (ftok (just k)) ⊛ ‵ (ftok (without every k))) (𝓛.invs.tok_cut every (just k) (without every k) (take every k refl)) $ split ! $ move ! (2 ∷ 0 ∷ []) $
        use2 𝓛 (later (‵ (Inv k S P a) ⊛ raw (wand 𝓤 (sem 𝓛 (Inv k S P a)) (H.⇛ (A.tok (just k)))))) (na_inv_acc 𝓛 k (Inv k S P a)) $ await ! tt $ split ! $ now ! $ frame ! $
        assume ! (‵ (Inv k S P a)) $ updating ! $ use2 𝓛 (later (‵ (ftok (just k)))) (apply∗ 𝓤 (sem 𝓛 (Inv k S P a)) (H.⇛ (A.tok (just k)))) $ await ! tt $ now ! $
        by ! (𝓛.invs.tok_glue every (just k) (without every k) (take every k refl))

    found : (s : Share) (y : Bool) → ent 𝓤 (sep 𝓤 (sem 𝓛 (state k S P a y)) (sep 𝓤 (A.lft (ν a) s) Shut)) (ex 𝓤 (Open s))
    found s true = qed 𝓛 (‵ (state k S P a true) ∷ ‵ (flft (ν a) s) ∷ raw Shut ∷ []) ∵ fpick ! (λ u. fsplit ! $ show ! (Open s) u $ done !)
    found s false = qed 𝓛 (‵ (state k S P a false) ∷ ‵ (flft (ν a) s) ∷ raw Shut ∷ []) ∵ keep ! (1 ∷ 0 ∷ []) $ by ! (not_dead 𝓛 a (ν a) s (ex 𝓤 (Open s)))

    pub opens : (s : Share) → ent 𝓤 (sep 𝓤 (sem 𝓛 (box a)) (sep 𝓤 (A.lft (ν a) s) (A.tok every))) (H.⇛ (ex 𝓤 (Open s)))
    opens s = qed 𝓛 (‵ (box a) ∷ ‵ (flft (ν a) s) ∷ ‵ (ftok every) ∷ []) ∵ updating ! $ move ! (0 ∷ 2 ∷ []) $ use2 𝓛 (later (‵ (Inv k S P a) ⊛ raw Shut)) entered $ await ! tt $ split ! $ now ! $
        fpick ! (λ y. move ! (0 ∷ 2 ∷ 1 ∷ []) $ by ! (found s y))

    pub shut : (y : Bool) (n : ℕ) → ent 𝓤 (sep 𝓤 (sem 𝓛 (S n)) (sep 𝓤 (sem 𝓛 (tally P a y n)) Shut)) (H.⇛ (A.tok every))
    shut y n = qed 𝓛 (‵ (S n) ∷ ‵ (tally P a y n) ∷ raw Shut ∷ []) ∵ fjoin ! $ fpack ! (Bool × ℕ) (counting k S P a) (y, n) $ fpack ! Bool (state k S P a) true $ by ! (apply∗ 𝓤 (sem 𝓛 (Inv k S P a)) (H.⇛ (A.tok every)))

    pub over : ent 𝓤 (sep 𝓤 (A.dead (ν a)) Shut) (H.⇛ (A.tok every))
    over = qed 𝓛 (‵ (fdead (ν a)) ∷ raw Shut ∷ []) ∵ fpack ! Bool (state k S P a) false $ by ! (apply∗ 𝓤 (sem 𝓛 (Inv k S P a)) (H.⇛ (A.tok every)))

  module _ (t : Lft → Fml) (L : ShrLaws t) where
    pub owner_laws : ShrLaws (owner_lends k S P t)
    owner_laws = some_shr_laws Id (lent k S P t) (λ a. beside_shr_laws (one (λ q. flft (ν a) q)) (beside (kept k (Inv k S P a)) (held (ν a) t)) (one_shr_laws (λ q. flft (ν a) q))
        (beside_shr_laws (kept k (Inv k S P a)) (held (ν a) t) (kept_shr_laws k (Inv k S P a)) (held_shr_laws (ν a) t L)))

    module _ {M : Type 1} {𝓤 : Ura M} (𝓛 : Logic 𝓤) where
      open 𝓛 use {H, A}

      pub made : (l : Lft) → Lends 𝓛 P t l → (μ : Lft) (q : Share) → Incl μ l
          → ent 𝓤 (sep 𝓤 (sem 𝓛 (S 1)) (sep 𝓤 (sem 𝓛 P) (A.lft μ q))) (H.⇛ (sep 𝓤 (sem 𝓛 (owner_owns k S P t)) (A.lft μ q)))
      made l lends μ q inc =
          qed 𝓛 (‵ (S 1) ∷ ‵ P ∷ ‵ (flft μ q) ∷ []) ∵ updating ! $ lft_new ! tt (λ σ'. lft_new ! tt (λ ν'. let a : Id = (ν', σ') in
          use1 𝓛 (‵ (rest 64 ν' 1) ⊛ ‵ (part 64 ν')) (cut 64 𝓛 ν' 0 full_share (lit< tt) (subst (Counts 64 full_share) (omega arith) (Counts-all 64))) $ split ! $
          move ! (4 ∷ []) $ bor_new ! tt (ν a) $
          -- [the borrow; the right to P; the others' parts; a part; σ; the count; the token]
          move ! (1 ∷ 4 ∷ []) $ fjoin ! $ move ! (2 ∷ 0 ∷ []) $ fjoin ! $ move ! (3 ∷ 0 ∷ []) $ fjoin ! $ fpack ! (Bool × ℕ) (counting k S P a) (true, 1) $ fpack ! Bool (state k S P a) true $
          use1 𝓛 (later (‵ (box a))) (na_inv_new 𝓛 k (Inv k S P a)) $ await ! tt $ move ! (2 ∷ []) $ fpick ! (λ s. fpick ! (λ one'.
          -- [the share; the invariant; the borrow; the token]
          move ! (0 ∷ 3 ∷ []) $ join ! $ move ! (2 ∷ 0 ∷ []) $
          use2 𝓛 (later (‵ (t (ν a)) ⊛ ‵ (flft (ν a) s) ⊛ ‵ (flft μ q))) (lends (ν a) ((ν a, s) ∷ (μ, q) ∷ []) (Incl-trans (meet_⊑_right (ν a) μ) inc) (meet_⊑_left (ν a) μ)) $ await ! tt $ split3 ! $
          nothing ! $ fpack ! (Counts 64 s 1) (λ _. ftrue) one' $ move ! (2 ∷ 0 ∷ []) $ use2 𝓛 (‵ (ticket a)) (ticket_of 𝓛 a s true) $ move ! (0 ∷ 3 ∷ 1 ∷ []) $ fjoin3 ! $
          fpack ! Id (handle k S P t) a $ now ! $ done !))))

      module _ (κ : Lft) where
        abbrev Owns : Fml
        Owns = owner_owns k S P t

        abbrev Lent : Fml
        Lent = owner_lends k S P t κ

        again : (a : Id) (s : Share) (y : Bool) → ent 𝓤 (sep 𝓤 (sem 𝓛 (box a)) (sep 𝓤 (sem 𝓛 (t (ν a))) (sem 𝓛 (standing a s y)))) (sem 𝓛 (fwand (fsep (fdead κ) (fseps (flft (ν a) s ∷ []))) (fupd Owns)))
        unfolding fseps
        again a s y = qed 𝓛 (‵ (box a) ∷ ‵ (t (ν a)) ∷ ‵ (standing a s y) ∷ []) ∵ assume ! (‵ (fsep (fdead κ) (fsep (flft (ν a) s) ftrue))) $ suffices ! (sem 𝓛 Owns) (upd_i 𝓤 (sem 𝓛 Owns)) $
            fsplit3 ! $ move ! (1 ∷ 5 ∷ []) $ use2 𝓛 (‵ (ticket a)) (ticket_of 𝓛 a s y) $ keep ! (0 ∷ 3 ∷ 4 ∷ []) $ fjoin3 ! $ fpack ! Id (handle k S P t) a $ done !

        by_token : (q : Share) → ent 𝓤 (sep 𝓤 (A.bor κ Owns) (A.lft κ q)) (H.⇛ (sep 𝓤 (sem 𝓛 Lent) (A.lft κ q)))
        unfolding fseps
        by_token q = qed 𝓛 (‵ (fbor κ Owns) ∷ ‵ (flft κ q) ∷ []) ∵ updating ! $ bor_open ! tt $ move ! (1 ∷ []) $ fpick ! (λ a. fsplit3 ! $ fpick ! (λ e. fsplit ! $ move ! (2 ∷ []) $
            use1 𝓛 (‵ (box a) ⊛ ‵ (box a)) (na_inv_dup 𝓛 k (Inv k S P a)) $ split ! $ move ! (4 ∷ []) $
            use1 𝓛 (‵ (t (ν a)) ⊛ ‵ (t (ν a))) (contraction 𝓛 t L (ν a)) $ split ! $
            -- [what is seen, twice; the invariant, twice; the share; why it stands; the open
            -- borrow]
            move ! (2 ∷ 0 ∷ 5 ∷ []) $ group ! 3 $ use1 𝓛 (‵ (fwand (fsep (fdead κ) (fseps (flft (ν a) e.0 ∷ []))) (fupd Owns))) (again a e.0 e.1) $
            nothing ! $ move ! (4 ∷ 0 ∷ []) $ fjoin ! $ move ! (4 ∷ 0 ∷ 1 ∷ []) $ obor_alter ! tt (flft (ν a) e.0 ∷ []) $
            use1 𝓛 (‵ (fbor κ (flft (ν a) e.0)) ⊛ ‵ ftrue) (id⊢ 𝓤 _) $ split ! $ bor_fracture ! tt (λ r. flft (ν a) r) e.0 $ move ! (0 ∷ 4 ∷ 3 ∷ []) $ fjoin3 ! $
            fpack ! Id (λ b. lent k S P t b κ) a $ now ! $ keep ! (0 ∷ 2 ∷ []) $ done !))

      pub Lends-owner : (l : Lft) → Lends 𝓛 (owner_owns k S P t) (owner_lends k S P t) l
      Lends-owner l κ ts inc sp = qed 𝓛 (‵ (fbor κ (Owns κ)) ∷ raw (lfts 𝓛 ts) ∷ []) ∵ updating ! $ move ! (1 ∷ []) $
          use1 𝓛 (exists (λ (q : Share). ‵ (flft (span ts) q) ⊛ raw (wand 𝓤 (A.lft (span ts) q) (lfts 𝓛 ts)))) (one_token 𝓛 ts) $ pick ! (λ q. split ! $
          use1 𝓛 (‵ (flft κ (thinned κ q)) ⊛ raw (wand 𝓤 (A.lft κ (thinned κ q)) (A.lft (span ts) q))) (𝓛.lfts.lft-incl (span ts) κ q sp) $ split ! $ move ! (3 ∷ 0 ∷ []) $
          use2 𝓛 (later (‵ (Lent κ) ⊛ ‵ (flft κ (thinned κ q)))) (by_token κ (thinned κ q)) $ await ! tt $ split ! $ move ! (1 ∷ 2 ∷ []) $
          use2 𝓛 (‵ (flft (span ts) q)) (apply∗ 𝓤 (A.lft κ (thinned κ q)) (A.lft (span ts) q)) $ move ! (0 ∷ 2 ∷ []) $ use2 𝓛 (raw (lfts 𝓛 ts)) (apply∗ 𝓤 (A.lft (span ts) q) (lfts 𝓛 ts)) $
          now ! $ move ! (1 ∷ 0 ∷ []) $ done !)

      pub owner_sees : (κ : Lft) → ent 𝓤 (sem 𝓛 (owner_lends k S P t κ)) (sem 𝓛 (t κ))
      owner_sees κ = qed 𝓛 (‵ (owner_lends k S P t κ) ∷ []) ∵ fpick ! (λ a. fsplit3 ! $ keep ! (0 ∷ 2 ∷ []) $ by ! (moves_from 𝓛 t L κ (ν a) (ν a) (meet_⊑_left (ν a) κ)))
