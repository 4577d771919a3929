-- A `Counted` by value and behind a `&`. Assumes `Logic`.
--     word, Word      the machine value of a `Counted`, and its data field as a row.        told, made, read_word, back_word      it is the pointer;  and is made of it;  and is read through a `&`, and handed back
use mathlib.Core.Path.{◌≡◌, refl, ap, ◌∙◌}
use mathlib.Core.List.{List, [], ◌∷◌, ◌++◌}
use Prim.Native.Nat.{ℕ}
use seplogic.Ra.Ura.{Ura}
use mir.Syntax.{Sym, Ty, ty_ptr, ty_struct, tcons, tnil}
use mir.Val.{Val, vstruct, vcons, vnil, of_list}
use base.Logic.{ent, emp}
use base.Fml.{Lft, Share, fat, flft}
use types.Logic.{Logic, sem}
use types.Kit.{Goal, Soaks, Seq, Step, Item, step, ‵, ◌$◌, move, drop, rewrite, use0, use1}
use denote.RattleType.{RattleType}
use denote.Copied.{Struct-Copied}
use denote.Laws.{Is, shows}
use denote.Memory.{cell_at, hidden_shr, part_at}
use denote.Opens.{Opens, Shut}
use denote.RawPtr.{Ptr, ptr_val}
use denote.Shadow.{makes_shadow}
use denote.Steps.{looks, shuts, peeks}
use denote.Struct.Laws.{RawPtr-copy}
use denote.Struct.Struct.{Struct}
use denote.Struct.Owning.{shape}
use Rattle.vx_shared.specs.contracts.counted.Counted as counted

abbrev pub word : Ptr → Val
word c = vstruct (vcons (ptr_val c) vnil)

module _ (R : RattleType) where
  abbrev pub Word : RattleType
  Word = Struct (shape (counted.the_type R))

  abbrev pub name : Sym
  name = (counted.the_type R).name

  abbrev pub word_type : Ty
  word_type = ty_struct name (tcons ty_ptr tnil)

  pub told : (c : Ptr) (vs : List Val) → Is Word (c, tt) vs → vs ≡ word c ∷ []
  told c vs is = is.1.0 ∙ ap (λ (ws : List Val). vstruct (of_list (ws ++ [])) ∷ []) is.1.1.0

  pub made : {M : Type 1} {𝓤 : Ura M} (𝓛 : Logic 𝓤) (c : Ptr) → ent 𝓤 (emp 𝓤) (sem 𝓛 (Word.own_val (c, tt) (word c ∷ [])))
  made 𝓛 c = makes_shadow 𝓛 (Word.own_val (c, tt) (word c ∷ [])) (λ vss. (tt, (tt, tt))) ((ptr_val c ∷ [], tt), (refl, (refl, tt)))

  opened : {M : Type 1} {𝓤 : Ura M} (𝓛 : Logic 𝓤) → Opens 𝓛 Word
  opened {M} {𝓤 = 𝓤} 𝓛 = (Struct-Copied 𝓛 (shape (counted.the_type R)) (refl, tt) (RawPtr-copy.copied M 𝓤 𝓛, tt)).opens

  module _ (c : Ptr) {M : Type 1} {𝓤 : Ura M} {𝓛 : Logic 𝓤} {K : Type 0} {Γ : List (Item 𝓤)} {G : Goal 𝓤 𝓛.H} where
    -- [the pointer's cell; the way back]
    pub read_word : K → Soaks G → {κ : Lft} {q : Share} (b o : ℕ) → ((s : Share) → Seq K 𝓛 (‵ (fat s word_type b o (word c)) ∷ Shut 𝓛 κ q (part_at Word s (c, tt) b o) ∷ Γ) G)
        → Seq K 𝓛 (‵ (hidden_shr Word κ (c, tt) b o) ∷ ‵ (flft κ q) ∷ Γ) G
    read_word t z b o k = looks t z Word (opened 𝓛) (c, tt) b o (λ s vs. move t (3 ∷ []) $ drop t $ move t (1 ∷ []) $ peeks t Word (Is Word) (shows 𝓛 Word) (c, tt) vs (λ is. drop t $
        rewrite t 0 (λ (ws : List Val). ‵ (cell_at s Word.mir ws b o)) (told c vs is) refl $ use1 𝓛 (‵ (fat s word_type b o (word c))) (𝓛.laws.raw_at s word_type b o (word c)) $ k s))

    pub back_word : K → Soaks G → {κ : Lft} {q : Share} (b o : ℕ) (s : Share)
        → Step K 𝓛 (‵ (flft κ q) ∷ Γ) G (‵ (fat s word_type b o (word c)) ∷ Shut 𝓛 κ q (part_at Word s (c, tt) b o) ∷ Γ) G
    back_word t z b o s = step (λ next. use1 𝓛 (‵ (cell_at s Word.mir (word c ∷ []) b o)) (𝓛.laws.at_raw s word_type b o (word c)) $
        use0 𝓛 (‵ (Word.own_val (c, tt) (word c ∷ []))) (made 𝓛 c) $ move t (1 ∷ 0 ∷ []) $ shuts t z Word s (c, tt) (word c ∷ []) b o $ next)
