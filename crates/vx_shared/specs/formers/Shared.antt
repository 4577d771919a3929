-- `Shared` as a type that may hold the type that holds it. Its value is the one that its owners
-- share.
use mathlib.Core.Path.{refl}
use mathlib.Core.Former.{Former, this, const, pair, via}
use base.Stored.{gnil}
use base.Fml.{ftrue}
use denote.RattleType.{RattleType}
use denote.Memory.{part_of}
use denote.RawPtr.{Ptr}
use denote.Sharing.{nothing}
use denote.HoleLaws.{Alike}
use denote.HolePlaces.{Recodes, struct_places, laid, one_value}
use denote.Hole.Fix.{over}
use denote.Param.Weighed.{Weighed}
use denote.Model.Placed.{view_places}
use Rattle.std.specs.declared.alloc.Global.{Global}
use Rattle.vx_shared.specs.declared.counted.Counted.{Counted}
use Rattle.vx_shared.specs.contracts.counted.Counted as counted
use Rattle.vx_shared.specs.declared.Shared.TheInside.{Inside}
use Rattle.vx_shared.specs.declared.Shared.TheView.{view, invariant}
use Rattle.vx_shared.specs.contracts.Shared as C
use Rattle.vx_shared.specs.contracts.Shared.TheInside as I

abbrev pub the_former : Former {0} → Former {0}
the_former g = g

abbrev pub the_weighed : {g : Former {0}} → Weighed g → Weighed (the_former g)
the_weighed w = w

-- the fields: a pointer and an allocator, and the value
abbrev fields : Former {0}
fields =
    via (pair (const
    (Ptr × Global)) this) Inside (λ X a. ((a.counted.ptr, a.alloc), a.counted.value))
    (λ X v. record {
      counted =
          record { ptr = v.0.0; value = v.1 };
      alloc = v.0.1;
    }) (λ X a. refl) (λ X v. refl)

abbrev with_value : {X Y : Type 0} → Counted X → Y → Counted Y
with_value c y = record { ptr = c.ptr; value = y }

module _ (R S : RattleType) (h : R.Denot → S.Denot) where
  counted_places : Alike R S h
      → Alike (counted.the_row R) (counted.the_row S) (λ c. with_value c (h c.value))
  unfolding part_of
  counted_places a = record {
    mir_same =
        λ i. (counted.the_row (one_value R (a.mir_same i) (λ _. ftrue) (λ _ _. nothing) gnil)).mir;
    own_same = λ c i.
        (counted.the_row
        (one_value R (a.mir_same i) (a.own_same c.value i) (a.shr_same c.value i) gnil)).own_val
        (with_value c tt);
    shr_same = λ c i.
        (counted.the_row
        (one_value R (a.mir_same i) (a.own_same c.value i) (a.shr_same c.value i) gnil)).shr_at
        (with_value c tt);
  }

  pub the_places : Alike R S h
      → Alike (C.the_row R) (C.the_row S) ((the_former this).map R.Denot S.Denot h)
  the_places a =
      view_places fields this view
      (λ X Y k u. refl) (λ X u. refl) R.Denot S.Denot h (C.the_row R).coded (C.the_row S).coded
      (invariant R.Denot) (invariant S.Denot) (λ u p q. refl) (λ u p q. refl)
      (λ u e. tt) (λ u e. tt)
      (over (I.the_row R)) (over (I.the_row S))
      (struct_places (I.the_type R) (I.the_type S)
      ((λ c. with_value c (h c.value)), (λ n. n, tt)) _ (λ d. refl) refl
      (laid _ _ _ (counted_places a), ((refl, (λ n. refl, λ n. refl)), tt)))

  pub the_codes_placed : Recodes R S h
      → Recodes (C.the_row R) (C.the_row S) ((the_former this).map R.Denot S.Denot h)
  the_codes_placed e d = e d
