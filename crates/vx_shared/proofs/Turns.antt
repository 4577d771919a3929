-- A walk that opens a non-atomic invariant begins with the thread's token, and ends with it.
-- Assumes `Logic`.
--     held, tables_held      the clauses with the token in both;  and the tables below which it is held
--     proved_held      a walk at those clauses and tables meets the contract
use mathlib.Core.Path.{subst}
use seplogic.Ra.Ura.{Ura}
use mir.Syntax.{Fn, Callee}
use base.Logic.{ent, via, fst∗, snd∗}
use base.Mask.{every}
use contract.Beside.{Carries}
use contract.Monad.{fact_use}
use contract.Named.{bare_unfolds}
use contract.Running.{Running, MachineTables, tables_of, bare_tables}
use denote.Laws.{Are, Ises, owns_show, showss}
use denote.RattleType.{owns}
use denote.Signature.{Signature, types_at}
use denote.Triple.Clauses.{Clauses, Ended, closing}
use denote.Triple.Entry.{on_entry, alive}
use denote.Triple.Handed.{holding, hands}
use denote.Triple.Spec.{Meets, triple_of}
use denote.Triple.Table.{entered}
use denote.Triple.Walked.{Stays, AllGo, walk_of, walk_Meets}
use prog.Model.{Model}
use prog.Routine.{over, ◌≼⁺◌}
use prog.Wp.{WpFn}
use sound.WpLaws.{WpFn-mono}
use types.Logic.{Logic, sem}

module _ {M : Type 1} {𝓤 : Ura M} (𝓛 : Logic 𝓤) (T : Ended) (hs : Stays T.signature.params T.kept) (c : Clauses 𝓤 T) (𝓜 : Model 𝓤 𝓛.H) (𝓡 : Running 𝓤 𝓛.H 𝓜) where
  open 𝓛 use {H, A}

  abbrev S : Signature
  S = T.signature

  abbrev pub held : Clauses 𝓤 T
  held = holding 𝓤 T (A.tok every) c

  abbrev carries : Carries 𝓤 H 𝓜 (A.tok every)
  carries = subst (Carries 𝓤 H 𝓜) 𝓛.turn_is 𝓡.carries

  abbrev pub tables_held : MachineTables 𝓤 H carries.inner
  tables_held = bare_tables 𝓤 H carries.inner 𝓡.allowed 𝓡.how 𝓡.env

  pub proved_held : AllGo 𝓛 S.lifetimes S.params T.kept hs → (k : Callee) (e : Fn) → over 𝓡.env e ≼⁺ 𝓡.env k
      → ((y : (walk_of 𝓛 T hs held).Ghost) → Are (types_at S.params y.0.0) (Ises (types_at S.params y.0.0)) y.0.3 y.0.4
      → ent 𝓤 ((walk_of 𝓛 T hs held).pre y) (WpFn 𝓤 H tables_held.C tables_held.Λ e ((walk_of 𝓛 T hs held).args y) ((walk_of 𝓛 T hs held).post y)))
      → Meets 𝓛 S (𝓡.run (𝓡.env k)) (closing 𝓛 T c)
  unfolding tables_of
  proved_held go k e is walk = hands 𝓛 T (A.tok every) c 𝓜 carries 𝓡 (𝓡.env k)
      (entered 𝓤 H (triple_of 𝓛 S (closing 𝓛 T held)) tables_held.C tables_held.Λ k e (bare_unfolds 𝓤 H carries.inner 𝓡.allowed 𝓡.how 𝓡.env k e is)
      (walk_Meets 𝓛 T hs go held (WpFn 𝓤 H tables_held.C tables_held.Λ e) (WpFn-mono 𝓤 H 𝓛.laws (tables_of 𝓤 H carries.inner tables_held) e) (λ y. let Rs = types_at S.params y.0.0 in let a = y.0.3 in let vss = y.0.4 in
      let On = on_entry 𝓛 S y.0.0 y.0.1 a vss in
      fact_use 𝓤 (Are Rs (Ises Rs) a vss) (via 𝓤 (sem 𝓛 (owns Rs a vss)) (via 𝓤 On (fst∗ 𝓤 On ((held y.0.0 a).requires y.1)) (snd∗ 𝓤 (alive 𝓛 S y.0.0 y.0.1) (sem 𝓛 (owns Rs a vss)))) (owns_show 𝓛 Rs (Ises Rs) (showss 𝓛 Rs) a vss)) (walk y))))
