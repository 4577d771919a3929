use Rattle.std.proofs.Common.{◌≡◌, ◌++◌, length, drop, inl, inr, refl, subst, sym, ◌∙◌, arith}
use Rattle.std.proofs.lemmas.Bool.{cases_lt}
use Rattle.vx_words.specs.Takes.{front_at}
use Rattle.vx_words.proofs.TakenItems.{front_whole}
use Rattle.vx_words.proofs.take.take_records.Goals as goal

pub returns-in-None : goal.returns-in-None
returns-in-None g c =
    let src = c.args.src.now in
    let indices = c.args.indices.now in
    let valid = c.args.valid.now in
    let fill = c.args.fill in
    let old = c.args.dst.now in
    let new = c.gather.new.dst in
    let count = c.gather.result in
    let front = c.gather.ensures.front in
    let all : count ≡ length indices = elim (cases_lt count (length indices)) [
      | inl less ↦ absurd (c.in-None.ensures count (c.gather.ensures.past less))
      | inr more ↦ omega (arith, front.within, more)
    ] in
    record {
      fault = λ some. absurd (some (sym c.fault_of_take-fault.ensures ∙ c.if-fault-ne-DONE.false));
      fits = λ _. inl refl;
      inside = λ _. c.in-None.ensures;
      past = λ e. absurd (omega (arith, e));
      count = λ _. refl;
      untold = λ is. absurd (elim is [ inl e ↦ omega (arith, e) | inr e ↦ omega (arith, e) ]);
      items = λ _. subst (λ n. new ≡ front_at fill src indices valid n ++ drop n old) all (front_whole fill src indices valid old new count front);
      refused = λ no. absurd (no refl);
    }
