-- Facts of what may be told.
use Rattle.std.proofs.Common.{◌≡◌, Bool, true, Option, None, Some, Result, Ok, Err}
use Rattle.std.specs.Prelude.{IfErr, IfOk, IfSome}

pub if_some : {X : Type 0} (o : Option X) (P Q : X → Type 0) → IfSome o P → ((x : X) → P x → Q x) → IfSome o Q
if_some None P Q h f = tt
if_some (Some x) P Q h f = f x h

pub if_both : {X : Type 0} (o : Option X) (P Q R : X → Type 0) → IfSome o P → IfSome o Q → ((x : X) → P x → Q x → R x) → IfSome o R
if_both None P Q R h k f = tt
if_both (Some x) P Q R h k f = f x h k

pub for_all : {X : Type 0} (o : Option X) (P : X → Type 0) → ((x : X) → P x) → IfSome o P
for_all None P f = tt
for_all (Some x) P f = f x

pub under : {X : Type 0} (b : Bool) (o : Option X) (P : X → Type 0) → (b ≡ true → IfSome o P) → IfSome o (λ x. b ≡ true → P x)
under b None P h = tt
under b (Some x) P h = h

pub ok_both : {X E : Type 0} (r : Result X E) (P Q R : X → Type 0) → IfOk r P → IfOk r Q → ((x : X) → P x → Q x → R x) → IfOk r R
ok_both (Ok x) P Q R h k f = f x h k
ok_both (Err e) P Q R h k f = tt

pub if_err : {X E : Type 0} (r : Result X E) (P Q : E → Type 0) → IfErr r P → ((e : E) → P e → Q e) → IfErr r Q
if_err (Ok x) P Q h f = tt
if_err (Err e) P Q h f = f e h
