-- What a call answered, seen another way.
use Rattle.std.specs.Prelude.{Result, Ok, Err, IfOk}

pub ok-as : {A E : Type 0} (r : Result A E) (P Q : A → Type 0) → ((a : A) → P a → Q a) → IfOk r P → IfOk r Q
ok-as (Ok a) P Q f h = f a h
ok-as (Err e) P Q f h = h
