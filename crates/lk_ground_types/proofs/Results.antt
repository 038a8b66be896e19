-- What is said of a result, in other words.
use Rattle.std.specs.Prelude.{Result, Ok, Err, OnOk}

pub on_both : {X E P Q S : Type 0} (r : Result X E) → (P → Q → S) → OnOk r P → OnOk r Q → OnOk r S
on_both (Ok x) both first second = both first second
on_both (Err error) both first second = first

pub on_any : {X E P : Type 0} (r : Result X E) → P → OnOk r P
on_any (Ok x) is = is
on_any (Err error) is = tt
