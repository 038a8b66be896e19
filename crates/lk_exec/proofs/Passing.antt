-- What holds where a call passed.
use Rattle.std.specs.Prelude.{OnOk, Result, Ok, Err}

-- what always holds does where a call passed
pub always_on_ok : {T E P : Type 0} (result : Result T E) → P → OnOk result P
always_on_ok (Ok x) holds = holds
always_on_ok (Err e) holds = tt
