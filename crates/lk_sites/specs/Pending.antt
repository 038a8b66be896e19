-- What is still to come in a body that is walked in text order: the types of its nodes, and the helpers that its uses call.
use Rattle.std.specs.Prelude.{ℕ, List}
use Rattle.lk_types.specs.declared.ground.Ground.{Ground}

pub record Pending : Type 0 where
  pub types : List Ground
  pub calls : List ℕ

abbrev pub pending : List Ground → List ℕ → Pending
pending types calls = record { types = types; calls = calls }
