-- No helper calls itself, directly or through others.
use Rattle.std.specs.Prelude.{◌≡◌, ℕ, ◌<◌, Some, slice_get}
use Rattle.lk_ground.specs.declared.program.GroundFun.{GroundFun}
use Rattle.lk_ground.specs.declared.program.GroundProgram.{GroundProgram}
use Rattle.lk_types.specs.Each.{OneOf}

-- a helper calls another, both by their places in the list
abbrev pub Calls : GroundProgram → ℕ → ℕ → Type 0
Calls g caller callee = (f : GroundFun) × (slice_get g.helpers caller ≡ Some f) × OneOf (λ place. place ≡ callee) f.calls

-- the same directly or through others
pub data Leads (g : GroundProgram) (caller : ℕ) : ℕ → Type 0 where
  directly : {callee : ℕ} → Calls g caller callee → Leads g caller callee
  through : {other callee : ℕ} → Leads g caller other → Calls g other callee → Leads g caller callee

abbrev pub NoHelperCallsItself : GroundProgram → Type 0
NoHelperCallsItself g = (place : ℕ) → Leads g place place → ⊥

-- helpers have ranks, and one calls only those of a lower rank
abbrev pub AreRanked : GroundProgram → Type 0
AreRanked g = (rank : ℕ → ℕ) × ((caller callee : ℕ) → Calls g caller callee → rank callee < rank caller)
