-- Frames that go on with one another, the next one first.
use Rattle.std.specs.Prelude.{◌≡◌, ◌<◌, ◌≤◌, List, [], ◌∷◌, Option, Some, None}
use Rattle.lk_types.specs.declared.ground.Ground.{Ground}
use Rattle.lk_code.specs.Tables.{first_frame, frame_info}
use Rattle.lk_code.specs.declared.infos.FrameInfo.{FrameInfo}
use Rattle.lk_code.specs.declared.tables.CodeTables.{CodeTables}
use Rattle.lk_code.specs.declared.tables.Frame.{Frame}

-- These frames wait for a value of this type. The last one and no other is a return, and each comes to a value of the type that the one
-- behind it waits for.
abbrev pub AreChained : CodeTables → List Frame → Ground → Type 0
AreChained c [] t = ⊥
AreChained c (f ∷ []) t = (i : FrameInfo) × (frame_info c f.number ≡ Some i) × (i.hole ≡ t) × (f.number < first_frame c)
AreChained c (f ∷ g ∷ fs) t = (i : FrameInfo) × (frame_info c f.number ≡ Some i) × (i.hole ≡ t) × (first_frame c ≤ f.number) × AreChained c (g ∷ fs) i.result

-- they wait for a value of this type, or of some type
abbrev pub ChainFits : CodeTables → List Frame → Option Ground → Type 0
ChainFits c frames None = (t : Ground) × AreChained c frames t
ChainFits c frames (Some t) = AreChained c frames t
