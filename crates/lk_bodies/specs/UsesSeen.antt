-- What a walk in code has found, in the words of its definition.
use Rattle.std.specs.Prelude.{List, drop, map}
use Rattle.lk_bodies.specs.Uses.{Used}
use Rattle.lk_bodies.specs.declared.uses.Found.{Found}
use Rattle.lk_bodies.specs.declared.uses.NameUse.{NameUse}
use Rattle.lk_types.specs.declared.ground.Ground.{Ground}
use Rattle.lk_typing.specs.Names.{Named}

abbrev pub seen_uses : List NameUse → Named Ground
seen_uses found = map (λ (u : NameUse). (u.name.now, u.ty.now)) found

abbrev pub used_of : Found → Used
used_of f = record { found = seen_uses f.uses; types = f.types.now }

-- behind the node whose type is the next one
abbrev pub behind_type : Used → Used
behind_type u = record { found = u.found; types = drop 1 u.types }
