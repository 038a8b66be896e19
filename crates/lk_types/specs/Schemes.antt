-- What a scheme stands for: the types that its body becomes (Damas and Milner, Principal type-schemes for functional programs,
-- 1982). A row variable of it stands for rows that lack some labels.
use Rattle.std.specs.Prelude.{◌≡◌, false, Some}
use Rattle.lk_types.specs.Each.{Each}
use Rattle.lk_types.specs.Grounding.{Grounding, under}
use Rattle.lk_types.specs.Rows.{has_label}
use Rattle.lk_types.specs.declared.ground.Ground.{Ground}
use Rattle.lk_types.specs.declared.scheme.Lack.{Lack}
use Rattle.lk_types.specs.declared.scheme.Scheme.{Scheme}

abbrev pub IsLacking : Grounding → Lack → Type 0
IsLacking σ lack = has_label (σ.rows lack.var) lack.label ≡ false

-- what the body becomes, where no row in it gets a label twice and no row variable a label that it is to lack
pub record IsInstance (σ : Grounding) (scheme : Scheme) (t : Ground) : Type 0 where
  pub body : under σ scheme.body ≡ Some t
  pub lacks : Each (IsLacking σ) scheme.lacks
