-- How many nodes each form of ground type has.
use Rattle.std.proofs.Common.{◌≡◌, ◌+◌, List, length, map}
use Rattle.std.specs.Prelude.{sum}
use Rattle.lk_types.specs.declared.ground.Ground.{Ground}
use Rattle.lk_types.specs.declared.ground.Ground.TheFolds.{the_lemmas}
use Rattle.lk_types.specs.declared.ground.Ground.TheVariants as known
use Rattle.lk_types.specs.declared.ground.GroundField.{GroundField}
use Rattle.lk_types.specs.declared.ty.Effect.{Effect}
use Rattle.lk_ground_types.specs.Sizes.{field_nodes, ground_nodes}

pub ground_int : ground_nodes known.Int ≡ 1
unfolding ground_nodes
ground_int = search the_lemmas

pub ground_bool : ground_nodes known.Bool ≡ 1
unfolding ground_nodes
ground_bool = search the_lemmas

pub ground_text : ground_nodes known.Text ≡ 1
unfolding ground_nodes
ground_text = search the_lemmas

pub ground_list : (t : Ground) → ground_nodes (known.List t) ≡ 1 + ground_nodes t
unfolding ground_nodes
ground_list t = search the_lemmas

pub ground_fields : (fs : List GroundField) → ground_nodes (known.Fields fs) ≡ 1 + sum (map field_nodes fs)
unfolding ground_nodes field_nodes
ground_fields fs = search the_lemmas

pub ground_tags : (fs : List GroundField) → ground_nodes (known.Tags fs) ≡ 1 + sum (map field_nodes fs)
unfolding ground_nodes field_nodes
ground_tags fs = search the_lemmas

pub ground_function : (ps : List Ground) (es : List Effect) (t : Ground) → ground_nodes (known.Fun ps es t) ≡ 1 + (sum (map ground_nodes ps) + (length es + ground_nodes t))
unfolding ground_nodes
ground_function ps es t = search the_lemmas

pub field_is : (f : GroundField) → field_nodes f ≡ 1 + ground_nodes f.ty
unfolding ground_nodes field_nodes
field_is f = search the_lemmas
