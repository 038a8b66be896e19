-- The law of outlines: the nodes of a typed body are those of its outline with the types of its nodes.
use Rattle.std.specs.Prelude.{◌≡◌, false, List, ◌∷◌, length}
use Rattle.lk_ast.specs.declared.declaration.TableDecl.{TableDecl}
use Rattle.lk_ast.specs.declared.expression.Expr.{Expr}
use Rattle.lk_ast.specs.declared.place.Word.{Word}
use Rattle.lk_types.specs.Rows.{EffectSet, effects_of}
use Rattle.lk_types.specs.declared.ground.Ground.{Ground}
use Rattle.lk_typing.specs.Names.{Named, Entry, names_of, texts}
use Rattle.lk_typing.specs.Typing.{HasType}
use Rattle.lk_sound.specs.Nodes.{nodes_of}
use Rattle.lk_outline.specs.Outline.{body_outline}
use Rattle.lk_outline.specs.Typed.{typed_nodes}

-- of a body with these parameters, in a function with these effects
abbrev pub OutlineLaw : Type 0
OutlineLaw = (functions : Named (Entry Ground)) (tables : List TableDecl) (params : Named Ground) (words : List Word) (effects : EffectSet) (body : Expr) (t : Ground) (inside : List Ground)
    → names_of params ≡ texts words
    → (d : HasType functions tables params effects body t inside)
    → nodes_of false d ≡ typed_nodes (effects_of effects) (t ∷ inside) (body_outline words body)

-- it has as many nodes as the outline
abbrev pub LengthLaw : Type 0
LengthLaw = (functions : Named (Entry Ground)) (tables : List TableDecl) (params : Named Ground) (words : List Word) (effects : EffectSet) (body : Expr) (t : Ground) (inside : List Ground)
    → HasType functions tables params effects body t inside
    → length (t ∷ inside) ≡ length (body_outline words body)
